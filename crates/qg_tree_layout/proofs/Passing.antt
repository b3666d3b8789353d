-- A level of nodes in which the walk meets no failure.
use Rattle.std.proofs.Common.{◌≡◌, ℕ, suc, ◌-◌, ◌*◌, ◌≤◌, Bool, true, List, [], ◌∷◌, ◌++◌, map, refl, sym, ap, ◌∙◌}
use Rattle.std.proofs.Common.{length, arith}
use Rattle.std.specs.Prelude.{Option, Some, None, Result, Ok}
use Rattle.std.specs.List.{AllByRecursion, flat_map, list_all}
use Rattle.std.proofs.lemmas.Bool.{and_from, eq-eqb, le-leb}
use Rattle.qg_num.specs.declared.key.Key.{Key}
use Rattle.qg_num.specs.declared.rule.Rule.{Rule}
use Rattle.qg_num.specs.declared.rule.Rule.TheVariants as rule
use Rattle.qg_node.specs.declared.item.Item.{Item}
use Rattle.qg_node.specs.declared.pointer.Pointer.{Pointer}
use Rattle.qg_node.specs.declared.node.Node.{Node}
use Rattle.qg_node.specs.declared.node.Node.TheVariants.{Leaf, Inner}
use Rattle.qg_node.specs.Nodes.{header_of, own_items, own_keys, own_pointers, used_bytes, is_ascending}
use Rattle.qg_super.specs.declared.superblock.Super.{Super}
use Rattle.qg_super.specs.Places.{capacity}
use Rattle.qg_image.specs.IsShaped.{is_shaped}
use Rattle.qg_image.specs.declared.failure.Failure.{Failure}
use Rattle.qg_image.specs.Failure.{first_failure, unless}
use Rattle.qg_image.specs.declared.tree.TreeKind.{TreeKind}
use Rattle.qg_image.specs.declared.expected.Expected.{Expected}
use Rattle.qg_image.specs.Walk.{begins_at, ends_before, found_failure, is_generation, is_item_of, is_owner, is_told}
use Rattle.qg_image.specs.Walk.{next_key, node_failure, pointers_failure, root_expected, shape_failure, way_failure}
use Rattle.qg_tree_layout.specs.Build.{Allows}
use Rattle.qg_tree_layout.specs.Row.{first_key, pointer_to, address_of, IsRowNode, IsFull}
use Rattle.qg_tree_layout.proofs.Keys.{HasKeys, begins_itself, ends_there, first_itself, ascending_back}
use Rattle.qg_tree_layout.proofs.Keys.{ascending_front}
use Rattle.qg_tree_layout.proofs.Frame.{Judge, neither, none_of_two}

-- a node's items pass the test
abbrev pub HoldsItems : (Item → Bool) → Node → Type 0
HoldsItems holds node = list_all holds (own_items node) ≡ true

-- what a judge of nodes must accept: a node of a row that is shaped and has the keys expected, where its items pass the
-- test
pub record Accepts (judge : Judge) (holds : Item → Bool) (nodesize owner generation : ℕ) : Type 0 where
  pub each : (level : ℕ) (from to : Option Key) (address : ℕ) (node : Node)
      → IsRowNode nodesize owner generation level node → HoldsItems holds node
      → begins_at from (own_keys node) ≡ true → ends_before to (own_keys node) ≡ true
      → is_shaped nodesize from node ≡ true
      → judge (record { level = Some level; generation = Some generation; from = from; to = to }) address node ≡ None

-- ---- judges

all_kept : (a b c d : Bool) (p q r s : Rule) (address : ℕ) → a ≡ true → b ≡ true → c ≡ true → d ≡ true
    → first_failure (unless a p address ∷ unless b q address ∷ unless c r address ∷ unless d s address ∷ []) ≡ None
all_kept a b c d p q r s address ha hb hc hd = rw (ha, hb, hc, hd) refl

none_of_three : (a b c : Option Failure) → a ≡ None → b ≡ None → c ≡ None → first_failure (a ∷ b ∷ c ∷ []) ≡ None
none_of_three a b c ha hb hc = rw (ha, hb, hc) refl

kept_so : (test : Bool) (broken : Rule) (address : ℕ) → test ≡ true → unless test broken address ≡ None
kept_so test broken address h = rw h refl

is_told_so : (value n : ℕ) → n ≡ value → is_told (Some value) n ≡ true
is_told_so value n e = eq-eqb value n (sym e)

generation_told : (last generation n : ℕ) → n ≡ generation → is_generation last None generation ≡ true
    → is_generation last (Some generation) n ≡ true
generation_told last generation n e h =
    rw e (rw (eq-eqb generation generation refl) h)

way_passes : (tree : TreeKind) (super : Super) (nodesize owner generation level : ℕ) (from to : Option Key)
    (address : ℕ)
    (node : Node)
    → Allows tree super nodesize owner generation → IsRowNode nodesize owner generation level node
    → begins_at from (own_keys node) ≡ true → ends_before to (own_keys node) ≡ true
    → way_failure tree super (record { level = Some level; generation = Some generation; from = from; to = to }) address
    node ≡ None
unfolding way_failure
way_passes tree super nodesize owner generation level from to address node allows is begins ends =
    all_kept _ _ _ _ rule.Depth rule.Owner rule.Gen rule.Range address
    (is_told_so level (header_of node).level is.stands)
    (ap (is_owner tree) is.owned ∙ allows.owned)
    (generation_told super.generation generation (header_of node).generation is.made allows.made)
    (and_from _ _ begins ends)

pub way_accepts : (tree : TreeKind) (super : Super) (nodesize owner generation : ℕ)
    → Allows tree super nodesize owner generation
    → Accepts (way_failure tree super) (λ item. true) nodesize owner generation
way_accepts tree super nodesize owner generation allows = record {
  each = λ level from to address node is items begins ends shaped. way_passes tree super nodesize owner generation level
      from to address node allows is begins ends;
}

pub shape_accepts : (nodesize owner generation : ℕ)
    → Accepts (shape_failure nodesize) (λ item. true) nodesize owner generation
shape_accepts nodesize owner generation = record {
  each = λ level from to address node is items begins ends shaped. kept_so (is_shaped nodesize from node) rule.Shape
      address shaped;
}

pub node_accepts : (tree : TreeKind) (super : Super) (nodesize owner generation : ℕ)
    → Allows tree super nodesize owner generation
    → Accepts (node_failure tree super) (is_item_of tree super.generation) nodesize owner generation
unfolding node_failure
node_accepts tree super nodesize owner generation allows = record {
  each = λ level from to address node is items begins ends shaped.
      none_of_three _ _ _ (way_passes tree super nodesize owner generation level from to address node allows is begins
      ends)
      (kept_so (is_shaped super.nodesize from node) rule.Shape address
      (ap (λ (size : ℕ). is_shaped size from node) allows.same ∙ shaped))
      (kept_so (list_all (is_item_of tree super.generation) (own_items node)) rule.Item address items);
}

-- ---- one node

-- what the walk finds from an address on, where it goes on below by `below`
abbrev pub from_there : Judge → (ℕ → Result Node Failure) → (Expected → ℕ → Option Failure) → Expected → ℕ
    → Option Failure
from_there judge found below expected address = found_failure judge below expected address (found address)

from_passes : (judge : Judge) (holds : Item → Bool) (nodesize owner generation level : ℕ) (found : ℕ
    → Result Node Failure) (below : Expected → ℕ → Option Failure) (from to : Option Key) (node : Node)
    → Accepts judge holds nodesize owner generation → IsRowNode nodesize owner generation level node
    → HoldsItems holds node → found (address_of node) ≡ Ok node
    → begins_at from (own_keys node) ≡ true → ends_before to (own_keys node) ≡ true
    → is_shaped nodesize from node ≡ true
    → pointers_failure below (level - 1) to (own_pointers node) ≡ None
    → from_there judge found below (record { level = Some level; generation = Some generation; from = from; to = to })
    (address_of node) ≡ None
from_passes judge holds nodesize owner generation level found below from to node accepts is items there begins ends
    shaped under =
    rw there
    (none_of_two _ _ (accepts.each level from to (address_of node) node is items begins ends shaped)
    (ap (λ (n : ℕ). pointers_failure below (n - 1) to (own_pointers node)) is.stands ∙ under))

-- ---- several nodes beside each other

shaped_full : (nodesize : ℕ) (node : Node) → HasKeys node → IsFull nodesize node
    → is_shaped nodesize (Some (first_key (own_keys node))) node ≡ true
unfolding is_shaped
shaped_full nodesize node some full = and_from _ _ (le-leb (capacity nodesize) (4 * used_bytes node) full)
    (first_itself (own_keys node) some)

-- no failure below them
abbrev pub PassBelow : (Expected → ℕ → Option Failure) → ℕ → List Node → Type 0
PassBelow below level [] = Unit {0}
PassBelow below level (node ∷ row) =
    (pointers_failure below (level - 1) (next_key None (map pointer_to row)) (own_pointers node) ≡ None)
    × PassBelow below level row

ends_at_next : (node : Node) (row : List Node) → AllByRecursion HasKeys row
    → is_ascending (own_keys node ++ flat_map own_keys row) ≡ true
    → ends_before (next_key None (map pointer_to row)) (own_keys node) ≡ true
ends_at_next node [] some h = refl
ends_at_next node (next ∷ row) some h = cases (own_keys next) some.0 h where
  cases : (keys : List Key) → 1 ≤ length keys → is_ascending (own_keys node ++ (keys ++ flat_map own_keys row)) ≡ true
      → ends_before (Some (first_key keys)) (own_keys node) ≡ true
  cases [] one k = absurd (omega arith)
  cases (key ∷ keys) one k = ends_there (own_keys node) key (keys ++ flat_map own_keys row) k

pub row_passes : (judge : Judge) (holds : Item → Bool) (nodesize owner generation level : ℕ) (found : ℕ
    → Result Node Failure) (below : Expected → ℕ → Option Failure) (row : List Node)
    → Accepts judge holds nodesize owner generation → AllByRecursion (IsRowNode nodesize owner generation level) row
    → AllByRecursion (HoldsItems holds) row
    → AllByRecursion (λ node. found (address_of node) ≡ Ok node) row → AllByRecursion HasKeys row
    → AllByRecursion (IsFull nodesize) row
    → is_ascending (flat_map own_keys row) ≡ true → PassBelow below level row
    → pointers_failure (from_there judge found below) level None (map pointer_to row) ≡ None
row_passes judge holds nodesize owner generation level found below [] accepts are items there some full ascending
    under = refl
row_passes judge holds nodesize owner generation level found below (node ∷ row) accepts are items there some full
    ascending under =
    let to = next_key None (map pointer_to row) in
    let key = first_key (own_keys node) in
    let alone : is_ascending (own_keys node) ≡ true =
    ascending_front (own_keys node) (flat_map own_keys row) ascending in
    let here : from_there judge found below (record {
      level = Some level;
      generation = Some generation;
      from = Some key;
      to = to;
    }) (address_of node) ≡ None =
    from_passes judge holds nodesize owner generation level found below (Some key) to node accepts are.0 items.0 there.0
    (begins_itself (own_keys node) some.0 alone) (ends_at_next node row some.1 ascending)
    (shaped_full nodesize node some.0 full.0) under.0 in
    none_of_two _ _
    (ap (λ (n : ℕ). from_there judge found below (record {
      level = Some level;
      generation = Some n;
      from = Some key;
      to = to;
    }) (address_of node)) are.0.made ∙ here)
    (row_passes judge holds nodesize owner generation level found below row accepts are.1 items.1 there.1 some.1 full.1
    (ascending_back (own_keys node) (flat_map own_keys row) ascending) under.1)

-- ---- a root

pub root_passes : (judge : Judge) (holds : Item → Bool) (nodesize owner generation level : ℕ) (found : ℕ
    → Result Node Failure) (below : Expected → ℕ → Option Failure) (node : Node)
    → Accepts judge holds nodesize owner generation → IsRowNode nodesize owner generation level node
    → HoldsItems holds node → found (address_of node) ≡ Ok node
    → is_shaped nodesize None node ≡ true → pointers_failure below (level - 1) None (own_pointers node) ≡ None
    → from_there judge found below (root_expected (Some level) (Some generation)) (address_of node) ≡ None
root_passes judge holds nodesize owner generation level found below node accepts is items there shaped under =
    from_passes judge holds nodesize owner generation level found below None None node accepts is items there refl refl
    shaped under

-- ---- what is below a level

pub leaves_pass_below : (below : Expected → ℕ → Option Failure) (nodesize owner generation : ℕ) (row : List Node)
    → AllByRecursion (IsRowNode nodesize owner generation 0) row → PassBelow below 0 row
leaves_pass_below below nodesize owner generation [] are = tt
leaves_pass_below below nodesize owner generation (Leaf header items ∷ row) are =
    (refl, leaves_pass_below below nodesize owner generation row are.1)
leaves_pass_below below nodesize owner generation (Inner header pointers ∷ row) are =
    absurd (omega (arith, are.0.levelled.0, are.0.stands))

next_of_front : (to : Option Key) (front back : List Pointer)
    → next_key to (front ++ back) ≡ next_key (next_key to back) front
next_of_front to [] back = refl
next_of_front to (pointer ∷ front) back = refl

split : (walk : Expected → ℕ → Option Failure) (level : ℕ) (to : Option Key) (front back : List Pointer)
    → pointers_failure walk level to (front ++ back) ≡ None
    → (pointers_failure walk level (next_key to back) front ≡ None) × (pointers_failure walk level to back ≡ None)
split walk level to [] back h = (refl, h)
split walk level to (pointer ∷ front) back h =
    let expected : Option Key → Expected = λ next. record {
      level = Some level;
      generation = Some pointer.generation;
      from = Some pointer.key;
      to = next;
    } in
    let parts = neither (walk (expected (next_key to (front ++ back))) pointer.child)
    (pointers_failure walk level to (front ++ back)) h in
    let later = split walk level to front back parts.1 in (
      none_of_two _ _ (ap (λ (next : Option Key). walk (expected next) pointer.child)
          (sym (next_of_front to front back))
          ∙ parts.0) later.0,
      later.1,
    )

next_is : (nodesize owner generation level : ℕ) (row : List Node)
    → AllByRecursion (IsRowNode nodesize owner generation (suc level)) row
    → next_key None (flat_map own_pointers row) ≡ next_key None (map pointer_to row)
next_is nodesize owner generation level [] are = refl
next_is nodesize owner generation level (Leaf header items ∷ row) are =
    absurd (omega (arith, are.0.levelled, are.0.stands))
next_is nodesize owner generation level (Inner header [] ∷ row) are = absurd (omega (arith, are.0.levelled.2))
next_is nodesize owner generation level (Inner header (pointer ∷ pointers) ∷ row) are = refl

pub inners_pass_below : (below : Expected → ℕ → Option Failure) (nodesize owner generation level : ℕ) (row : List Node)
    → AllByRecursion (IsRowNode nodesize owner generation (suc level)) row
    → pointers_failure below level None (flat_map own_pointers row) ≡ None → PassBelow below (suc level) row
inners_pass_below below nodesize owner generation level [] are h = tt
inners_pass_below below nodesize owner generation level (node ∷ row) are h =
    let same : suc level - 1 ≡ level = omega arith in
    let parts = split below level None (own_pointers node) (flat_map own_pointers row) h in (
      rw same (ap (λ (next : Option Key). pointers_failure below level next (own_pointers node))
          (sym (next_is nodesize owner generation level row are.1)) ∙ parts.0),
      inners_pass_below below nodesize owner
          generation level row are.1 parts.1,
    )
