-- A tree that was built is one over what is told, where each of its nodes is told at its address.
use Rattle.std.proofs.Common.{◌≡◌, ℕ, zero, suc, ◌-◌, ◌≤◌, ◌<◌, true, false, List, [], ◌∷◌, arith, refl, sym, ap, subst}
use Rattle.std.proofs.Common.{Option, Some, None}
use Rattle.std.specs.Prelude.{Bool, ◌&&◌, Result, Ok, Err, is_none, nat_le, nat_lt}
use Rattle.std.proofs.lemmas.Bool.{and_from, and_parts, le-leb, lt-ltb}
use Rattle.qg_num.specs.declared.key.Key.{Key}
use Rattle.qg_num.specs.declared.rule.Rule.TheVariants as rule
use Rattle.qg_node.specs.declared.item.Item.{Item}
use Rattle.qg_node.specs.declared.pointer.Pointer.{Pointer}
use Rattle.qg_node.specs.declared.node.Node.{Node}
use Rattle.qg_node.specs.Nodes.{header_of, own_keys, own_pointers}
use Rattle.qg_super.specs.declared.superblock.Super.{Super}
use Rattle.qg_image.specs.Below.{items_below}
use Rattle.qg_image.specs.ItemMeaning.{when}
use Rattle.qg_image.specs.declared.failure.Failure.{Failure}
use Rattle.qg_image.specs.declared.tree.TreeKind.{TreeKind}
use Rattle.qg_image.specs.declared.expected.Expected.{Expected}
use Rattle.qg_image.specs.Among.{found_among, found_there, node_among}
use Rattle.qg_image.specs.Failure.{first_failure, unless}
use Rattle.qg_image.specs.ItemsUnder.{is_way, nodes_of}
use Rattle.qg_image.specs.Walk.{begins_at, deepest, ends_before, found_failure, is_generation, is_owner, is_told}
use Rattle.qg_image.specs.Walk.{pointers_failure, root_expected, shape_failure, walk_failure, way_failure}
use Rattle.qg_walk.specs.Standing.{expected_below, form_failure}
use Rattle.qg_walk.proofs.Failures.{neither, none_of_two}
use Rattle.qg_tree_layout.specs.Build.{Allows, IsBuilt}
use Rattle.qg_tree_layout.proofs.Frame.{Keeps, under_kept}
use Rattle.qg_tree_read.specs.Tree.{IsTree, found_in, super_for}

-- ---- what is expected of a root may be left open

four_kept : (a b c d : Bool) (address : ℕ)
    → first_failure (unless a rule.Depth address ∷ unless b rule.Owner address ∷ unless c rule.Gen address
    ∷ unless d rule.Range address ∷ []) ≡ None
    → (a ≡ true) × (b ≡ true) × (c ≡ true) × (d ≡ true)
four_kept true true true true address h = (refl, refl, refl, refl)
four_kept true true true false address h = absurd cc
four_kept true true false d address h = absurd cc
four_kept true false c d address h = absurd cc
four_kept false b c d address h = absurd cc

opened : (last told generation : ℕ) → is_generation last (Some told) generation ≡ true
    → is_generation last None generation ≡ true
opened last told generation is =
    let parts = and_parts (is_told (Some told) generation && nat_lt 0 generation) (nat_le generation last) is in
    let front = and_parts (is_told (Some told) generation) (nat_lt 0 generation) parts.0 in
    and_from (nat_lt 0 generation) (nat_le generation last) front.1 parts.1

-- a node that one way accepts is accepted by another, which expects the same keys
record IsOpener (tree : TreeKind) (super : Super) (strong weak : Expected) : Type 0 where
  way : (address : ℕ) (node : Node) → way_failure tree super strong address node ≡ None
      → way_failure tree super weak address node ≡ None
  from : weak.from ≡ strong.from
  to : weak.to ≡ strong.to

itself : (tree : TreeKind) (super : Super) (expected : Expected) → IsOpener tree super expected expected
itself tree super expected = record { way = λ address node none. none; from = refl; to = refl }

root_way : (tree : TreeKind) (super : Super) (level generation address : ℕ) (node : Node)
    → way_failure tree super (root_expected (Some level) (Some generation)) address node ≡ None
    → way_failure tree super (root_expected (Some level) None) address node ≡ None
unfolding way_failure
root_way tree super level generation address node none =
    let four = four_kept (is_told (Some level) (header_of node).level) (is_owner tree (header_of node).owner)
    (is_generation super.generation (Some generation) (header_of node).generation)
    (begins_at None (own_keys node) && ends_before None (own_keys node)) address none in
    rw (four.0, four.1, opened super.generation generation (header_of node).generation four.2) refl

root_opener : (tree : TreeKind) (super : Super) (level generation : ℕ)
    → IsOpener tree super (root_expected (Some level) (Some generation)) (root_expected (Some level) None)
root_opener tree super level generation =
    record { way = root_way tree super level generation; from = refl; to = refl }

-- ---- the walk

-- Where what is found is told, the walk of no more levels over what is told meets no failure of form, where two walks
-- over what is found meet none of the way and none of shape
module _ (tree : TreeKind) (super : Super) (found : ℕ → Result Node Failure) (map : ℕ → Option Node)
    (keeps : (address : ℕ) (node : Node) → found address ≡ Ok node → map address ≡ Some node) where
  abbrev shape : Expected → ℕ → Node → Option Failure
  shape expected address node = shape_failure super.nodesize expected address node

  pointers_both : (way shaped some : Expected → ℕ → Option Failure)
      → ((expected : Expected) (address : ℕ) → way expected address ≡ None → shaped expected address ≡ None
      → some expected address ≡ None)
      → (level : ℕ) (to : Option Key) (pointers : List Pointer) → pointers_failure way level to pointers ≡ None
      → pointers_failure shaped level to pointers ≡ None → pointers_failure some level to pointers ≡ None
  pointers_both way shaped some each level to [] a b = refl
  pointers_both way shaped some each level to (pointer ∷ pointers) a b =
      let below = expected_below level to pointer pointers in
      let one = neither (way below pointer.child) (pointers_failure way level to pointers) a in
      let two = neither (shaped below pointer.child) (pointers_failure shaped level to pointers) b in
      none_of_two (some below pointer.child) (pointers_failure some level to pointers)
      (each below pointer.child one.0 two.0) (pointers_both way shaped some each level to pointers one.1 two.1)

  found_both : (way shaped some : Expected → ℕ → Option Failure)
      → ((expected : Expected) (address : ℕ) → way expected address ≡ None → shaped expected address ≡ None
      → some expected address ≡ None)
      → (strong weak : Expected) (address : ℕ) → IsOpener tree super strong weak → (there : Result Node Failure)
      → (o : Option Node) → ((node : Node) → there ≡ Ok node → o ≡ Some node)
      → found_failure (way_failure tree super) way strong address there ≡ None
      → found_failure shape shaped strong address there ≡ None
      → found_failure (form_failure tree super) some weak address (found_there o address) ≡ None
  found_both way shaped some each strong weak address opens (Err failure) o told a b = absurd cc
  found_both way shaped some each strong weak address opens (Ok node) o told a b =
      let level = (header_of node).level - 1 in
      let one = neither (way_failure tree super strong address node)
      (pointers_failure way level strong.to (own_pointers node)) a in
      let two = neither (shape strong address node) (pointers_failure shaped level strong.to (own_pointers node)) b in
      let shape_weak : shape weak address node ≡ None = rw opens.from two.0 in
      let here = none_of_two (way_failure tree super weak address node) (shape weak address node)
      (opens.way address node one.0) shape_weak in
      let under = pointers_both way shaped some each level strong.to (own_pointers node) one.1 two.1 in
      let under_weak : pointers_failure some level weak.to (own_pointers node) ≡ None = rw opens.to under in
      rw (told node refl)
      (none_of_two (form_failure tree super weak address node) (pointers_failure some level weak.to (own_pointers node))
      here under_weak)

  walk_both : (depth level : ℕ) → level ≤ depth → (strong weak : Expected) (address : ℕ)
      → IsOpener tree super strong weak → walk_failure (way_failure tree super) found depth strong address ≡ None
      → walk_failure shape found depth strong address ≡ None
      → walk_failure (form_failure tree super) (found_in map) level weak address ≡ None
  unfolding walk_failure
  walk_both zero zero deep strong weak address opens a b =
      found_both (λ expected address. None) (λ expected address. None) (λ expected address. None)
      (λ expected address one two. refl) strong weak address opens (found address) (map address) (keeps address) a b
  walk_both (suc depth) zero deep strong weak address opens a b =
      found_both (walk_failure (way_failure tree super) found depth) (walk_failure shape found depth)
      (λ expected address. None) (λ expected address one two. refl) strong weak address opens (found address)
      (map address) (keeps address) a b
  walk_both zero (suc level) deep strong weak address opens a b = absurd (omega arith)
  walk_both (suc depth) (suc level) deep strong weak address opens a b =
      found_both (walk_failure (way_failure tree super) found depth) (walk_failure shape found depth)
      (walk_failure (form_failure tree super) (found_in map) level)
      (λ expected below one two. walk_both depth level (omega arith) expected expected below
      (itself tree super expected) one two)
      strong weak address opens (found address) (map address) (keeps address) a b

-- ---- a tree that was built

is_nothing : (given : Option Failure) → is_none given ≡ true → given ≡ None
is_nothing None h = refl
is_nothing (Some x) h = absurd cc

passed : {A : Type 0} (test : Bool) (given : Option A) (x : A) → when test given ≡ Some x → test ≡ true
passed true given x h = refl
passed false given x h = absurd cc

way_walked : (tree : TreeKind) (super : Super) (found : ℕ → Result Node Failure) (expected : Expected) (root : ℕ)
    → is_way tree super found expected root ≡ true
    → walk_failure (way_failure tree super) found deepest expected root ≡ None
unfolding is_way
way_walked tree super found expected root way =
    is_nothing (walk_failure (way_failure tree super) found deepest expected root) way

-- what is found among nodes is one of them
among : (here : Option Node) (address : ℕ) (node : Node) → found_there here address ≡ Ok node → here ≡ Some node
among None address node h = absurd cc
among (Some other) address node h = let same : other ≡ node = cc in ap (λ (n : Node). Some n) same

module _ (tree : TreeKind) (map : ℕ → Option Node) (nodesize owner next : ℕ) (items : List Item) (slots : List ℕ)
    (nodes : List Node) (root level : ℕ) (is : IsBuilt nodesize owner next items slots nodes root level)
    (keeps : Keeps (node_among nodes) map) where
  allows : (size : ℕ) → size ≡ nodesize → is_owner tree owner ≡ true → 0 < next
      → Allows tree (super_for next size) nodesize owner next
  allows size same owned later = record {
    same = same;
    owned = owned;
    made = and_from (nat_lt 0 next) (nat_le next next) (lt-ltb 0 next later) (le-leb next next (omega arith));
  }

  pub IsTree-built : (size : ℕ) → size ≡ nodesize → is_owner tree owner ≡ true → 0 < next
      → IsTree tree (super_for next size) map level root items
  IsTree-built size same owned later =
      let super = super_for next size in
      let told = root_expected (Some level) (Some next) in
      let under = is.under tree super (allows size same owned later) in
      let way = way_walked tree super (found_among nodes) told root
      (passed (is_way tree super (found_among nodes) told root) (items_below (nodes_of (found_among nodes)) level root)
      items under) in
      let shaped = subst (λ (n : ℕ). walk_failure (shape_failure n) (found_among nodes) deepest told root ≡ None)
      (sym same) is.shaped in
      record {
        walked = walk_both tree super (found_among nodes) map
            (λ address node h. keeps.each address node (among (node_among nodes address) address node h))
            deepest level is.low told (root_expected (Some level) None) root (root_opener tree super level next) way
            shaped;
        items_are = under_kept (node_among nodes) map keeps level root items is.held;
      }
