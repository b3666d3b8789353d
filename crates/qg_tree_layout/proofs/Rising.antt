-- A tree that is built level by level: what holds of its nodes so far and of the pointers to the highest level, and
-- that it goes on to hold.
use Rattle.std.proofs.Common.{◌≡◌, ℕ, suc, ◌≤◌, Bool, true, List, [], ◌∷◌, ◌++◌, map, refl, sym, ap, ◌∙◌, subst, length}
use Rattle.std.proofs.Common.{arith, append_assoc, take, drop}
use Rattle.std.specs.Prelude.{Option, Some, None, Result, Ok, ◌==◌}
use Rattle.std.specs.List.{AllByRecursion, IsDistinct, flat_map, list_all}
use Rattle.std.proofs.lemmas.Bool.{and_parts, and_from}
use Rattle.std.proofs.lemmas.List.{take-append-drop, map-append}
use Rattle.qg_num.specs.declared.key.Key.{Key}
use Rattle.qg_node.specs.declared.item.Item.{Item}
use Rattle.qg_node.specs.declared.pointer.Pointer.{Pointer}
use Rattle.qg_node.specs.declared.node.Node.{Node}
use Rattle.qg_node.specs.declared.node.Node.TheVariants.{Leaf, Inner}
use Rattle.qg_node.specs.Nodes.{own_items, own_keys, own_pointers, ascends_from, is_ascending}
use Rattle.qg_image.specs.IsShaped.{is_shaped}
use Rattle.qg_image.specs.Below.{joined, items_below}
use Rattle.qg_image.specs.declared.failure.Failure.{Failure}
use Rattle.qg_image.specs.declared.expected.Expected.{Expected}
use Rattle.qg_image.specs.Walk.{pointers_failure, root_expected, walk_failure}
use Rattle.qg_tree_layout.specs.Build.{IsMadeFor}
use Rattle.qg_image.specs.Among.{node_among, found_there, found_among}
use Rattle.qg_tree_layout.specs.Row.{first_key, pointer_to, address_of, IsRowNode, IsFull}
use Rattle.qg_tree_layout.proofs.Keys.{HasKeys, firsts_ascend, ascending_back, ascending_front}
use Rattle.qg_tree_layout.proofs.Frame.{Judge, AreFound, AllByRecursion-back, AllByRecursion-weaker, IsDistinct-front}
use Rattle.qg_tree_layout.proofs.Frame.{all_found}
use Rattle.qg_tree_layout.proofs.Reached.{AreReached}
use Rattle.qg_tree_layout.proofs.Passing.{Accepts, HoldsItems, PassBelow, from_there, root_passes, row_passes}

-- no failure under these pointers of a level, where a single one leads to a root
abbrev pub Pass : (Expected → ℕ → Option Failure) → ℕ → ℕ → List Pointer → Type 0
Pass walk level generation [] = Unit {0}
Pass walk level generation (pointer ∷ []) = walk (root_expected (Some level) (Some generation)) pointer.child ≡ None
Pass walk level generation (first ∷ second ∷ others) = pointers_failure walk level None (first ∷ second ∷ others) ≡ None

abbrev pub all_under : List Node → ℕ → List Pointer → Option (List Item)
all_under nodes level pointers = joined (λ pointer. items_below (node_among nodes) level pointer.child) pointers

-- what holds of the nodes so far and of the pointers to the highest level
pub record HasRisen (nodesize owner generation : ℕ) (items : List Item) (slots : List ℕ) (nodes : List Node) (level : ℕ)
    (pointers : List Pointer) : Type 0 where
  pub under : all_under nodes level pointers ≡ Some items
  pub reached : AreReached nodes level pointers
  pub ascending : is_ascending (map (λ pointer. pointer.key) pointers) ≡ true
  pub walked : (judge : Judge) (holds : Item → Bool) → Accepts judge holds nodesize owner generation
      → list_all holds items ≡ true
      → (depth : ℕ) → level ≤ depth → Pass (walk_failure judge (found_among nodes) depth) level generation pointers
  pub made : AllByRecursion (IsMadeFor nodesize owner generation) nodes
  pub placed : map address_of nodes ≡ take (length nodes) slots

-- ---- what a row's nodes have

-- the keys of leaves are those of their items, and the keys of inner nodes those of their pointers
pub leaf_keys : (nodesize owner generation : ℕ) (row : List Node)
    → AllByRecursion (IsRowNode nodesize owner generation 0) row
    → flat_map own_keys row ≡ map (λ item. item.key) (flat_map own_items row)
leaf_keys nodesize owner generation [] are = refl
leaf_keys nodesize owner generation (Leaf header items ∷ row) are =
    ap (λ (keys : List Key). map (λ item. item.key) items ++ keys) (leaf_keys nodesize owner generation row are.1)
    ∙ sym (map-append (λ (item : Item). item.key) items (flat_map own_items row))
leaf_keys nodesize owner generation (Inner header pointers ∷ row) are =
    absurd (omega (arith, are.0.levelled.0, are.0.stands))

pub inner_keys : (nodesize owner generation level : ℕ) (row : List Node)
    → AllByRecursion (IsRowNode nodesize owner generation (suc level)) row
    → flat_map own_keys row ≡ map (λ pointer. pointer.key) (flat_map own_pointers row)
inner_keys nodesize owner generation level [] are = refl
inner_keys nodesize owner generation level (Leaf header items ∷ row) are =
    absurd (omega (arith, are.0.levelled, are.0.stands))
inner_keys nodesize owner generation level (Inner header pointers ∷ row) are =
    ap (λ (keys : List Key). map (λ pointer. pointer.key) pointers ++ keys)
    (inner_keys nodesize owner generation level row are.1)
    ∙ sym (map-append (λ (pointer : Pointer). pointer.key) pointers (flat_map own_pointers row))

-- a node that is a quarter full has a key
keys_of_full : (nodesize : ℕ) (node : Node) → 102 ≤ nodesize → IsFull nodesize node → HasKeys node
keys_of_full nodesize (Leaf header []) wide full = absurd (omega arith)
keys_of_full nodesize (Leaf header (item ∷ items)) wide full = omega arith
keys_of_full nodesize (Inner header []) wide full = absurd (omega arith)
keys_of_full nodesize (Inner header (pointer ∷ pointers)) wide full = omega arith

-- each node is one of the format
node_is : (nodesize owner generation level : ℕ) (node : Node) → IsRowNode nodesize owner generation level node
    → is_ascending (own_keys node) ≡ true → IsMadeFor nodesize owner generation node
node_is nodesize owner generation level node is ascending = record {
  node_of_format = record { levelled = is.levelled; ascending = ascending; fits = is.fits };
  fits = is.numbers;
  owned = is.owned;
  made = is.made;
}

pub nodes_are : (nodesize owner generation level : ℕ) (row : List Node)
    → AllByRecursion (IsRowNode nodesize owner generation level) row → is_ascending (flat_map own_keys row) ≡ true
    → AllByRecursion (IsMadeFor nodesize owner generation) row
nodes_are nodesize owner generation level [] are ascending = tt
nodes_are nodesize owner generation level (node ∷ row) are ascending = (
  node_is nodesize owner generation level node are.0
      (ascending_front (own_keys node) (flat_map own_keys row) ascending),
  nodes_are nodesize owner generation level row are.1
      (ascending_back (own_keys node) (flat_map own_keys row) ascending),
)

-- the keys of the pointers to a row ascend
pub pointers_ascend : (nodesize : ℕ) (row : List Node) → 102 ≤ nodesize
    → (2 ≤ length row → AllByRecursion (IsFull nodesize) row) → is_ascending (flat_map own_keys row) ≡ true
    → is_ascending (map (λ pointer. pointer.key) (map pointer_to row)) ≡ true
unfolding is_ascending ascends_from
pointers_ascend nodesize [] wide full ascending = refl
pointers_ascend nodesize (node ∷ []) wide full ascending = refl
pointers_ascend nodesize (first ∷ second ∷ row) wide full ascending =
    key_of_each (first ∷ second ∷ row)
    ∙ firsts_ascend (first ∷ second ∷ row)
    (AllByRecursion-weaker (IsFull nodesize) HasKeys (λ node. keys_of_full nodesize node wide)
    (first ∷ second ∷ row) (full (omega arith))) ascending where
      keys_same : (nodes : List Node)
          → map (λ pointer. pointer.key) (map pointer_to nodes) ≡ map (λ node. first_key (own_keys node)) nodes
      keys_same [] = refl
      keys_same (node ∷ nodes) = ap (λ (keys : List Key). first_key (own_keys node) ∷ keys) (keys_same nodes)

      key_of_each : (nodes : List Node) → is_ascending (map (λ pointer. pointer.key) (map pointer_to nodes))
          ≡ is_ascending (map (λ node. first_key (own_keys node)) nodes)
      key_of_each nodes = ap is_ascending (keys_same nodes)

-- the items of each node pass a test that all items pass
pub hold_each : (holds : Item → Bool) (row : List Node) → list_all holds (flat_map own_items row) ≡ true
    → AllByRecursion (HoldsItems holds) row
hold_each holds [] h = tt
hold_each holds (node ∷ row) h =
    let parts = all_parts (own_items node) (flat_map own_items row) h in
    (parts.0, hold_each holds row parts.1) where
      all_parts : (front back : List Item) → list_all holds (front ++ back) ≡ true
          → (list_all holds front ≡ true) × (list_all holds back ≡ true)
      all_parts [] back h = (refl, h)
      all_parts (item ∷ front) back h =
          let here = and_parts (holds item) (list_all holds (front ++ back)) h in
          let later = all_parts front back here.1 in
          (and_from _ _ here.0 later.0, later.1)

pub inners_hold : (holds : Item → Bool) (nodesize owner generation level : ℕ) (row : List Node)
    → AllByRecursion (IsRowNode nodesize owner generation (suc level)) row → AllByRecursion (HoldsItems holds) row
inners_hold holds nodesize owner generation level [] are = tt
inners_hold holds nodesize owner generation level (Leaf header items ∷ row) are =
    absurd (omega (arith, are.0.levelled, are.0.stands))
inners_hold holds nodesize owner generation level (Inner header pointers ∷ row) are =
    (refl, inners_hold holds nodesize owner generation level row are.1)

-- ---- where they are found

-- the nodes of a row behind others, in the slots behind theirs
pub row_found : (slots : List ℕ) (nodes row : List Node) → IsDistinct (λ a b. a == b) slots
    → map address_of nodes ≡ take (length nodes) slots
    → map address_of row ≡ take (length row) (drop (length nodes) slots)
    → AreFound (nodes ++ row) row
row_found slots nodes row distinct placed more =
    let rest : List ℕ = drop (length nodes) slots in
    let cut : map address_of (nodes ++ row) ++ drop (length row) rest ≡ slots =
    ap (λ (front : List ℕ). front ++ drop (length row) rest) (map-append address_of nodes row)
    ∙ append_assoc (map address_of nodes) (map address_of row) (drop (length row) rest)
    ∙ ap (λ (back : List ℕ). map address_of nodes ++ back)
    (ap (λ (front : List ℕ). front ++ drop (length row) rest) more ∙ take-append-drop (length row) rest)
    ∙ ap (λ (front : List ℕ). front ++ rest) placed
    ∙ take-append-drop (length nodes) slots in
    let apart : IsDistinct (λ a b. a == b) (map address_of (nodes ++ row)) =
    IsDistinct-front (λ a b. a == b) (map address_of (nodes ++ row)) (drop (length row) rest)
    (subst (IsDistinct (λ a b. a == b)) (sym cut) distinct) in
    AllByRecursion-back (λ node. node_among (nodes ++ row) (address_of node) ≡ Some node) nodes row
    (all_found (nodes ++ row) apart)

pub found_ok : (all row : List Node) → AreFound all row
    → AllByRecursion (λ node. found_among all (address_of node) ≡ Ok node) row
found_ok all [] found = tt
found_ok all (node ∷ row) found =
    (ap (λ (there : Option Node). found_there there (address_of node)) found.0, found_ok all row found.1)

-- ---- a row passes

pub row_pass : (judge : Judge) (holds : Item → Bool) (nodesize owner generation level : ℕ) (found : ℕ
    → Result Node Failure) (below : Expected → ℕ → Option Failure) (row : List Node)
    → 102 ≤ nodesize → Accepts judge holds nodesize owner generation
    → AllByRecursion (IsRowNode nodesize owner generation level) row → AllByRecursion (HoldsItems holds) row
    → AllByRecursion (λ node. found (address_of node) ≡ Ok node) row
    → (2 ≤ length row → AllByRecursion (IsFull nodesize) row)
    → (length row ≡ 1 → AllByRecursion (λ node. is_shaped nodesize None node ≡ true) row)
    → is_ascending (flat_map own_keys row) ≡ true → PassBelow below level row
    → Pass (from_there judge found below) level generation (map pointer_to row)
row_pass judge holds nodesize owner generation level found below [] wide accepts are items there full shaped ascending
    under = tt
row_pass judge holds nodesize owner generation level found below (node ∷ []) wide accepts are items there full shaped
    ascending under =
    root_passes judge holds nodesize owner generation level found below node accepts are.0 items.0 there.0
    (shaped refl).0 under.0
row_pass judge holds nodesize owner generation level found below (first ∷ second ∷ row) wide accepts are items there
    full shaped ascending under =
    let all_full : AllByRecursion (IsFull nodesize) (first ∷ second ∷ row) = full (omega arith) in
    row_passes judge holds nodesize owner generation level found below (first ∷ second ∷ row) accepts are items there
    (AllByRecursion-weaker (IsFull nodesize) HasKeys (λ node. keys_of_full nodesize node wide)
    (first ∷ second ∷ row) all_full) all_full ascending under
