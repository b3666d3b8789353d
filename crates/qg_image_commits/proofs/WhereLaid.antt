-- Where the root, extent and quota trees of a commit lie: in the first of the slots. Addresses are in bytes.
use Rattle.std.proofs.Common.{◌≡◌, ℕ, ◌≤◌, true, List, ◌++◌, Option, get_or, map, length, take, drop, sym, ap, subst}
use Rattle.std.proofs.Common.{◌∙◌, arith}
use Rattle.std.proofs.Common.{length-append, take-append-drop}
use Rattle.std.specs.Prelude.{◌↔◌}
use Rattle.std.specs.List.{Contains, list_all}
use Rattle.std.specs.List.Sorted.{IsPermutation}
use Rattle.std.proofs.lemmas.List.{append_assoc, length-map, take-append-le, take_all}
use Rattle.std.proofs.lemmas.List.Elements.{All-contains, Contains-append_left, Contains-get_or}
use Rattle.std.proofs.lemmas.List.Sorted.{Contains-permutation, IsPermutation-append_comm, IsPermutation-map}
use Rattle.std.proofs.lemmas.List.Sorted.{IsPermutation-sym, length_permutation}
use Rattle.std.proofs.lemmas.List.Sums.{list_all-from_AllPass}
use Rattle.qg_node.specs.declared.node.Node.{Node}
use Rattle.qg_items.specs.declared.root.RootItem.{RootItem}
use Rattle.qg_super.specs.declared.sizes.Sizes.{Sizes}
use Rattle.qg_image.specs.declared.quota.Quota.{Quota}
use Rattle.qg_space.specs.Holding.{Holding, is_free_slot}
use Rattle.qg_refs.specs.declared.kept.Kept.{Kept}
use Rattle.qg_tree_layout.specs.Row.{address_of}
use Rattle.qg_open_image.specs.Types.{OtherTrees}
use Rattle.qg_open_image.specs.Trees.{AreTrees, nodes_laid, quota_nodes_laid}
use Rattle.qg_open_image.proofs.QuotaTree.{quota_placed}
use Rattle.qg_open_image.proofs.Slots.{LieFirst, LieFirst-more, LieFirst-placed}
use Rattle.qg_open_image.specs.HoldsAfter.{AreFree}

-- the first of two lists that stand one behind the other
first_of_both : (xs ys zs : List ℕ) → xs ++ ys ≡ zs → take (length xs) zs ≡ xs
first_of_both xs ys zs is =
    ap (take (length xs)) (sym is) ∙ take-append-le (length xs) xs ys (omega arith)
    ∙ take_all (length xs) xs (omega arith)

module _ (sizes : Sizes) (generation : ℕ) (roots : List (ℕ × RootItem)) (book : List (ℕ × Kept))
    (quota : Option Quota) (slots : List ℕ) (trees : OtherTrees)
    (are : AreTrees sizes generation roots book quota slots trees) where
  abbrev pub count : ℕ
  count = length (nodes_laid trees)

  abbrev quota_nodes : List Node
  quota_nodes = quota_nodes_laid trees.quotas

  abbrev behind_extents : List ℕ
  behind_extents = drop (length trees.extents.nodes) slots

  abbrev behind_quotas : List ℕ
  behind_quotas = drop (length quota_nodes) behind_extents

  abbrev rest : List ℕ
  rest = drop (length trees.roots.nodes) behind_quotas

  -- the nodes in the order in which they lie
  abbrev in_order : List Node
  in_order = trees.extents.nodes ++ quota_nodes ++ trees.roots.nodes

  turned : IsPermutation in_order (nodes_laid trees)
  turned =
      subst (λ (nodes : List Node). IsPermutation in_order nodes)
      (sym (append_assoc trees.roots.nodes trees.extents.nodes quota_nodes))
      (IsPermutation-append_comm (trees.extents.nodes ++ quota_nodes) trees.roots.nodes)

  one_behind : LieFirst in_order slots rest
  one_behind =
      let quota_first = LieFirst-placed quota_nodes behind_extents
      (quota_placed sizes.nodesize generation quota behind_extents trees.quotas are.quota_tree) in
      let two = LieFirst-more trees.extents.nodes quota_nodes slots behind_extents behind_quotas
      (LieFirst-placed trees.extents.nodes slots are.extent_tree.stands.placed) quota_first in
      LieFirst-more (trees.extents.nodes ++ quota_nodes) trees.roots.nodes slots behind_quotas rest two
      (LieFirst-placed trees.roots.nodes behind_quotas are.root_tree.stands.placed)

  counted : length (map address_of in_order) ≡ count
  counted =
      let all = length-map in_order address_of in
      let moved = length_permutation in_order (nodes_laid trees) turned in
      omega (arith, all, moved)

  pub within : count ≤ length slots
  within =
      let whole = ap (λ (list : List ℕ). length list) one_behind in
      let both = length-append (map address_of in_order) rest in
      omega (arith, counted, whole, both)

  front-is : take count slots ≡ map address_of in_order
  front-is =
      ap (λ (n : ℕ). take n slots) (sym counted) ∙ first_of_both (map address_of in_order) rest slots one_behind

  -- the first so many slots are those of the nodes
  pub same-slots : (slot : ℕ) → Contains (take count slots) slot ↔ Contains (map address_of (nodes_laid trees)) slot
  same-slots slot =
      let moved = IsPermutation-map address_of in_order (nodes_laid trees) turned in
      let back = IsPermutation-map address_of (nodes_laid trees) in_order
      (IsPermutation-sym in_order (nodes_laid trees) turned) in
      subst (λ (front : List ℕ). Contains front slot ↔ Contains (map address_of (nodes_laid trees)) slot)
      (sym front-is) (
        Contains-permutation (map address_of in_order) (map address_of (nodes_laid trees)) slot moved,
        Contains-permutation (map address_of (nodes_laid trees)) (map address_of in_order) slot back,
      )

  -- each node lies in one of the slots, and there are no more nodes
  pub laid-among : (slot : ℕ) → Contains (map address_of (nodes_laid trees)) slot → Contains slots slot
  laid-among slot has =
      subst (λ (list : List ℕ). Contains list slot) (take-append-drop count slots)
      (Contains-append_left (take count slots) (drop count slots) slot ((same-slots slot).1 has))

  pub laid-many : length (map address_of (nodes_laid trees)) ≤ length slots
  laid-many =
      let moved = length_permutation (map address_of in_order) (map address_of (nodes_laid trees))
      (IsPermutation-map address_of in_order (nodes_laid trees) turned) in
      let inside = within in
      omega (arith, moved, counted, inside)

-- the first so many of free slots are free
pub front-free : (space : Holding) (slots : List ℕ) (n : ℕ) → AreFree space slots
    → list_all (is_free_slot space) (take n slots) ≡ true
front-free space slots n are =
    list_all-from_AllPass (is_free_slot space) (take n slots) (λ k d below.
    All-contains (λ slot. is_free_slot space slot ≡ true) slots (get_or (take n slots) k d) are.free
    (subst (λ (list : List ℕ). Contains list (get_or (take n slots) k d)) (take-append-drop n slots)
    (Contains-append_left (take n slots) (drop n slots) (get_or (take n slots) k d)
    (Contains-get_or (take n slots) k d below))))
