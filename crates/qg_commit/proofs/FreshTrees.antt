-- The other trees of a fresh image are three leaves, in the first, the second and the fourth slot.
use Rattle.std.proofs.Common.{◌≡◌, ℕ, suc, ◌+◌, ◌*◌, ◌≤◌, ◌<◌, inl, inr, true, false, List, [], ◌∷◌, ◌++◌, map, length}
use Rattle.std.proofs.Common.{take, drop, get_or, refl, ap, subst, ◌∙◌, arith}
use Rattle.std.specs.Prelude.{◌==◌, Option, Some}
use Rattle.std.specs.List.{AllByRecursion, IsDistinct}
use Rattle.std.proofs.Math.Nat.{mul-le-mul_left}
use Rattle.std.proofs.lemmas.Bool.{cases_order, eqb-false, ne_eqb}
use Rattle.std.proofs.lemmas.Cmp.{nat_eq_equiv}
use Rattle.std.proofs.lemmas.Map.Made.{IsDistinct-from_count}
use Rattle.qg_node.specs.declared.item.Item.{Item}
use Rattle.qg_node.specs.declared.node.Node.{Node}
use Rattle.qg_node.specs.Nodes.{header_of, items_bytes}
use Rattle.qg_items.specs.declared.root.RootItem.{RootItem}
use Rattle.qg_items.proofs.ExtentBodies.{length-extent_text}
use Rattle.qg_items.proofs.QuotaBodies.{length-info_text, length-limit_text, length-status_text}
use Rattle.qg_items.proofs.RootBody.{length-root_text}
use Rattle.qg_node.specs.NodeText.{IsNodeSize}
use Rattle.qg_super.specs.declared.sizes.Sizes.{Sizes}
use Rattle.qg_super.specs.Places.{capacity, is_served, is_slot, slot_at}
use Rattle.qg_super.proofs.Served.{SizesFit-is_served}
use Rattle.qg_super.proofs.Slots.{is_slot-slot_at}
use Rattle.qg_image.specs.Need.{nodes_filled}
use Rattle.qg_image.specs.IsFresh.{fresh_leaf}
use Rattle.qg_root_items.specs.Written.{items_of_roots}
use Rattle.qg_tree_layout.specs.Build.{IsBuilt}
use Rattle.qg_tree_layout.specs.declared.building.Built.{Built}
use Rattle.qg_extents.specs.Fresh.{fresh_table}
use Rattle.qg_extents.specs.Written.{items_of_book}
use Rattle.qg_other_trees.specs.declared.laying.OtherTrees.{OtherTrees}
use Rattle.qg_other_trees.specs.Trees.{nodes_of_trees, quota_nodes_laid, root_item_laid}
use Rattle.qg_other_trees.specs.Editable.{AreGroups, AreSubvolumes}
use Rattle.qg_other_trees.proofs.Enough.{filled_quota, filled_roots}
use Rattle.qg_other_trees.proofs.One.{one_named, one_told}
use Rattle.qg_other_trees.proofs.QuotaTree.{HasQuotaTree, quota_there, root_if}
use Rattle.qg_commit.specs.Fresh.{AreFreshTrees, extent_items, fresh_counters, fresh_nodes, fresh_quota, fresh_root}
use Rattle.qg_commit.specs.Fresh.{fresh_roots, fresh_slots, fresh_super, own_leaf, quota_items, root_items}

-- ---- the slots

abbrev slot_numbers : List ℕ
slot_numbers = 1 ∷ 3 ∷ 0 ∷ 4 ∷ 5 ∷ 6 ∷ 7 ∷ 8 ∷ 9 ∷ 10 ∷ 11 ∷ 12 ∷ 13 ∷ 14 ∷ 15 ∷ 16 ∷ 17 ∷ 18 ∷ []

-- slots with different numbers lie at different addresses
slot_differs : (sizes : Sizes) (k j : ℕ) → 1 ≤ sizes.nodesize → (k == j) ≡ false
    → (slot_at sizes k == slot_at sizes j) ≡ false
slot_differs sizes k j some differ = elim (cases_order k j) [
  | inl same ↦ absurd (eqb-false k j differ same)
  | inr (inl less) ↦
      let next : suc k ≤ j = omega (arith, less) in
      let product = mul-le-mul_left sizes.nodesize next in
      ne_eqb (slot_at sizes k) (slot_at sizes j) (λ same. omega (arith, same, product, some))
  | inr (inr more) ↦
      let next : suc j ≤ k = omega (arith, more) in
      let product = mul-le-mul_left sizes.nodesize next in
      ne_eqb (slot_at sizes k) (slot_at sizes j) (λ same. omega (arith, same, product, some))
]

differ_from : (sizes : Sizes) (k : ℕ) (js : List ℕ) → 1 ≤ sizes.nodesize → AllByRecursion (λ j. (k == j) ≡ false) js
    → AllByRecursion (λ address. (slot_at sizes k == address) ≡ false) (map (slot_at sizes) js)
differ_from sizes k [] some differ = tt
differ_from sizes k (j ∷ js) some differ = (slot_differs sizes k j some differ.0, differ_from sizes k js some differ.1)

slots-IsDistinct : (sizes : Sizes) (ks : List ℕ) → 1 ≤ sizes.nodesize → IsDistinct (λ a b. a == b) ks
    → IsDistinct (λ a b. a == b) (map (slot_at sizes) ks)
unfolding IsDistinct
slots-IsDistinct sizes [] some differ = tt
slots-IsDistinct sizes (k ∷ ks) some differ =
    (differ_from sizes k ks some differ.0, slots-IsDistinct sizes ks some differ.1)

pub some_bytes : (sizes : Sizes) → is_served sizes ≡ true → 1 ≤ sizes.nodesize
some_bytes sizes served = omega (arith, (SizesFit-is_served sizes served).least)

pub fresh_slots-IsDistinct : (sizes : Sizes) → is_served sizes ≡ true → IsDistinct (λ a b. a == b) (fresh_slots sizes)
fresh_slots-IsDistinct sizes served = slots-IsDistinct sizes slot_numbers (some_bytes sizes served)
    (IsDistinct-from_count nat_eq_equiv slot_numbers refl)

pub first_slots-IsDistinct : (sizes : Sizes) → is_served sizes ≡ true
    → IsDistinct (λ a b. a == b) (slot_at sizes 0 ∷ slot_at sizes 1 ∷ slot_at sizes 2 ∷ slot_at sizes 3 ∷ [])
first_slots-IsDistinct sizes served =
    slots-IsDistinct sizes (0 ∷ 1 ∷ 2 ∷ 3 ∷ []) (some_bytes sizes served)
    (IsDistinct-from_count nat_eq_equiv (0 ∷ 1 ∷ 2 ∷ 3 ∷ []) refl)

-- the first 64 numbers are those of slots
pub low_slot-is_slot : (sizes : Sizes) (k : ℕ) → is_served sizes ≡ true → k < 64
    → is_slot sizes (slot_at sizes k) ≡ true
low_slot-is_slot sizes k served below =
    is_slot-slot_at sizes k (some_bytes sizes served)
    (omega (arith, below, (SizesFit-is_served sizes served).some_slots))

-- ---- a tree of one leaf

-- the leaf lies in this slot
pub record IsLeafAt (owner : ℕ) (items : List Item) (slot : ℕ) (nodes : List Node) (root level : ℕ) : Type 0 where
  pub nodes_are : nodes ≡ fresh_leaf owner slot items ∷ []
  pub root_is : root ≡ slot
  pub flat : level ≡ 0

leaf-IsLeafAt : (nodesize owner : ℕ) (items : List Item) (slot : ℕ) (rest : List ℕ) (nodes : List Node) (root level : ℕ)
    → IsBuilt nodesize owner 1 items (slot ∷ rest) nodes root level
    → items_bytes items ≤ capacity nodesize → IsLeafAt owner items slot nodes root level
leaf-IsLeafAt nodesize owner items slot rest nodes root level built light =
    let one = built.single light in
    let placed : root ∷ [] ≡ slot ∷ [] =
    subst (λ (list : List Node). map (λ node. (header_of node).address) list ≡ take (length list) (slot ∷ rest))
    one.alone built.placed in
    let there : root ≡ slot = ap (λ (list : List ℕ). get_or list 0 0) placed in
    record {
      nodes_are = one.alone ∙ ap (λ (address : ℕ). fresh_leaf owner address items ∷ []) there;
      root_is = there;
      flat = one.flat;
    }

-- what the items of each weigh, in bytes
root_items-bytes : (extents files quotas : ℕ) → items_bytes (root_items extents files quotas) ≡ 1392
root_items-bytes extents files quotas = simp length-root_text refl

quota_items-bytes : (nodesize : ℕ) → items_bytes (quota_items nodesize) ≡ 187
quota_items-bytes nodesize = simp (length-status_text, length-info_text, length-limit_text) refl

extent_items-bytes : (root : ℕ) → items_bytes (extent_items root) ≡ 74
extent_items-bytes root = simp length-extent_text refl

-- the items of the book of one reference
book_items : (nodesize root : ℕ) → items_of_book (fresh_table nodesize root) ≡ extent_items root
book_items nodesize root = refl

one_filled : (nodesize : ℕ) → IsNodeSize nodesize → nodes_filled nodesize 74 ≡ 1
one_filled nodesize (inl is) = rw is refl
one_filled nodesize (inr is) = rw is refl

-- there are slots enough for the three
pub fresh-enough : (sizes : Sizes) → is_served sizes ≡ true
    → 5 * nodes_of_trees sizes.nodesize (fresh_table sizes.nodesize (slot_at sizes 2)) (fresh_roots (slot_at sizes 2))
    (Some (fresh_quota sizes.nodesize)) + 3
    ≤ length (fresh_slots sizes)
fresh-enough sizes served =
    let size = (SizesFit-is_served sizes served).node_size in
    let weighs = extent_items-bytes (slot_at sizes 2) in
    let filled : nodes_filled sizes.nodesize (items_bytes (extent_items (slot_at sizes 2))) ≡ 1 =
    ap (nodes_filled sizes.nodesize) weighs ∙ one_filled sizes.nodesize size in
    let roots : nodes_filled sizes.nodesize 1392 ≡ 1 = filled_roots sizes.nodesize size in
    let quota : nodes_filled sizes.nodesize 187 ≡ 1 = filled_quota sizes.nodesize size in
    rw (filled, roots, quota) (omega arith)

-- what they tell can be laid out
pub fresh_subvolumes : (address : ℕ) → AreSubvolumes 1 (fresh_roots address)
fresh_subvolumes address = one_named 1 (fresh_root address) refl (record { made = omega arith; copied = omega arith })

pub fresh_groups : (nodesize : ℕ) → AreGroups 1 (5 ∷ []) (fresh_quota nodesize)
fresh_groups nodesize = one_told 1 (fresh_counters nodesize) 1 (omega arith)

-- ---- the three trees

module _ (sizes : Sizes) (trees : OtherTrees) (served : is_served sizes ≡ true) (are : AreFreshTrees sizes trees) where
  wide : 3995 ≤ capacity sizes.nodesize
  wide = omega (arith, (SizesFit-is_served sizes served).least)

  abbrev BuiltOf : ℕ → List Item → List ℕ → Built → Type 0
  BuiltOf owner items slots built = IsBuilt sizes.nodesize owner 1 items slots built.nodes built.root built.level

  abbrev LeafAt : ℕ → List Item → ℕ → Built → Type 0
  LeafAt owner items slot built = IsLeafAt owner items slot built.nodes built.root built.level

  extents_light : items_bytes (extent_items (slot_at sizes 2)) ≤ capacity sizes.nodesize
  extents_light = omega (arith, wide, extent_items-bytes (slot_at sizes 2))

  pub extents_leaf : LeafAt 2 (extent_items (slot_at sizes 2)) (slot_at sizes 1) trees.extents
  extents_leaf =
      let built = subst (λ (items : List Item). BuiltOf 2 items (fresh_slots sizes) trees.extents)
      are.extent_tree.told.written are.extent_tree.stands in
      leaf-IsLeafAt sizes.nodesize 2 (extent_items (slot_at sizes 2)) (slot_at sizes 1) (drop 1 (fresh_slots sizes))
      trees.extents.nodes trees.extents.root trees.extents.level built extents_light

  one_extent : length trees.extents.nodes ≡ 1
  one_extent = ap length extents_leaf.nodes_are

  quotas_light : items_bytes (quota_items sizes.nodesize) ≤ capacity sizes.nodesize
  quotas_light = omega (arith, wide, quota_items-bytes sizes.nodesize)

  -- quota is on, so there is a quota tree
  pub quota_tree : HasQuotaTree sizes.nodesize 1 (fresh_quota sizes.nodesize)
      (drop (length trees.extents.nodes) (fresh_slots sizes)) trees.quotas
  quota_tree =
      quota_there sizes.nodesize 1 (fresh_quota sizes.nodesize) (drop (length trees.extents.nodes) (fresh_slots sizes))
      trees.quotas are.quota_tree

  pub quotas_leaf : LeafAt 8 (quota_items sizes.nodesize) (slot_at sizes 3) quota_tree.built
  quotas_leaf =
      let first = subst (λ (n : ℕ). BuiltOf 8 quota_tree.stands.items (drop n (fresh_slots sizes)) quota_tree.built)
      one_extent
      quota_tree.stands.stands in
      let built = subst (λ (items : List Item). BuiltOf 8 items (drop 1 (fresh_slots sizes)) quota_tree.built)
      quota_tree.stands.told.written first in
      leaf-IsLeafAt sizes.nodesize 8 (quota_items sizes.nodesize) (slot_at sizes 3) (drop 2 (fresh_slots sizes))
      quota_tree.built.nodes quota_tree.built.root quota_tree.built.level built quotas_light

  pub quotas_laid : quota_nodes_laid trees.quotas ≡ fresh_leaf 8 (slot_at sizes 3) (quota_items sizes.nodesize) ∷ []
  quotas_laid = ap quota_nodes_laid quota_tree.there ∙ quotas_leaf.nodes_are

  one_quota : length (quota_nodes_laid trees.quotas) ≡ 1
  one_quota = ap length quotas_laid

  -- the ROOT_ITEMs are those of leaves in these slots
  extents_root : root_item_laid trees.extents 1 ≡ fresh_root (slot_at sizes 1)
  extents_root = rw (extents_leaf.root_is, extents_leaf.flat) refl

  quotas_root : root_if 1 trees.quotas ≡ Some (fresh_root (slot_at sizes 3))
  quotas_root =
      let own : root_item_laid quota_tree.built 1 ≡ fresh_root (slot_at sizes 3) =
      rw (quotas_leaf.root_is, quotas_leaf.flat) refl in
      ap (root_if 1) quota_tree.there ∙ ap (λ (root : RootItem). Some root) own

  abbrev named_items : List Item
  named_items = root_items (slot_at sizes 1) (slot_at sizes 2) (slot_at sizes 3)

  roots_written : are.root_tree.items ≡ named_items
  roots_written =
      are.root_tree.told.written
      ∙ ap (λ (root : RootItem). items_of_roots root (fresh_roots (slot_at sizes 2)) (root_if 1 trees.quotas))
      extents_root
      ∙ ap (λ (quotas : Option RootItem). items_of_roots (fresh_root (slot_at sizes 1)) (fresh_roots (slot_at sizes 2))
      quotas)
      quotas_root

  roots_light : items_bytes named_items ≤ capacity sizes.nodesize
  roots_light = omega (arith, wide, root_items-bytes (slot_at sizes 1) (slot_at sizes 2) (slot_at sizes 3))

  pub roots_leaf : LeafAt 1 named_items (slot_at sizes 0) trees.roots
  roots_leaf =
      let first = subst
      (λ (n : ℕ). BuiltOf 1 are.root_tree.items
      (drop (length (quota_nodes_laid trees.quotas)) (drop n (fresh_slots sizes)))
      trees.roots)
      one_extent are.root_tree.stands in
      let second = subst (λ (n : ℕ). BuiltOf 1 are.root_tree.items (drop n (drop 1 (fresh_slots sizes))) trees.roots)
      one_quota
      first in
      let built = subst (λ (items : List Item). BuiltOf 1 items (drop 2 (fresh_slots sizes)) trees.roots) roots_written
      second in
      leaf-IsLeafAt sizes.nodesize 1 named_items (slot_at sizes 0) (drop 3 (fresh_slots sizes)) trees.roots.nodes
      trees.roots.root trees.roots.level built roots_light

  -- ---- what mkfs says of them

  pub superblock_is : trees.superblock ≡ fresh_super sizes (slot_at sizes 0)
  superblock_is = are.leads ∙ ap (fresh_super sizes) roots_leaf.root_is

  pub nodes_are : trees.roots.nodes ++ trees.extents.nodes ++ (own_leaf sizes ∷ []) ++ quota_nodes_laid trees.quotas
      ≡ fresh_nodes sizes
  nodes_are =
      ap (λ (list : List Node). trees.roots.nodes ++ trees.extents.nodes ++ (own_leaf sizes ∷ []) ++ list) quotas_laid
      ∙ rw (roots_leaf.nodes_are, extents_leaf.nodes_are) refl
