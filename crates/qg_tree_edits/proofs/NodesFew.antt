-- A tree has few nodes for what its items take: each but the root is a quarter full.
use Rattle.std.proofs.Common.{◌≡◌, ℕ, zero, suc, ◌+◌, ◌-◌, ◌*◌, ◌/◌, ◌≤◌, ◌<◌, List, [], ◌∷◌, length, Option, Some, arith}
use Rattle.std.proofs.Common.{None, refl, sym, ap, subst, true, ◌∙◌, inl, inr}
use Rattle.std.specs.Prelude.{nat_le}
use Rattle.std.specs.List.{sum_by}
use Rattle.std.proofs.Math.Nat.{add-mul, le-div_iff_mul-le, mul-le-mul_right, suc-mul}
use Rattle.std.proofs.lemmas.Bool.{leb-true}
use Rattle.std.proofs.lemmas.Bool.Decides.{leb_tells}
use Rattle.std.proofs.lemmas.List.Sums.{sum_by-append, sum_by-cons}
use Rattle.qg_device.specs.History.{History}
use Rattle.qg_node.specs.declared.item.Item.{Item}
use Rattle.qg_node.specs.declared.pointer.Pointer.{Pointer}
use Rattle.qg_node.specs.declared.node.Node.{Node}
use Rattle.qg_node.specs.declared.node.Node.TheVariants.{Leaf, Inner}
use Rattle.qg_node.specs.Nodes.{item_bytes, items_bytes, used_bytes}
use Rattle.qg_node.specs.NodeText.{IsNodeSize}
use Rattle.qg_super.specs.declared.superblock.Super.{Super}
use Rattle.qg_super.specs.Places.{capacity}
use Rattle.qg_image.specs.Need.{nodes_filled}
use Rattle.qg_image.specs.declared.tree.TreeKind.{TreeKind}
use Rattle.qg_image.specs.Walk.{root_expected}
use Rattle.qg_blocks.specs.NodesFound.{told}
use Rattle.qg_node_alloc.specs.declared.ground.Ground.{Ground}
use Rattle.qg_node_alloc.specs.Land.{IsDrafted}
use Rattle.qg_tree_read.specs.Branch.{AreBranches, IsBranch, IsPointed}
use Rattle.qg_tree_read.specs.Tree.{Root, super_of}
use Rattle.qg_tree_read.proofs.BranchWalk.{branch-under}
use Rattle.qg_tree_edits.specs.Counting.{pointers_there}
use Rattle.qg_tree_edits.specs.Rooting.{IsRooted}
use Rattle.qg_tree_edits.proofs.Served.{size-blocks}
use Rattle.qg_tree_edits.specs.SlotLaws.{HasFewNodes}
use Rattle.qg_tree_edits.specs.OwnSlots.{nodes_from}

-- a node that is a quarter full has so many pointers
pub many-full : (size : ℕ) (pointers : List Pointer) → IsNodeSize size
    → nat_le (capacity size) (4 * (33 * length pointers)) ≡ true → 31 ≤ length pointers
many-full size pointers sized full =
    let bytes = leb-true (capacity size) (4 * (33 * length pointers)) full in
    elim sized [ inl small ↦ omega (arith, bytes, small) | inr large ↦ omega (arith, bytes, large) ]

-- ---- below pointers

module _ (tree : TreeKind) (super : Super) (nodes : ℕ → Option Node) (size : IsNodeSize super.nodesize) where
  abbrev cap : ℕ
  cap = capacity super.nodesize

  -- what the items below a pointer to a node of a level take is more than a quarter of those nodes' room, by one in
  -- thirty and something
  IsFew : ℕ → Type 0
  IsFew level = (pointer : Pointer) (items : List Item) → IsPointed super nodes pointer
      → IsBranch tree super nodes level pointer.child items
      → 30 * (nodes_from nodes level pointer.child * cap) + cap ≤ 124 * items_bytes items

  few_each : (level : ℕ) → IsFew level → (pointers : List Pointer) (items : List Item)
      → AreBranches tree super nodes level pointers items
      → 30 * (sum_by (λ pointer. nodes_from nodes level pointer.child) pointers * cap) + length pointers * cap
      ≤ 124 * items_bytes items
  unfolding IsFew
  few_each level below [] items each = omega arith
  few_each level below (pointer ∷ pointers) items each =
      let number = λ (p : Pointer). nodes_from nodes level p.child in
      let here = below pointer each.0 each.3.0 each.3.1 in
      let rest = few_each level below pointers each.1 each.4 in
      let split : items_bytes items ≡ items_bytes each.0 + items_bytes each.1 =
      ap items_bytes each.2 ∙ sum_by-append item_bytes each.0 each.1 in
      let sum = ap (λ (n : ℕ). n * cap) (sum_by-cons number pointer pointers)
      ∙ add-mul (number pointer) (sum_by number pointers) cap in
      let long = suc-mul (length pointers) cap in
      omega (arith, here, rest, split, sum, long)

  one_time : (n : ℕ) → 1 * n ≡ n
  one_time n = omega arith

  -- the node and those below its pointers
  few_inner : (level at : ℕ) (pointers : List Pointer) (o : Option Node) → nodes at ≡ o
      → pointers_there o ≡ pointers
      → nodes_from nodes (suc level) at * cap
      ≡ cap + sum_by (λ pointer. nodes_from nodes level pointer.child) pointers * cap
  unfolding nodes_from
  few_inner level at pointers o there are =
      let number = λ (p : Pointer). nodes_from nodes level p.child in
      ap (λ (n : Option Node). (1 + sum_by number (pointers_there n)) * cap) there
      ∙ ap (λ (ps : List Pointer). (1 + sum_by number ps) * cap) are
      ∙ add-mul 1 (sum_by number pointers) cap ∙ ap (λ (n : ℕ). n + sum_by number pointers * cap) (one_time cap)

  few_pointed : (level : ℕ) → IsFew level
  unfolding IsFew IsBranch nodes_from
  few_pointed zero pointer items pointed branch =
      let node = Leaf branch.0 items in
      let same : pointed.node ≡ node = let e = sym pointed.there ∙ branch.1 in cc in
      let full = subst (λ (n : Node). nat_le (capacity super.nodesize) (4 * used_bytes n) ≡ true) same pointed.full in
      let bytes = leb-true (capacity super.nodesize) (4 * items_bytes items) full in
      omega (arith, bytes)
  few_pointed (suc level) pointer items pointed branch =
      let node = Inner branch.0 branch.1 in
      let same : pointed.node ≡ node = let e = sym pointed.there ∙ branch.2 in cc in
      let full = subst (λ (n : Node). nat_le (capacity super.nodesize) (4 * used_bytes n) ≡ true) same pointed.full in
      let many = many-full super.nodesize branch.1 size full in
      let each = few_each level (few_pointed level) branch.1 items branch.4 in
      let least : 31 * cap ≤ length branch.1 * cap = mul-le-mul_right cap many in
      let number = few_inner level pointer.child branch.1 (Some node) branch.2 refl in
      omega (arith, each, least, number)

  -- ---- a whole tree

  ceil_covers : (bytes : ℕ) → 0 < cap → bytes ≤ nodes_filled super.nodesize bytes * cap
  ceil_covers bytes some =
      let filled = nodes_filled super.nodesize bytes in
      elim (leb_tells bytes (filled * cap)) [
        | inl (is, less) ↦ less
        | inr (isnt, more) ↦
            let next : suc filled * cap ≤ bytes + (cap - 1) =
            let one = suc-mul filled cap in omega (arith, one, more, some) in
            let above : suc filled ≤ filled = (le-div_iff_mul-le some).1 next in
            absurd (omega (arith, above))
      ]

  some_room : 0 < cap
  some_room = elim size [ inl small ↦ omega (arith, small) | inr large ↦ omega (arith, large) ]

  few_within : (sum filled bytes : ℕ) → 30 * (sum * cap) ≤ 124 * bytes → bytes ≤ filled * cap → sum ≤ 5 * filled
  few_within sum filled bytes few within =
      elim (leb_tells sum (5 * filled)) [
        | inl (is, less) ↦ less
        | inr (isnt, more) ↦
            let most : suc (5 * filled) * cap ≤ sum * cap = mul-le-mul_right cap (omega (arith, more)) in
            let one = suc-mul (5 * filled) cap in
            let five : 5 * filled * cap ≡ 5 * (filled * cap) = omega arith in
            let some = some_room in
            absurd (omega (arith, most, one, five, some, few, within))
      ]

  few_branch : (level at : ℕ) (items : List Item) → IsBranch tree super nodes level at items
      → nodes_from nodes level at ≤ 5 * nodes_filled super.nodesize (items_bytes items) + 1
  unfolding IsBranch nodes_from
  few_branch zero at items branch = omega arith
  few_branch (suc level) at items branch =
      let number = λ (p : Pointer). nodes_from nodes level p.child in
      let each = few_each level (few_pointed level) branch.1 items branch.4 in
      let covers = ceil_covers (items_bytes items) some_room in
      let few = few_within (sum_by number branch.1) (nodes_filled super.nodesize (items_bytes items))
      (items_bytes items) (omega (arith, each)) covers in
      let told = ap (λ (o : Option Node). 1 + sum_by number (pointers_there o)) branch.2 in
      omega (arith, few, told)

pub has-few-nodes : HasFewNodes
has-few-nodes tree root land history items drafted rooted =
    let super = super_of root land.blocks.draft in
    let nodes = told land.blocks.draft history in
    let branch = branch-under tree super nodes root.height (root_expected (Some root.height) None) root.address items
    (record { levelled = refl; walked = rooted.tells.walked; items_are = rooted.tells.items_are }) in
    let few = few_branch tree super nodes (size-blocks land root.next drafted) root.height root.address items branch in
    subst (λ (n : ℕ). nodes_from nodes root.height root.address ≤ 5 * nodes_filled n (items_bytes items) + 1)
    drafted.sizes.nodesize few
