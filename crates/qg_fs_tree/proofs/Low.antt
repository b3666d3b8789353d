-- A tree whose items take little is low: its nodes but the root are a quarter full.
use Rattle.std.proofs.Common.{◌≡◌, ℕ, zero, suc, ◌+◌, ◌*◌, ◌≤◌, ◌<◌, List, [], ◌∷◌, length, Option, Some, arith, refl}
use Rattle.std.proofs.Common.{None, sym, ap, subst, true, ◌∙◌, inl, inr}
use Rattle.std.specs.Prelude.{nat_le}
use Rattle.std.proofs.Math.Nat.{mul-le-mul_right, suc-mul}
use Rattle.std.proofs.lemmas.Bool.{leb-true}
use Rattle.std.proofs.lemmas.List.Sums.{sum_by-append}
use Rattle.qg_device.specs.History.{History}
use Rattle.qg_num.specs.declared.piece.Piece.{Piece}
use Rattle.qg_node.specs.declared.item.Item.{Item}
use Rattle.qg_node.specs.declared.pointer.Pointer.{Pointer}
use Rattle.qg_node.specs.declared.node.Node.{Node}
use Rattle.qg_node.specs.declared.node.Node.TheVariants.{Leaf, Inner}
use Rattle.qg_node.specs.Nodes.{item_bytes, items_bytes, used_bytes}
use Rattle.qg_node.specs.NodeText.{IsNodeSize}
use Rattle.qg_super.specs.declared.superblock.Super.{Super}
use Rattle.qg_super.specs.Places.{capacity}
use Rattle.qg_image.specs.IsShaped.{is_shaped}
use Rattle.qg_image.specs.declared.tree.TreeKind.{TreeKind}
use Rattle.qg_image.specs.declared.tree.TreeKind.TheVariants.{Files}
use Rattle.qg_image.specs.Walk.{root_expected}
use Rattle.qg_blocks.specs.NodesFound.{told}
use Rattle.qg_tree_edits.specs.Types.{Ground}
use Rattle.qg_tree_edits.specs.Land.{IsDrafted}
use Rattle.qg_tree_edits.specs.Branch.{AreBranches, IsBranch, IsPointed}
use Rattle.qg_tree_edits.specs.Tree.{Root, super_of}
use Rattle.qg_tree_edits.proofs.Under.{IsUnder, under-inner}
use Rattle.qg_tree_edits.proofs.BranchForms.{form-expected}
use Rattle.qg_tree_edits.proofs.BranchWalk.{branches-under}
use Rattle.qg_tree_edits.proofs.Served.{size-blocks}
use Rattle.qg_fs_tree.specs.declared.fs_tree.FsTree.{FsTree}
use Rattle.qg_fs_tree.specs.Standing.{Stands}

-- a node that is a quarter full has so many pointers
many_full : (size : ℕ) (pointers : List Pointer) → IsNodeSize size
    → nat_le (capacity size) (4 * (33 * length pointers)) ≡ true → 31 ≤ length pointers
many_full size pointers sized full =
    let bytes = leb-true (capacity size) (4 * (33 * length pointers)) full in
    elim sized [ inl small ↦ omega (arith, bytes, small) | inr large ↦ omega (arith, bytes, large) ]

-- four times what the items take at least that stand below a pointer to a node of a level
heavy : ℕ → ℕ → ℕ
heavy nodesize zero = capacity nodesize
heavy nodesize (suc level) = 31 * heavy nodesize level

some_heavy : (nodesize level : ℕ) → capacity nodesize ≤ heavy nodesize level
unfolding heavy
some_heavy nodesize zero = omega arith
some_heavy nodesize (suc level) = let some = some_heavy nodesize level in omega (arith, some)

module _ (tree : TreeKind) (super : Super) (nodes : ℕ → Option Node) (size : IsNodeSize super.nodesize) where
  HasBytes : ℕ → Type 0
  HasBytes level = (pointer : Pointer) (items : List Item) → IsPointed super nodes pointer
      → IsBranch tree super nodes level pointer.child items → heavy super.nodesize level ≤ 4 * items_bytes items

  bytes_each : (level : ℕ) → HasBytes level → (pointers : List Pointer) (items : List Item)
      → AreBranches tree super nodes level pointers items
      → length pointers * heavy super.nodesize level ≤ 4 * items_bytes items
  unfolding HasBytes
  bytes_each level below [] items each = omega arith
  bytes_each level below (pointer ∷ pointers) items each =
      let here = below pointer each.0 each.3.0 each.3.1 in
      let rest = bytes_each level below pointers each.1 each.4 in
      let split : items_bytes items ≡ items_bytes each.0 + items_bytes each.1 =
      ap items_bytes each.2 ∙ sum_by-append item_bytes each.0 each.1 in
      let sum = suc-mul (length pointers) (heavy super.nodesize level) in
      omega (arith, here, rest, split, sum)

  bytes_pointed : (level : ℕ) → HasBytes level
  unfolding HasBytes IsBranch heavy
  bytes_pointed zero pointer items pointed branch =
      let node = Leaf branch.0 items in
      let same : pointed.node ≡ node = let e = sym pointed.there ∙ branch.1 in cc in
      let full = subst (λ (n : Node). nat_le (capacity super.nodesize) (4 * used_bytes n) ≡ true) same pointed.full in
      leb-true (capacity super.nodesize) (4 * items_bytes items) full
  bytes_pointed (suc level) pointer items pointed branch =
      let node = Inner branch.0 branch.1 in
      let same : pointed.node ≡ node = let e = sym pointed.there ∙ branch.2 in cc in
      let full = subst (λ (n : Node). nat_le (capacity super.nodesize) (4 * used_bytes n) ≡ true) same pointed.full in
      let many = many_full super.nodesize branch.1 size full in
      let all = bytes_each level (bytes_pointed level) branch.1 items branch.4 in
      let least : 31 * heavy super.nodesize level ≤ length branch.1 * heavy super.nodesize level =
      mul-le-mul_right (heavy super.nodesize level) many in
      omega (arith, all, least)

  -- two pointers to inner nodes lead to more than so much
  two_inner : (level : ℕ) (pointers : List Pointer) (items : List Item)
      → AreBranches tree super nodes (suc level) pointers items → 2 ≤ length pointers
      → 3 * capacity super.nodesize ≤ items_bytes items
  unfolding heavy
  two_inner level pointers items each two =
      let all = bytes_each (suc level) (bytes_pointed (suc level)) pointers items each in
      let least : 2 * heavy super.nodesize (suc level) ≤ length pointers * heavy super.nodesize (suc level) =
      mul-le-mul_right (heavy super.nodesize (suc level)) two in
      let some = some_heavy super.nodesize level in
      omega (arith, all, least, some)

low_under : (tree : TreeKind) (root : Root) (land : Ground) (history : History) (items : List Item)
    (height : ℕ) → IsDrafted land root.next
    → IsUnder tree (super_of root land.blocks.draft) (told land.blocks.draft history) height
    (root_expected (Some height) None) root.address items
    → items_bytes items < 3 * capacity land.blocks.draft.sizes.nodesize → height ≤ 1
unfolding is_shaped
low_under tree root land history items zero drafted under few = omega arith
low_under tree root land history items (suc zero) drafted under few = omega arith
low_under tree root land history items (suc (suc level)) drafted under few =
    let super = super_of root land.blocks.draft in
    let nodes = told land.blocks.draft history in
    let expected = root_expected (Some (suc (suc level))) None in
    let inner = under-inner tree super nodes (suc level) expected root.address items under in
    let node = Inner inner.header inner.pointers in
    let shaped = (form-expected tree super expected root.address node inner.formed).shaped in
    let two = leb-true 2 (length inner.pointers) shaped in
    let each = branches-under tree super nodes (suc level) expected.to inner.pointers items inner.below in
    let size = size-blocks land root.next drafted in
    let many = two_inner tree super nodes size level inner.pointers items each two in
    absurd (omega (arith, many, few))

-- a tree that stands, whose items take less than three nodes hold, has one level above its leaves at most
pub low-standing : (fs : FsTree) (history : History) (items : List Item) (names : List (ℕ × Piece))
    → Stands fs history items names → IsDrafted fs.land fs.tree.next
    → items_bytes items < 3 * capacity fs.land.space.sizes.nodesize → fs.tree.height ≤ 1
low-standing fs history items names stands drafted few =
    low_under Files fs.tree fs.land history items fs.tree.height drafted
    (record { levelled = refl; walked = stands.rooted.tells.walked; items_are = stands.rooted.tells.items_are })
    (subst (λ (n : ℕ). items_bytes items < 3 * capacity n) (sym drafted.sizes.nodesize) few)
