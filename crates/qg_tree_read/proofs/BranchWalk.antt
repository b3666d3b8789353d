-- What the walk tells of a part of a tree is a branch.
use Rattle.std.proofs.Common.{◌≡◌, ℕ, zero, suc, List, [], ◌∷◌, sym, Option, Some, None}
use Rattle.std.proofs.lemmas.Bool.{eqb-true}
use Rattle.qg_num.specs.declared.key.Key.{Key}
use Rattle.qg_node.specs.declared.item.Item.{Item}
use Rattle.qg_node.specs.declared.pointer.Pointer.{Pointer}
use Rattle.qg_node.specs.declared.node.Node.{Node}
use Rattle.qg_node.specs.declared.node.Node.TheVariants.{Leaf, Inner}
use Rattle.qg_node.specs.Nodes.{header_of}
use Rattle.qg_super.specs.declared.superblock.Super.{Super}
use Rattle.qg_blocks.specs.Types.{TreeKind}
use Rattle.qg_blocks.specs.Types.{Expected}
use Rattle.qg_walk.specs.Standing.{expected_below, form_failure}
use Rattle.qg_tree_read.specs.Branch.{AreBranches, IsBranch, IsMember, IsPointed}
use Rattle.qg_tree_read.proofs.Under.{AreUnder, IsUnder, both-under, level-told, none-under, under-inner, under-leaf}
use Rattle.qg_tree_read.proofs.BranchForms.{form-expected, generation-parts, shape-parts}

module _ (tree : TreeKind) (super : Super) (nodes : ℕ → Option Node) where
  -- the node of a level that the walk came to
  pub top-under : (level : ℕ) (expected : Expected) (address : ℕ) (items : List Item)
      → IsUnder tree super nodes level expected address items
      → (node : Node) × (nodes address ≡ Some node) × (form_failure tree super expected address node ≡ None)
  top-under zero expected address items under =
      let leaf = under-leaf tree super nodes expected address items under in
      (Leaf leaf.header items, leaf.here, leaf.formed)
  top-under (suc level) expected address items under =
      let inner = under-inner tree super nodes level expected address items under in
      (Inner inner.header inner.pointers, inner.here, inner.formed)

  member_of : (level : ℕ) (expected : Expected) (address : ℕ) (node : Node) → expected.level ≡ Some level
      → form_failure tree super expected address node ≡ None
      → IsMember tree super level (header_of node)
  member_of level expected address node levelled formed =
      let is = form-expected tree super expected address node formed in
      record {
        levelled = level-told expected.level level (header_of node).level levelled is.level;
        owned = is.owner;
        dated = (generation-parts super.generation expected.generation (header_of node).generation is.generation).1;
      }

  pub pointed-under : (level : ℕ) (to : Option Key) (pointer : Pointer) (pointers : List Pointer) (items : List Item)
      → IsUnder tree super nodes level (expected_below level to pointer pointers) pointer.child items
      → IsPointed super nodes pointer
  pointed-under level to pointer pointers items under =
      let expected = expected_below level to pointer pointers in
      let top = top-under level expected pointer.child items under in
      let is = form-expected tree super expected pointer.child top.0 top.2 in
      let shape = shape-parts super.nodesize pointer.key top.0 is.shaped in
      let told = (generation-parts super.generation (Some pointer.generation) (header_of top.0).generation
      is.generation).0 in
      record {
        node = top.0;
        there = top.1;
        dated = sym (eqb-true pointer.generation (header_of top.0).generation told);
        full = shape.0;
        first = shape.1;
      }

  branches_each : (level : ℕ) → ((expected : Expected) (address : ℕ) (items : List Item)
      → IsUnder tree super nodes level expected address items → IsBranch tree super nodes level address items)
      → (to : Option Key) (pointers : List Pointer) (items : List Item)
      → AreUnder tree super nodes level to pointers items → AreBranches tree super nodes level pointers items
  branches_each level branch to [] items under = none-under tree super nodes level to items under
  branches_each level branch to (pointer ∷ pointers) items under =
      let both = both-under tree super nodes level to pointer pointers items under in (
        both.first,
        both.others,
        both.items_are,
        (
          pointed-under level to pointer pointers both.first both.here,
          branch (expected_below level to pointer pointers)
              pointer.child both.first both.here,
        ),
        branches_each level branch to pointers both.others both.behind,
      )

  pub branch-under : (level : ℕ) (expected : Expected) (address : ℕ) (items : List Item)
      → IsUnder tree super nodes level expected address items
      → IsBranch tree super nodes level address items
  unfolding IsBranch
  branch-under zero expected address items under =
      let leaf = under-leaf tree super nodes expected address items under in
      (leaf.header, leaf.here, member_of 0 expected address (Leaf leaf.header items) under.levelled leaf.formed)
  branch-under (suc level) expected address items under =
      let inner = under-inner tree super nodes level expected address items under in (
        inner.header,
        inner.pointers,
        inner.here,
        member_of (suc level) expected address (Inner inner.header inner.pointers) under.levelled inner.formed,
        branches_each level (branch-under level) expected.to inner.pointers items inner.below,
      )

  pub branches-under : (level : ℕ) (to : Option Key) (pointers : List Pointer) (items : List Item)
      → AreUnder tree super nodes level to pointers items
      → AreBranches tree super nodes level pointers items
  branches-under level = branches_each level (branch-under level)
