-- A tree is one of a later generation too, and none of its nodes is of one past its own.
use Rattle.std.proofs.Common.{◌≡◌, ℕ, zero, suc, ◌≤◌, true, List, Option, Some, None, arith, sym, ap, subst, ◌∙◌, inl}
use Rattle.std.proofs.Common.{inr}
use Rattle.std.specs.Prelude.{◌&&◌, nat_le, nat_lt}
use Rattle.std.proofs.lemmas.Bool.{and_from, and_parts, le-leb, leb-true}
use Rattle.qg_node.specs.declared.item.Item.{Item}
use Rattle.qg_node.specs.declared.node.Node.{Node}
use Rattle.qg_node.specs.declared.node.Node.TheVariants.{Leaf, Inner}
use Rattle.qg_node.specs.Nodes.{header_of}
use Rattle.qg_super.specs.declared.superblock.Super.{Super}
use Rattle.qg_image.specs.IsShaped.{is_shaped}
use Rattle.qg_image.specs.declared.expected.Expected.{Expected}
use Rattle.qg_image.specs.declared.tree.TreeKind.{TreeKind}
use Rattle.qg_image.specs.Walk.{is_generation, is_told, root_expected}
use Rattle.qg_walk.specs.Standing.{form_failure}
use Rattle.qg_tree_read.specs.Branch.{IsBranch, IsMember}
use Rattle.qg_tree_read.specs.Tree.{IsTree, Reaches, found_in}
use Rattle.qg_tree_read.proofs.BranchForms.{expected-form, form-expected}
use Rattle.qg_tree_read.proofs.Branches.{branch-below}
use Rattle.qg_shared_trees.proofs.Walks.{walk-weaker}

-- ---- a later generation

module _ (tree : TreeKind) (super later : Super) (size : later.nodesize ≡ super.nodesize)
    (low : super.generation ≤ later.generation) where
  dated_later : (told : Option ℕ) (generation : ℕ) → is_generation super.generation told generation ≡ true
      → is_generation later.generation told generation ≡ true
  dated_later told generation is =
      let front = is_told told generation && nat_lt 0 generation in
      let parts = and_parts front (nat_le generation super.generation) is in
      let upto : generation ≤ later.generation =
      (let early = leb-true generation super.generation parts.1 in omega (arith, early, low)) in
      and_from front (nat_le generation later.generation) parts.0 (le-leb generation later.generation upto)

  formed_later : (expected : Expected) (address : ℕ) (node : Node)
      → form_failure tree super expected address node ≡ None → form_failure tree later expected address node ≡ None
  formed_later expected address node none =
      let is = form-expected tree super expected address node none in
      expected-form tree later expected address node (record {
        level = is.level;
        owner = is.owner;
        generation = dated_later expected.generation (header_of node).generation is.generation;
        begins = is.begins;
        ends = is.ends;
        shaped = ap (λ (n : ℕ). is_shaped n expected.from node) size ∙ is.shaped;
      })

  pub IsTree-later : (nodes : ℕ → Option Node) (height address : ℕ) (items : List Item)
      → IsTree tree super nodes height address items → IsTree tree later nodes height address items
  IsTree-later nodes height address items is = record {
    walked = walk-weaker (form_failure tree super) (form_failure tree later) (found_in nodes) formed_later height
        (root_expected (Some height) None) address is.walked;
    items_are = is.items_are;
  }

-- ---- the generations of its nodes

member_low : (tree : TreeKind) (super : Super) (level : ℕ) (node : Node) → IsMember tree super level (header_of node)
    → (header_of node).generation ≤ super.generation
member_low tree super level node member =
    leb-true (header_of node).generation super.generation
    (and_parts (nat_lt 0 (header_of node).generation) (nat_le (header_of node).generation super.generation)
    member.dated).1

module _ (tree : TreeKind) (super : Super) (nodes : ℕ → Option Node) where
  top_low : (level at : ℕ) (items : List Item) → IsBranch tree super nodes level at items → (node : Node)
      → nodes at ≡ Some node → (header_of node).generation ≤ super.generation
  unfolding IsBranch
  top_low zero at items branch node there =
      let same : Leaf branch.0 items ≡ node = let e = sym branch.1 ∙ there in cc in
      subst (λ (n : Node). (header_of n).generation ≤ super.generation) same
      (member_low tree super zero (Leaf branch.0 items) branch.2)
  top_low (suc level) at items branch node there =
      let same : Inner branch.0 branch.1 ≡ node = let e = sym branch.2 ∙ there in cc in
      subst (λ (n : Node). (header_of n).generation ≤ super.generation) same
      (member_low tree super (suc level) (Inner branch.0 branch.1) branch.3)

  pub generation-low : (level at : ℕ) (items : List Item) → IsBranch tree super nodes level at items → (q : ℕ)
      → Reaches nodes level at q → (node : Node) → nodes q ≡ Some node
      → (header_of node).generation ≤ super.generation
  unfolding Reaches
  generation-low zero at items branch q reached node there =
      top_low zero at items branch node (ap nodes (sym reached) ∙ there)
  generation-low (suc level) at items branch q (inl here) node there =
      top_low (suc level) at items branch node (ap nodes (sym here) ∙ there)
  generation-low (suc level) at items branch q (inr (top, here, place, pointer, lies, below)) node there =
      let found = branch-below tree super nodes level at items branch top here place pointer lies in
      generation-low level pointer.child found.0 found.3 q below node there
