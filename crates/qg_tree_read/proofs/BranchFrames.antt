-- A branch stands where nothing that it reaches changes.
use Rattle.std.proofs.Common.{◌≡◌, ℕ, zero, suc, List, refl, sym, ◌∙◌, Option, Some, inl, inr}
use Rattle.std.specs.Prelude.{slice_get}
use Rattle.qg_node.specs.declared.item.Item.{Item}
use Rattle.qg_node.specs.declared.pointer.Pointer.{Pointer}
use Rattle.qg_node.specs.declared.node.Node.{Node}
use Rattle.qg_node.specs.declared.node.Node.TheVariants.{Inner}
use Rattle.qg_super.specs.declared.superblock.Super.{Super}
use Rattle.qg_blocks.specs.Types.{TreeKind}
use Rattle.qg_blocks.specs.Types.{Expected}
use Rattle.qg_walk.specs.Standing.{form_failure}
use Rattle.qg_tree_read.specs.Branch.{AreBranches, IsBranch, IsPointed}
use Rattle.qg_tree_read.specs.Tree.{Reaches}
use Rattle.qg_tree_read.proofs.Under.{IsUnder}
use Rattle.qg_tree_read.proofs.Frames.{items-same, walk-same}
use Rattle.qg_tree_read.proofs.Branches.{each-weaker}

-- the node of a level reaches its own address
pub reach-top : (nodes : ℕ → Option Node) (level address : ℕ) → Reaches nodes level address address
unfolding Reaches
reach-top nodes zero address = refl
reach-top nodes (suc level) address = inl refl

-- no more is reached where what was reached is told as before
pub reach-same : (nodes nodes' : ℕ → Option Node) (level address : ℕ)
    → ((q : ℕ) → Reaches nodes level address q → nodes' q ≡ nodes q)
    → (q : ℕ) → Reaches nodes' level address q → Reaches nodes level address q
unfolding Reaches
reach-same nodes nodes' zero address same q reaches = reaches
reach-same nodes nodes' (suc level) address same q (inl here) = inl here
reach-same nodes nodes' (suc level) address same q (inr (node, is, place, pointer, there, reaches)) =
    let was : nodes address ≡ Some node = sym (same address (inl refl)) ∙ is in
    inr (
      node,
      was,
      place,
      pointer,
      there,
      reach-same nodes nodes' level pointer.child
          (λ r below. same r (inr (node, was, place, pointer, there, below))) q reaches,
    )

pointed_same : (super : Super) (nodes nodes' : ℕ → Option Node) (pointer : Pointer)
    → nodes' pointer.child ≡ nodes pointer.child → IsPointed super nodes pointer → IsPointed super nodes' pointer
pointed_same super nodes nodes' pointer same pointed =
    record {
      node = pointed.node;
      there = same ∙ pointed.there;
      dated = pointed.dated;
      full = pointed.full;
      first = pointed.first;
    }

module _ (tree : TreeKind) (super : Super) (nodes nodes' : ℕ → Option Node) where
  -- the same branch, where what it reaches is told as before
  pub branch-same : (level address : ℕ) (items : List Item) → IsBranch tree super nodes level address items
      → ((q : ℕ) → Reaches nodes level address q → nodes' q ≡ nodes q)
      → IsBranch tree super nodes' level address items
  unfolding IsBranch Reaches
  branch-same zero address items branch same = (branch.0, same address refl ∙ branch.1, branch.2)
  branch-same (suc level) address items branch same = (
    branch.0,
    branch.1,
    same address (inl refl) ∙ branch.2,
    branch.3,
    each-weaker (λ pointer under. IsPointed super nodes pointer × IsBranch tree super nodes level pointer.child under)
        (λ pointer under. IsPointed super nodes' pointer × IsBranch tree super nodes' level pointer.child under)
        branch.1 items
        (λ place pointer under there below.
        let alike : (q : ℕ) → Reaches nodes level pointer.child q → nodes' q ≡ nodes q =
        λ q reaches. same q (inr (Inner branch.0 branch.1, branch.2, place, pointer, there, reaches)) in (
          pointed_same super nodes nodes' pointer (alike pointer.child (reach-top nodes level pointer.child)) below.0,
          branch-same level pointer.child under below.1 alike,
        ))
        branch.4,
  )

  pub branches-same : (level : ℕ) (pointers : List Pointer) (items : List Item)
      → AreBranches tree super nodes level pointers items
      → ((place : ℕ) (pointer : Pointer) → slice_get pointers place ≡ Some pointer → (q : ℕ)
      → Reaches nodes level pointer.child q → nodes' q ≡ nodes q)
      → AreBranches tree super nodes' level pointers items
  branches-same level pointers items each same =
      each-weaker (λ pointer under. IsPointed super nodes pointer × IsBranch tree super nodes level pointer.child under)
      (λ pointer under. IsPointed super nodes' pointer × IsBranch tree super nodes' level pointer.child under) pointers
      items
      (λ place pointer under there below. (
        pointed_same super nodes nodes' pointer
            (same place pointer there pointer.child (reach-top nodes level pointer.child)) below.0,
        branch-same level pointer.child under below.1 (same place pointer there),
      )) each

  -- so does what the walk says of it
  pub IsUnder-same : (level : ℕ) (expected : Expected) (address : ℕ) (items : List Item)
      → IsUnder tree super nodes level expected address items
      → ((q : ℕ) → Reaches nodes level address q → nodes' q ≡ nodes q)
      → IsUnder tree super nodes' level expected address items
  IsUnder-same level expected address items under same = record {
    levelled = under.levelled;
    walked = walk-same (form_failure tree super) nodes nodes' level expected address same ∙ under.walked;
    items_are = items-same nodes nodes' level address same ∙ under.items_are;
  }
