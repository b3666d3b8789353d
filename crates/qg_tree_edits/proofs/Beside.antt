-- The neighbour of a child that was edited.
use Rattle.std.proofs.Common.{◌≡◌, ◌≢◌, ◌⊎◌, ℕ, ◌+◌, ◌≤◌, ◌<◌, List, take, drop, arith, sym, subst, ◌∙◌, inl, inr}
use Rattle.std.proofs.Common.{Option, Some}
use Rattle.std.specs.Prelude.{slice_get}
use Rattle.qg_device.specs.History.{History}
use Rattle.qg_num.specs.declared.key.Key.{Key}
use Rattle.qg_node.specs.declared.item.Item.{Item}
use Rattle.qg_node.specs.declared.pointer.Pointer.{Pointer}
use Rattle.qg_image.specs.declared.tree.TreeKind.{TreeKind}
use Rattle.qg_blocks.specs.NodesFound.{told}
use Rattle.qg_node_alloc.specs.declared.ground.Ground.{Ground}
use Rattle.qg_tree_edits.specs.declared.child.Neighbour.{Neighbour}
use Rattle.qg_tree_edits.specs.declared.instead.Instead.{Instead}
use Rattle.qg_tree_read.specs.Tree.{Reaches, Root, super_of}
use Rattle.qg_tree_read.specs.Branch.{IsBranch, IsPointed}
use Rattle.qg_tree_edits.specs.Editing.{IsBeside, IsOwned, IsUnsettled, alone}
use Rattle.qg_tree_read.proofs.Branches.{each-get}
use Rattle.qg_tree_read.proofs.BranchFrames.{reach-top}
use Rattle.qg_tree_edits.proofs.Spliced.{get-drop, get-take}

-- what is under another child
module _ (tree : TreeKind) (root : Root) (land : Ground) (history : History) (level at : ℕ) (to : Option Key)
    (place : ℕ) (child : Instead) (items : List Item)
    (un : IsUnsettled tree root land history level at to place child items) where
  Under : Pointer → List Item → Type 0
  Under p under = IsPointed (super_of root land.blocks.draft) (told land.blocks.draft history) p
      × IsBranch tree (super_of root land.blocks.draft) (told land.blocks.draft history) level p.child under

  pub other-branch : (i : ℕ) (pointer : Pointer) → (i < place) ⊎ (place + 1 ≤ i)
      → slice_get un.pointers i ≡ Some pointer
      → (under : List Item) × IsPointed (super_of root land.blocks.draft) (told land.blocks.draft history) pointer
      × IsBranch tree (super_of root land.blocks.draft) (told land.blocks.draft history) level pointer.child under
  unfolding Under
  other-branch i pointer (inl low) there =
      let row = each-get Under (take place un.pointers) un.front un.before i pointer
      (get-take place un.pointers i pointer low there) in (row.0, row.2.0, row.2.1)
  other-branch i pointer (inr high) there =
      let at = get-drop (place + 1) un.pointers i pointer high there in
      let row = each-get Under (drop (place + 1) un.pointers) un.back un.after at.0 pointer at.1 in
      (row.0, row.2.0, row.2.1)

-- its index is another one
pub beside-differs : (pointers : List Pointer) (to : Option Key) (level place : ℕ) (beside : Neighbour)
    → (is : IsBeside pointers to level place beside) → is.other ≢ place
beside-differs pointers to level place beside is same = elim is.pair [
  | inl behind ↦ let a = behind.1 in omega (arith, a, same)
  | inr front ↦ let a = front.0 in let b = front.1 in omega (arith, a, b, same)
]

module _ (tree : TreeKind) (root : Root) (land new : Ground) (history : History) (level at : ℕ)
    (to : Option Key) (place child : ℕ) (items : List Item)
    (un : IsUnsettled tree root land history level at to place (alone child) items) where
  -- and so is its address, also once it is owned
  pub beside-apart : (beside : Neighbour) (now : ℕ) → IsBeside un.pointers to level place beside
      → IsOwned tree root land new history beside.way.expected beside.way.address now → now ≢ child
  beside-apart beside now is owned same = elim owned.same [
    | inl kept ↦
        let there : child ≡ is.way.pointer.child = sym same ∙ kept.1 ∙ is.way.child in
        un.alone is.other is.way.pointer (beside-differs un.pointers to level place beside is) is.way.there
        is.way.pointer.child (reach-top (told land.blocks.draft history) level is.way.pointer.child)
        (inl (subst (λ (a : ℕ). Reaches (told land.blocks.draft history) level child a) there
        (reach-top (told land.blocks.draft history) level child)))
    | inr copied ↦
        un.free now copied.1 (inl
        (inl (subst (λ (a : ℕ). Reaches (told land.blocks.draft history) level child a) (sym same)
        (reach-top (told land.blocks.draft history) level child))))
  ]
