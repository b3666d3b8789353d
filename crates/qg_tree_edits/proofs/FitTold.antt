-- What is told of the top of a part of a tree that is fit for an edit.
use Rattle.std.proofs.Common.{◌≡◌, ℕ, false, List, ap, ◌∙◌, Some}
use Rattle.std.proofs.lemmas.Bool.{false_from_ne_true}
use Rattle.qg_device.specs.History.{History}
use Rattle.qg_node.specs.declared.item.Item.{Item}
use Rattle.qg_image.specs.declared.expected.Expected.{Expected}
use Rattle.qg_image.specs.declared.tree.TreeKind.{TreeKind}
use Rattle.qg_blocks.specs.NodesFound.{told}
use Rattle.qg_space.specs.Holding.{is_free_slot}
use Rattle.qg_node_alloc.specs.declared.ground.Ground.{Ground}
use Rattle.qg_edit.specs.declared.edit.Edit.{Edit}
use Rattle.qg_tree_read.specs.Tree.{Root, super_of}
use Rattle.qg_tree_edits.specs.Editing.{IsOwned, IsPartFit}
use Rattle.qg_tree_read.proofs.Branches.{branch-level}
use Rattle.qg_tree_read.proofs.BranchFrames.{reach-top}
use Rattle.qg_tree_edits.proofs.PartEdited.{fit-branch}

-- the node that is owned is told there, and its slot is taken
pub fit-told : (tree : TreeKind) (root : Root) (land mid : Ground) (history : History) (level : ℕ)
    (expected : Expected) (at now : ℕ) (edit : Edit) (items : List Item)
    → IsPartFit tree root land history level expected at edit items
    → (owned : IsOwned tree root land mid history expected at now)
    → (told land.blocks.draft history at ≡ Some owned.node) × (is_free_slot land.space at ≡ false)
fit-told tree root land mid history level expected at now edit items fit owned =
    let branch = fit-branch tree root land history level expected at edit items fit in
    let top = branch-level tree (super_of root land.blocks.draft) (told land.blocks.draft history) level at items branch
    at (reach-top (told land.blocks.draft history) level at) in (
      top.1 ∙ ap Some (owned.alone top.0 top.1),
      false_from_ne_true (is_free_slot land.space at)
          (λ free. fit.apart at free (reach-top (told land.blocks.draft history) level at)),
    )
