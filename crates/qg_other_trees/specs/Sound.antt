-- Which rules an image keeps that holds the trees of a commit, and the state that it stands for (this project's own).
use Rattle.std.specs.Prelude.{◌≡◌, ℕ, List, [], length, map, Option, None}
use Rattle.qg_node.specs.declared.node.Node.{Node}
use Rattle.qg_items.specs.declared.tree.TheConstants.{EXTENT_TREE, QUOTA_TREE}
use Rattle.qg_super.specs.declared.superblock.Super.{Super}
use Rattle.qg_super.specs.Places.{first_place, second_place}
use Rattle.qg_super.specs.SuperText.{sizes_of}
use Rattle.qg_image.specs.Table.{value_at}
use Rattle.qg_image.specs.declared.quota.Quota.{Quota}
use Rattle.qg_image.specs.Space.{present_extents}
use Rattle.qg_image.specs.State.{State, layout_of, next_generation}
use Rattle.qg_image.specs.declared.tree.TreeKind.TheVariants.{Extents}
use Rattle.qg_image.specs.Failure.{first_failure}
use Rattle.qg_image.specs.ImageState.{as_committed, roots_in, state_in, subvolume_roots, super_in}
use Rattle.qg_image.specs.StateOf.{StateOf}
use Rattle.qg_image.specs.Verdict.{counts_failure, extent_set, places_failure, quota_failure, references_failure}
use Rattle.qg_image.specs.Verdict.{root_failure, roots_failure, space_failure, subvolume_failure}
use Rattle.qg_other_trees.specs.declared.laying.OtherTrees.{OtherTrees}
use Rattle.qg_other_trees.specs.Telling.{AreToldBy}

-- the state that a commit leaves of this one, where its quota is then this, and its other trees have these nodes
abbrev pub committed : List Node → State → Option Quota → State
committed others old quota = as_committed others (record old {
  generation = next_generation old;
  quota = quota;
  pending = [];
})

-- an image with this superblock breaks none of the rules, one by one
pub record KeepsRules (super : Super) (image : List ℕ) : Type 0 where
  pub places : places_failure super (super_in image first_place) (super_in image second_place) (length image) ≡ None
  pub roots : roots_failure super image ≡ None
  pub extents : root_failure Extents super image (value_at EXTENT_TREE (roots_in super image)) ≡ None
  pub quotas : quota_failure super image (roots_in super image) (value_at QUOTA_TREE (roots_in super image)) ≡ None
  pub subvolumes : first_failure
      (map (λ entry. subvolume_failure super image entry.1) (subvolume_roots (roots_in super image)))
      ≡ None
  pub space : space_failure (sizes_of super) (extent_set (present_extents (state_in super image))) ≡ None
  pub references : references_failure super image (layout_of (state_in super image)) ≡ None
  pub counts : counts_failure (layout_of (state_in super image)) (state_in super image).quota ≡ None

-- An image breaks none of the rules, and stands for the state that a commit leaves, its other trees having the nodes
-- that were laid out in these slots, each tree's in the order of its walk; and they tell that state
pub record IsCommitted (trees : OtherTrees) (old : State) (quota : Option Quota) (slots image : List ℕ) : Type 0 where
  pub others : List Node
  pub told : AreToldBy (committed others old quota) slots trees others
  pub rules : KeepsRules trees.superblock image
  pub stands : StateOf image (committed others old quota)
