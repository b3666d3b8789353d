-- What was read of an image before its trees are judged together (this project's own).
use Rattle.std.specs.Prelude.{◌≡◌, ℕ, true, List, [], Some, IfSome}
use Rattle.std.specs.List.{list_all}
use Rattle.std.specs.Option.{option_map}
use Rattle.qg_super.specs.declared.superblock.Super.{Super}
use Rattle.qg_super.specs.Places.{first_place, is_served, is_slot, second_place}
use Rattle.qg_super.specs.SuperText.{is_super, sizes_of}
use Rattle.qg_image.specs.Table.{keys_of}
use Rattle.qg_image.specs.ImageState.{super_in, super_of}
use Rattle.qg_image.specs.Verdict.{together_failure, verdict}
use Rattle.qg_walk.specs.WalkKeeps.{AreInSlots}
use Rattle.qg_shared_walk.specs.NodeFacts.{AreOfNodes}
use Rattle.qg_qgroups.specs.Tracked.{quota_of, HoldsAll, IsTracked}
use Rattle.qg_check.specs.Editable.{AreGroupsOf, AreSubvolumes}
use Rattle.qg_check.specs.Stale.{stale_place}
use Rattle.qg_check.specs.Trees.{quota_nodes_read, AreFitParts, AreRead}
use Rattle.qg_check.specs.declared.judge.Read.{Read}
use Rattle.qg_check.specs.declared.read.Whole.{Whole}
use Rattle.qg_check.specs.declared.trees.QuotaTree.{QuotaTree}

-- what was read is fit, tree by tree, whatever the disk tells
pub record IsFit (super : Super) (read : Read) : Type 0 where
  pub superblock : is_super super ≡ true
  pub served : is_served (sizes_of super) ≡ true
  pub subvolumes : AreSubvolumes super.generation read.trees.subvolumes
  pub roots : list_all (is_slot (sizes_of super)) read.trees.nodes ≡ true
  pub extents : list_all (is_slot (sizes_of super)) read.extents.nodes ≡ true
  pub parts : AreFitParts super.generation read.extents.parts
  pub quotas : list_all (is_slot (sizes_of super)) (quota_nodes_read read.quotas) ≡ true
  pub groups : AreGroupsOf super.generation (keys_of read.trees.subvolumes)
      (quota_of (option_map (λ (tree : QuotaTree). tree.quota) read.quotas))
  pub tracked : IfSome (option_map (λ (tree : QuotaTree). tree.quota) read.quotas) IsTracked
  pub none : IfSome (option_map (λ (tree : QuotaTree). tree.quota) read.quotas) (λ state. HoldsAll state [])
  pub nodes : AreInSlots (sizes_of super) AreOfNodes read.nodes

-- this was read of an image, whose superblocks and trees keep their rules, each by itself: what is left of its verdict
-- is what they say together
pub record IsWhole (image : List ℕ) (whole : Whole) : Type 0 where
  pub chosen : super_of image ≡ Some whole.superblock
  pub stale : whole.stale ≡ stale_place (super_in image first_place) (super_in image second_place)
  pub read : AreRead whole.superblock image whole.read
  pub left : verdict image ≡ together_failure whole.superblock image
