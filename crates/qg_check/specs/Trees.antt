-- What is read of each tree of an image (this project's own).
use Rattle.std.specs.Prelude.{◌≡◌, ◌≤◌, ℕ, true, List, [], length, map, Option, None, Some}
use Rattle.std.specs.List.{filter_map, list_all}
use Rattle.std.specs.List.Sorted.{IsNonDecreasingBy}
use Rattle.qg_items.specs.declared.root.RootItem.{RootItem}
use Rattle.qg_items.specs.declared.tree.TheConstants.{EXTENT_TREE, QUOTA_TREE}
use Rattle.qg_super.specs.declared.superblock.Super.{Super}
use Rattle.qg_image.specs.Table.{value_at}
use Rattle.qg_image.specs.ItemMeaning.{extent_part, extent_part_stamps, quota_part}
use Rattle.qg_image.specs.declared.part.ExtentPart.{ExtentPart}
use Rattle.qg_image.specs.Owed.{part_address}
use Rattle.qg_image.specs.declared.tree.TreeKind.TheVariants.{Extents, Quotas}
use Rattle.qg_image.specs.Failure.{first_failure}
use Rattle.qg_image.specs.ImageState.{addresses_of, root_nodes, roots_in, subvolume_roots, items_of_root, nodes_of_root}
use Rattle.qg_image.specs.ImageState.{quota_told}
use Rattle.qg_image.specs.Walk.{are_by}
use Rattle.qg_image.specs.Verdict.{are_roots, most_subvolumes, subvolume_failure}
use Rattle.qg_extents.specs.Laws.{AreFew}
use Rattle.qg_shared_walk.specs.declared.nodes.NodesRead.{NodesRead}
use Rattle.qg_shared_walk.specs.ReadOfTrees.{AreFound}
use Rattle.qg_shared_walk.specs.NodeFacts.{AreOfNodes}
use Rattle.qg_check.specs.declared.judge.Read.{Read}
use Rattle.qg_check.specs.declared.trees.Trees.{Trees}
use Rattle.qg_check.specs.declared.trees.ExtentTree.{ExtentTree}
use Rattle.qg_check.specs.declared.trees.QuotaTree.{QuotaTree}

-- the roots that must be there are, and these are the extent tree's and, while there is one, the quota tree's
pub record HasTrees (roots : List (ℕ × RootItem)) (extents : RootItem) (quotas : Option RootItem) : Type 0 where
  pub are : are_roots roots ≡ true
  pub extent_tree : value_at EXTENT_TREE roots ≡ Some extents
  pub quota_tree : value_at QUOTA_TREE roots ≡ quotas

-- some roots are those of these trees and of these subvolumes, no more than are served
pub record AreNamed (roots : List (ℕ × RootItem)) (extents : RootItem) (quotas : Option RootItem)
    (subvolumes : List (ℕ × RootItem)) : Type 0 where
  pub are : are_roots roots ≡ true
  pub extent_tree : value_at EXTENT_TREE roots ≡ Some extents
  pub quota_tree : value_at QUOTA_TREE roots ≡ quotas
  pub all : subvolume_roots roots ≡ subvolumes
  pub few : length subvolumes ≤ most_subvolumes

-- the root tree of an image names these trees
pub record AreTrees (super : Super) (image : List ℕ) (trees : Trees) : Type 0 where
  pub named : AreNamed (roots_in super image) trees.extents trees.quotas trees.subvolumes
  pub placed : trees.nodes ≡ addresses_of (root_nodes super image)

-- the extent tree says this
pub record IsExtentTree (super : Super) (image : List ℕ) (root : RootItem) (tree : ExtentTree) : Type 0 where
  pub said : tree.parts ≡ filter_map extent_part (items_of_root Extents super image root)
  pub placed : tree.nodes ≡ addresses_of (nodes_of_root Extents super image root)

-- the quota tree says this, and its nodes are these
pub record IsQuotaTree (super : Super) (image : List ℕ) (root : RootItem) (tree : QuotaTree) : Type 0 where
  pub said : tree.quota.quota ≡ quota_told (filter_map quota_part (items_of_root Quotas super image root))
  pub placed : tree.nodes ≡ addresses_of (nodes_of_root Quotas super image root)

-- so it does, where there is one; while quota is off there is none
abbrev pub IsQuotaTreeOf : Super → List ℕ → Option RootItem → Option QuotaTree → Type 0
IsQuotaTreeOf super image None None = Unit {0}
IsQuotaTreeOf super image (Some root) (Some tree) = IsQuotaTree super image root tree
IsQuotaTreeOf super image _ _ = ⊥

-- the nodes of the quota tree, and none while quota is off
abbrev pub quota_nodes_read : Option QuotaTree → List ℕ
quota_nodes_read None = []
quota_nodes_read (Some tree) = tree.nodes

-- the trees of subvolumes with these ROOT_ITEMs keep all rules on subvolumes, and this was gathered of their nodes
pub record AreFileTrees (super : Super) (image : List ℕ) (roots : List (ℕ × RootItem))
    (nodes : NodesRead) : Type 0 where
  pub found : AreFound super image roots AreOfNodes nodes
  pub sound : first_failure (map (λ entry. subvolume_failure super image entry.1) roots) ≡ None

-- this was read of the trees of an image
pub record AreRead (super : Super) (image : List ℕ) (read : Read) : Type 0 where
  pub trees : AreTrees super image read.trees
  pub extents : IsExtentTree super image read.trees.extents read.extents
  pub quotas : IsQuotaTreeOf super image read.trees.quotas read.quotas
  pub subvolumes : AreFileTrees super image read.trees.subvolumes read.nodes

-- ---- over any disk

-- what the extent tree says stands by address; no reference is told more often than it may be there, and no generation
-- is past this one
pub record AreFitParts (generation : ℕ) (parts : List ExtentPart) : Type 0 where
  pub ordered : IsNonDecreasingBy part_address parts
  pub few : AreFew parts
  pub by : list_all (λ part. are_by generation (extent_part_stamps part)) parts ≡ true
