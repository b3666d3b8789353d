-- What is known of an image that was just opened, and of the trees that are made of it (this project's own).
--
-- Addresses and lengths are in bytes.
use Rattle.std.specs.Prelude.{◌≡◌, ◌↔◌, ◌⊎◌, ℕ, List, Option, None, Some, IsTrue, All}
use Rattle.std.specs.List.{AllByRecursion, Contains, flat_map, list_all, list_any}
use Rattle.qg_num.specs.Fields.{IsBytes}
use Rattle.qg_node.specs.declared.item.Item.{Item}
use Rattle.qg_node.specs.declared.node.Node.{Node}
use Rattle.qg_node.specs.Nodes.{own_items}
use Rattle.qg_items.specs.declared.root.RootItem.{RootItem}
use Rattle.qg_items.specs.declared.tree.TheConstants.{EXTENT_TREE, QUOTA_TREE}
use Rattle.qg_super.specs.declared.superblock.Super.{Super}
use Rattle.qg_image.specs.declared.file.File.{File}
use Rattle.qg_image.specs.FilesOf.{AreItemsOfFiles}
use Rattle.qg_image.specs.Table.{value_at}
use Rattle.qg_image.specs.declared.element.Element.{Element}
use Rattle.qg_image.specs.declared.quota.Quota.{Quota}
use Rattle.qg_image.specs.declared.tree.TreeKind.TheVariants.{Extents, Files, Quotas, Roots}
use Rattle.qg_image.specs.declared.tree.TreeKind.{TreeKind}
use Rattle.qg_image.specs.ImageState.{addresses_of, items_of_root, nodes_of_root, other_nodes, quota_parts}
use Rattle.qg_image.specs.ImageState.{quota_told, root_items, root_nodes, roots_in, subvolume_roots}
use Rattle.qg_image.specs.Verdict.{fits_quota, is_status_part}
use Rattle.qg_image.specs.Walk.{is_item_of}
use Rattle.qg_file_edits.specs.Types.{FsTree}

-- What is kept of the last commit, where nothing was done since: the slots of its other trees' nodes and those of the
-- present state, the runs of the present state, and the book of its references
pub record HoldsCommit (fs : FsTree) (super : Super) (image : List ℕ) : Type 0 where
  pub slots : (slot : ℕ) → Contains fs.land.space.held_slots slot
      ↔ (Contains (addresses_of (other_nodes super image)) slot ⊎ Contains fs.land.space.slots slot)
  pub runs : (run : Element) → Contains fs.land.space.held_runs run ↔ Contains fs.land.space.runs run
  pub book : fs.refs.held ≡ fs.refs.refs

-- the bodies of the items of a subvolume's tree are bytes
abbrev pub AreBytes : Super → List ℕ → RootItem → Type 0
AreBytes super image root = All (λ item. IsBytes item.body) (items_of_root Files super image root)

-- so it is of each subvolume's
abbrev pub HasBytes : Super → List ℕ → Type 0
HasBytes super image =
    AllByRecursion (λ entry. AreBytes super image entry.1) (subvolume_roots (roots_in super image))

-- the subvolume has this ROOT_ITEM in an image, and these files
pub record IsOf (super : Super) (image : List ℕ) (sub : ℕ) (root : RootItem) (files : List (ℕ × File)) : Type 0 where
  pub there : value_at sub (subvolume_roots (roots_in super image)) ≡ Some root
  pub are : AreItemsOfFiles super.generation (items_of_root Files super image root) files

-- items of a tree stand in these nodes, and are some that the tree may hold in an image of this generation
pub record AreItemsOf (tree : TreeKind) (generation : ℕ) (nodes : List Node) (items : List Item) : Type 0 where
  pub stand : items ≡ flat_map own_items nodes
  pub held : IsTrue (list_all (is_item_of tree generation) items)

-- What is known of the quota tree of a sound image: its items are such, tell the state of quota and fit each other, and
-- they tell this quota
pub record HoldsQuota (super : Super) (image : List ℕ) (root : RootItem) (quota : Quota) : Type 0 where
  pub items : AreItemsOf Quotas super.generation (nodes_of_root Quotas super image root)
      (items_of_root Quotas super image root)
  pub status : IsTrue (list_any is_status_part (quota_parts super image))
  pub fit : IsTrue (list_all (fits_quota (quota_parts super image)) (quota_parts super image))
  pub tell : quota_told (quota_parts super image) ≡ quota

-- so it is of a tree that is named; while quota is off none is
abbrev pub HoldsQuotaOf : Super → List ℕ → Option RootItem → Option Quota → Type 0
HoldsQuotaOf super image None None = Unit {0}
HoldsQuotaOf super image (Some root) (Some quota) = HoldsQuota super image root quota
HoldsQuotaOf super image _ _ = ⊥

-- What is known of the other trees of a sound image: the items of each are such, and the quota tree's tell this quota
pub record HoldsOthers (super : Super) (image : List ℕ) (quota : Option Quota) : Type 0 where
  pub roots : AreItemsOf Roots super.generation (root_nodes super image) (root_items super image)
  pub extent_root : RootItem
  pub extents_named : value_at EXTENT_TREE (roots_in super image) ≡ Some extent_root
  pub extents : AreItemsOf Extents super.generation (nodes_of_root Extents super image extent_root)
      (items_of_root Extents super image extent_root)
  pub quota_tree : HoldsQuotaOf super image (value_at QUOTA_TREE (roots_in super image)) quota
