-- What is made of a sound image that was just opened (this project's own). Addresses and lengths are in bytes.
use Rattle.std.specs.Prelude.{◌≡◌, ◌↔◌, ℕ, ◌+◌, ◌≤◌, List, length, map, Some, None, IsTrue, ◌==◌, not}
use Rattle.std.specs.List.{AllByRecursion, Contains, filter, flat_map, list_all}
use Rattle.std.specs.List.Sorted.{IsStrictlyIncreasing}
use Rattle.qg_device.specs.History.{Event, Recorded, content}
use Rattle.qg_node.specs.declared.node.Node.{Node}
use Rattle.qg_items.specs.declared.root.RootItem.{RootItem}
use Rattle.qg_items.specs.declared.tree.TheConstants.{TOP_LEVEL}
use Rattle.qg_super.specs.declared.superblock.Super.{Super}
use Rattle.qg_super.specs.Places.{is_served, total_bytes}
use Rattle.qg_super.specs.SuperText.{sizes_of}
use Rattle.qg_image.specs.declared.file.File.{File}
use Rattle.qg_image.specs.FilesOf.{AreItemsOfFiles}
use Rattle.qg_image.specs.ItemMeaning.{extent_part_stamps}
use Rattle.qg_image.specs.Table.{has_key, keys_of}
use Rattle.qg_image.specs.declared.element.Element.{Element}
use Rattle.qg_image.specs.Owed.{Agrees, homeless}
use Rattle.qg_image.specs.Space.{present_extents}
use Rattle.qg_image.specs.State.{layout_of}
use Rattle.qg_image.specs.declared.tree.TreeKind.TheVariants.{Files}
use Rattle.qg_image.specs.ImageState.{addresses_of, extent_parts, items_of_root, level_in, nodes_of_root, roots_in}
use Rattle.qg_image.specs.ImageState.{state_in, subvolume_roots}
use Rattle.qg_image.specs.ItemsUnder.{items_under, nodes_under}
use Rattle.qg_image.specs.Verdict.{extent_set, space_failure}
use Rattle.qg_image.specs.Walk.{are_by, is_item_of, node_found, root_told, tree_failure}
use Rattle.qg_blocks.specs.NodesInMemory.{nothing_fresh, slots_of}
use Rattle.qg_tree_read.specs.Tree.{Root}
use Rattle.qg_extents.specs.Table.{book_of}
use Rattle.qg_extents.specs.BookRecords.{IsTold}
use Rattle.qg_shared_trees.specs.Types.{FsTree}
use Rattle.qg_shared_trees.specs.Standing.{Stands, items_in, layout_in}
use Rattle.qg_shared_trees.specs.Laying.{names_in}

-- What is known of a subvolume of a sound image by its ROOT_ITEM: the walk of its tree meets no failure, its items and
-- nodes are told, and the items are those of its files
pub record IsSoundSubvolume (super : Super) (image : List ℕ) (root : RootItem) : Type 0 where
  pub walked : tree_failure Files super image (root_told root) root.bytenr ≡ None
  pub items :
      items_under Files super (node_found super image) (level_in super image root.bytenr) (root_told root) root.bytenr
      ≡ Some (items_of_root Files super image root)
  pub nodes :
      nodes_under Files super (node_found super image) (level_in super image root.bytenr) (root_told root) root.bytenr
      ≡ Some (nodes_of_root Files super image root)
  pub held : IsTrue (list_all (is_item_of Files super.generation) (items_of_root Files super image root))
  pub files : List (ℕ × File)
  pub files_are : AreItemsOfFiles super.generation (items_of_root Files super image root) files

-- What is known of a sound image of served sizes: its subvolumes ascend by number, the top-level one is there, and each
-- is sound; the extents that files name keep the rule `space`; the extent tree's records are exactly what is owed, and
-- none is of a generation past the superblock's; and each node that is not full is reached by its owner
pub record IsSoundImage (super : Super) (image : List ℕ) : Type 0 where
  pub served : IsTrue (is_served (sizes_of super))
  pub long : total_bytes (sizes_of super) ≤ length image
  pub ascending : IsStrictlyIncreasing (keys_of (subvolume_roots (roots_in super image)))
  pub top : IsTrue (has_key TOP_LEVEL (subvolume_roots (roots_in super image)))
  pub each : AllByRecursion (λ entry. IsSoundSubvolume super image entry.1) (subvolume_roots (roots_in super image))
  pub space : space_failure (sizes_of super) (extent_set (present_extents (state_in super image))) ≡ None
  pub agrees : Agrees (layout_of (state_in super image)) (extent_parts super image)
  pub dated : IsTrue (list_all (λ part. are_by super.generation (extent_part_stamps part)) (extent_parts super image))
  pub home : homeless (layout_of (state_in super image)) ≡ None

-- the tree of a subvolume by its number and its ROOT_ITEM, for the generation to come
abbrev pub opened_tree : Super → ℕ × RootItem → Root
opened_tree super entry = record {
  address = entry.1.bytenr;
  height = entry.1.level;
  owner = entry.0;
  next = super.generation + 1;
}

-- the trees of all subvolumes, by number
abbrev pub opened_trees : Super → List ℕ → List Root
opened_trees super image = map (opened_tree super) (subvolume_roots (roots_in super image))

-- the nodes of all subvolumes
abbrev pub opened_nodes : Super → List ℕ → List Node
opened_nodes super image =
    flat_map (λ entry. nodes_of_root Files super image entry.1) (subvolume_roots (roots_in super image))

-- What is made of it: the tree of the top-level subvolume at hand, and the others beside it by number, for the
-- generation to come; no node fresh; the slots of their nodes, which the last commit holds too, and the extents that
-- files name; and the book that the extent tree's records tell
pub record IsOpened (fs : FsTree) (super : Super) (image : List ℕ) : Type 0 where
  pub tree : Contains (opened_trees super image) fs.tree
  pub number : fs.tree.owner ≡ TOP_LEVEL
  pub others : fs.others.items ≡ filter (λ tree. not (tree.owner == TOP_LEVEL)) (opened_trees super image)
  pub draft : fs.land.blocks.draft ≡ nothing_fresh (slots_of super.nodesize super.slots)
  pub sizes : fs.land.space.sizes ≡ sizes_of super
  pub slots : (slot : ℕ) → Contains fs.land.space.slots slot
      ↔ Contains (addresses_of (opened_nodes super image)) slot
  pub held_slots : (slot : ℕ) → Contains fs.land.space.slots slot → Contains fs.land.space.held_slots slot
  pub runs : (run : Element) → Contains fs.land.space.runs run ↔ Contains (present_extents (state_in super image)) run
  pub refs : fs.refs ≡ record fs.refs {
    tree = TOP_LEVEL;
    nodesize = super.nodesize;
    next = super.generation + 1;
    misfit = None;
  }
  pub told : IsTold super.nodesize (extent_parts super image) (book_of fs.refs.refs)

-- The trees stand with the items of the top-level subvolume, and the pieces that they tell; each tree has the items of
-- its subvolume; and as a layout they are that of the state which the image stands for
pub record StandsOpened (fs : FsTree) (super : Super) (events : List Event) : Type 0 where
  pub stands : (root : RootItem) → Contains (subvolume_roots (roots_in super (content events))) (TOP_LEVEL, root)
      → Stands fs (Recorded events) (items_of_root Files super (content events) root)
      (names_in (items_of_root Files super (content events) root))
  pub each : (entry : ℕ × RootItem) → Contains (subvolume_roots (roots_in super (content events))) entry
      → items_in fs (Recorded events) (opened_tree super entry) ≡ items_of_root Files super (content events) entry.1
  pub layout : layout_in fs (Recorded events) ≡ layout_of (state_in super (content events))
