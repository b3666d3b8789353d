-- What is kept of an image that was read (this project's own).
use Rattle.std.specs.Prelude.{◌≡◌, ◌≤◌, ◌<◌, ℕ, false, All, List, [], ◌++◌, None, Some, IfSome, IsTrue}
use Rattle.std.specs.List.{AllByRecursion, Contains, flat_map, list_all}
use Rattle.std.specs.Option.{option_map}
use Rattle.std.specs.List.Sorted.{IsStrictlyIncreasing}
use Rattle.qg_num.specs.Fields.{IsBytes}
use Rattle.qg_node.specs.declared.node.Node.{Node}
use Rattle.qg_node.specs.Nodes.{header_of}
use Rattle.qg_items.specs.declared.extent.Reference.{Reference}
use Rattle.qg_items.specs.declared.root.RootItem.{RootItem}
use Rattle.qg_super.specs.declared.superblock.Super.{Super}
use Rattle.qg_super.specs.Places.{first_place, is_slot, second_place}
use Rattle.qg_super.specs.SuperText.{is_super, sizes_of}
use Rattle.qg_image.specs.declared.file.File.{File}
use Rattle.qg_image.specs.FilesOf.{AreItemsOfFiles}
use Rattle.qg_image.specs.Table.{keys_of, value_at}
use Rattle.qg_image.specs.declared.element.Element.{Element}
use Rattle.qg_image.specs.Owed.{Agrees, homeless, is_nothing, layout_extents, owed_count, what_at}
use Rattle.qg_image.specs.State.{Layout, Placed, layout_of}
use Rattle.qg_image.specs.Space.{present_extents}
use Rattle.qg_image.specs.declared.tree.TreeKind.TheVariants.{Files}
use Rattle.qg_image.specs.ImageState.{extent_parts, items_of_root, other_nodes, nodes_of_root, quota_in, roots_in}
use Rattle.qg_image.specs.ImageState.{state_in, subvolume_roots, super_in, super_of, addresses_of}
use Rattle.qg_image.specs.Verdict.{IsSound, extent_set, space_failure}
use Rattle.qg_reach.specs.Sets.{HaveSame}
use Rattle.qg_refs.specs.declared.kept.What.{What}
use Rattle.qg_refs.specs.Book.{AgreesWithOwed, Book, full_in, what_in}
use Rattle.qg_extents.specs.Table.{IsTable, book_of}
use Rattle.qg_extents.specs.BookRecords.{IsTold}
use Rattle.qg_qgroups.specs.Tracked.{HoldsAll, IsTracked, quota_of}
use Rattle.qg_check.specs.Editable.{AreGroupsOf, AreSubvolumes}
use Rattle.qg_check.specs.Stale.{stale_place}
use Rattle.qg_check.specs.Trees.{quota_nodes_read}
use Rattle.qg_check.specs.declared.image.Image.{Image}
use Rattle.qg_check.specs.declared.judge.Read.{Read}

-- the items of a subvolume's tree have bodies of bytes, and are read as files
pub record IsSubvolumeOf (super : Super) (bytes : List ℕ) (root : RootItem) : Type 0 where
  pub files : List (ℕ × File)
  pub told : AreItemsOfFiles super.generation (items_of_root Files super bytes root) files
  pub bodies : All (λ item. IsBytes item.body) (items_of_root Files super bytes root)

-- what is known of a node of so many bytes
abbrev pub node_known : ℕ → Node → What
node_known nodesize node = record {
  bytes = nodesize;
  level = Some (header_of node).level;
  generation = (header_of node).generation;
}

-- what is known of a data extent, whose record is of this generation
abbrev pub extent_known : ℕ → Element → What
extent_known generation extent = record { bytes = extent.bytes; level = None; generation = generation }

-- A book says what a layout owes: exactly that is counted. Of each node bytes, level, generation and mark are known,
-- and of each extent that leaves name its bytes; and what is owed is owed to a node or an extent
pub record IsBookOf (layout : Layout) (book : Book) : Type 0 where
  pub agrees : AgreesWithOwed layout book
  pub nodes : (at : ℕ) (placed : Placed) → value_at at layout.nodes ≡ Some placed
      → what_in (book at) ≡ Some (node_known layout.nodesize placed.node)
  pub marks : (at : ℕ) (placed : Placed) → value_at at layout.nodes ≡ Some placed → full_in (book at) ≡ placed.full
  pub extents : (run : Element) → Contains (layout_extents layout) run
      → (generation : ℕ) × (what_in (book run.address) ≡ Some (extent_known generation run))
  pub begins : (at : ℕ) (reference : Reference) → 0 < owed_count layout at reference
      → is_nothing (what_at layout at) ≡ false

-- This is kept of bytes with this superblock: the subvolumes, each of which has files, and quota of the state that they
-- stand for, where nodes and extents lie, and the book that the extent tree's items tell, which says what the state's
-- layout owes: exactly that is recorded, and each node that is not full is reached by its owner
pub record StandsFor (super : Super) (bytes : List ℕ) (image : Image) : Type 0 where
  pub same : image.superblock ≡ super
  pub roots : subvolume_roots (roots_in super bytes) ≡ image.roots
  pub quota : quota_in super bytes ≡ quota_of image.quota
  pub each : AllByRecursion (λ entry. IsSubvolumeOf super bytes entry.1) image.roots
  pub others : image.others ≡ addresses_of (other_nodes super bytes)
  pub nodes : HaveSame image.nodes
      (addresses_of (flat_map (λ entry. nodes_of_root Files super bytes entry.1) image.roots))
  pub ascending : IsStrictlyIncreasing image.nodes
  pub extents : image.extents ≡ extent_set (present_extents (state_in super bytes))
  pub recorded : IsTold super.nodesize (extent_parts super bytes) (book_of image.book)
  pub owed : IsBookOf (layout_of (state_in super bytes)) (book_of image.book)
  pub agrees : Agrees (layout_of (state_in super bytes)) (extent_parts super bytes)
  pub home : homeless (layout_of (state_in super bytes)) ≡ None

-- the bytes are a sound image, and this is what they stand for
pub record IsImage (bytes : List ℕ) (image : Image) : Type 0 where
  pub sound : IsSound bytes
  pub chosen : super_of bytes ≡ Some image.superblock
  pub stale : image.stale ≡ stale_place (super_in bytes first_place) (super_in bytes second_place)
  pub kept : StandsFor image.superblock bytes image

-- ---- over any disk

-- this is kept of the trees that were read: what they said, and where nodes and extents lie, which keep the rule
-- `space`
pub record Keeps (super : Super) (read : Read) (image : Image) : Type 0 where
  pub roots : image.roots ≡ read.trees.subvolumes
  pub quota : image.quota ≡ option_map (λ tree. tree.quota) read.quotas
  pub others : image.others ≡ read.trees.nodes ++ read.extents.nodes ++ quota_nodes_read read.quotas
  pub nodes : IsTrue (list_all (is_slot (sizes_of super)) image.nodes)
  pub space : space_failure (sizes_of super) image.extents ≡ None
  pub book : IsTold super.nodesize read.extents.parts (book_of image.book)
  pub table : IsTable image.book

-- an image that was read may be edited: its numbers are in their ranges, its extents lie apart, its nodes lie in slots,
-- the next commit can name its subvolumes and groups, and no generation is past its own
pub record IsEditable (image : Image) : Type 0 where
  pub superblock : IsTrue (is_super image.superblock)
  pub roots : AreSubvolumes image.superblock.generation image.roots
  pub space : space_failure (sizes_of image.superblock) image.extents ≡ None
  pub quota : AreGroupsOf image.superblock.generation (keys_of image.roots) (quota_of image.quota)
  pub tracked : IfSome image.quota (λ state. IsTracked state × HoldsAll state [])
  pub nodes : IsTrue (list_all (is_slot (sizes_of image.superblock)) image.nodes)
  pub others : IsTrue (list_all (is_slot (sizes_of image.superblock)) image.others)
  pub known : All (λ entry. entry.1.what.generation ≤ image.superblock.generation) image.book
