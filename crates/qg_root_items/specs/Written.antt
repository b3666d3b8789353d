-- The items that a commit writes, one by one (on-disk format, "item types").
use Rattle.std.specs.Prelude.{ℕ, Bool, true, false, List, [], ◌∷◌, map, Option, Some, None}
use Rattle.qg_num.specs.declared.piece.Piece.{Piece}
use Rattle.qg_node.specs.Nodes.{item_under}
use Rattle.qg_node.specs.declared.item.Item.{Item}
use Rattle.qg_items.specs.declared.kind.TheConstants.{INODE_ITEM, EXTENT_DATA, ROOT_ITEM}
use Rattle.qg_items.specs.declared.tree.TheConstants.{EXTENT_TREE, QUOTA_TREE}
use Rattle.qg_items.specs.declared.file.InodeItem.{InodeItem}
use Rattle.qg_items.specs.declared.file.ExtentData.{ExtentData}
use Rattle.qg_items.specs.declared.root.RootItem.{RootItem}
use Rattle.qg_items.specs.ItemText.{inode_text, extent_data_text, root_text}
use Rattle.qg_image.specs.declared.file.File.{File}
use Rattle.qg_image.specs.Table.{with_value}
use Rattle.qg_image.specs.FilesOf.{pieces_bytes}

-- ---- the root tree

-- a tree's ROOT_ITEM
abbrev pub item_of_root : ℕ → RootItem → Item
item_of_root tree root = item_under tree ROOT_ITEM 0 (root_text root)

-- the same of a tree that is told with its number
abbrev pub item_of_named : ℕ × RootItem → Item
item_of_named entry = item_of_root entry.0 entry.1

-- with the quota tree in its place, where there is one
abbrev pub with_quotas : Option RootItem → List (ℕ × RootItem) → List (ℕ × RootItem)
with_quotas None subvolumes = subvolumes
with_quotas (Some quotas) subvolumes = with_value QUOTA_TREE quotas subvolumes

-- what the root tree names, ascending by number: the extent tree, and the quota tree in its place among the subvolumes
abbrev pub roots_named : RootItem → List (ℕ × RootItem) → Option RootItem → List (ℕ × RootItem)
roots_named extents subvolumes quotas = (EXTENT_TREE, extents) ∷ with_quotas quotas subvolumes

-- the quota trees: one, and none where there is none
abbrev pub quota_roots : Option RootItem → ℕ
quota_roots None = 0
quota_roots (Some quotas) = 1

-- a subvolume's, and before it the quota tree's where this stands next
abbrev pub roots_beside : Bool → RootItem → ℕ × RootItem → List (ℕ × RootItem)
roots_beside true quotas subvolume = (QUOTA_TREE, quotas) ∷ subvolume ∷ []
roots_beside false quotas subvolume = subvolume ∷ []

-- a ROOT_ITEM for each
abbrev pub items_of_roots : RootItem → List (ℕ × RootItem) → Option RootItem → List Item
items_of_roots extents subvolumes quotas = map item_of_named (roots_named extents subvolumes quotas)

-- ---- a subvolume's tree

-- a file's INODE_ITEM tells the sum of its pieces
abbrev pub inode_of : File → InodeItem
inode_of file = record {
  generation = file.generation;
  transid = file.transid;
  size = file.size;
  nbytes = pieces_bytes file.pieces;
}

-- a piece's EXTENT_DATA tells the extent's length twice
abbrev pub extent_data_of : Piece → ExtentData
extent_data_of piece = record {
  generation = piece.stamp;
  ram_bytes = piece.extent_bytes;
  disk_bytenr = piece.extent;
  disk_num_bytes = piece.extent_bytes;
  offset = piece.offset;
  num_bytes = piece.len;
}

-- a file's INODE_ITEM, under the file's number
abbrev pub item_of_inode : ℕ → File → Item
item_of_inode ino file = item_under ino INODE_ITEM 0 (inode_text (inode_of file))

-- the EXTENT_DATA of a file's piece, under the piece's position
abbrev pub item_of_piece : ℕ → Piece → Item
item_of_piece ino piece = item_under ino EXTENT_DATA piece.position (extent_data_text (extent_data_of piece))

-- a file's INODE_ITEM, and an EXTENT_DATA for each piece
abbrev pub items_of_file : ℕ × File → List Item
items_of_file file = item_of_inode file.0 file.1 ∷ map (item_of_piece file.0) file.1.pieces
