-- What one item of a subvolume's tree tells (on-disk format, INODE_ITEM and EXTENT_DATA).
use Rattle.std.specs.Prelude.{ℕ, Bool, ◌&&◌, ◌==◌, List, Option, is_none}
use Rattle.std.specs.List.{list_any}
use Rattle.std.specs.Option.{option_and_then}
use Rattle.qg_num.specs.declared.piece.Piece.{Piece}
use Rattle.qg_node.specs.declared.item.Item.{Item}
use Rattle.qg_items.specs.ItemReading.{extent_data_read}
use Rattle.qg_image.specs.ItemMeaning.{file_part, piece_told}

-- the piece that an EXTENT_DATA tells, if its body is one
abbrev pub piece_of : Item → Option Piece
piece_of item = option_and_then (piece_told item.key.offset) (extent_data_read item.body)

-- an item of a file that says nothing
abbrev pub is_unread : ℕ → Item → Bool
is_unread ino item = (item.key.objectid == ino) && is_none (file_part item)

-- there is one
abbrev pub has_unread : ℕ → List Item → Bool
has_unread ino items = list_any (is_unread ino) items
