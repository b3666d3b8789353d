-- What stands under each key of the items of a subvolume's files (on-disk format, INODE_ITEM and EXTENT_DATA).
--
-- Positions are in bytes.
use Rattle.std.specs.Prelude.{ℕ, ◌&&◌, ◌==◌, List, [], ◌∷◌, map, Option, Some, None, IsTrue, nat_le, nat_lt}
use Rattle.std.specs.Prelude.{if◌then◌else◌}
use Rattle.std.specs.Option.{option_map, option_and_then}
use Rattle.qg_num.specs.declared.key.Key.{Key}
use Rattle.qg_num.specs.declared.piece.Piece.{Piece}
use Rattle.qg_node.specs.declared.item.Item.{Item}
use Rattle.qg_node.specs.Nodes.{is_ascending}
use Rattle.qg_items.specs.declared.kind.TheConstants.{INODE_ITEM, EXTENT_DATA}
use Rattle.qg_items.specs.ItemText.{inode_text, extent_data_text}
use Rattle.qg_image.specs.declared.file.File.{File}
use Rattle.qg_image.specs.FilesOf.{piece_end}
use Rattle.qg_image.specs.Table.{value_at}
use Rattle.qg_root_items.specs.Written.{inode_of, extent_data_of}
use Rattle.qg_tree_read.specs.Reading.{body_at}

-- the keys of items ascend
abbrev pub Ascend : List Item → Type 0
Ascend items = IsTrue (is_ascending (map (λ item. item.key) items))

-- ---- pieces

-- the piece that begins at a position
abbrev pub piece_at : ℕ → List Piece → Option Piece
piece_at position [] = None
piece_at position (piece ∷ pieces) = if piece.position == position then Some piece else piece_at position pieces

-- the piece that holds the byte at a position
abbrev pub piece_over : ℕ → List Piece → Option Piece
piece_over position [] = None
piece_over position (piece ∷ pieces) =
    if nat_le piece.position position && nat_lt position (piece_end piece) then Some piece
    else piece_over position pieces

-- ---- bodies

-- the body of a file's INODE_ITEM
abbrev pub inode_body : File → List ℕ
inode_body file = inode_text (inode_of file)

-- the body of a piece's EXTENT_DATA
abbrev pub piece_body : Piece → List ℕ
piece_body piece = extent_data_text (extent_data_of piece)

-- what a file has under keys of its number: its INODE_ITEM at 0, the EXTENT_DATA of a piece at the piece's position,
-- and nothing else
abbrev pub body_in_file : ℕ → ℕ → File → Option (List ℕ)
body_in_file kind offset file =
    if (kind == INODE_ITEM) && (offset == 0) then Some (inode_body file)
    else (if kind == EXTENT_DATA then option_map piece_body (piece_at offset file.pieces) else None)

-- what files have under a key
abbrev pub body_in_files : Key → List (ℕ × File) → Option (List ℕ)
body_in_files key files = option_and_then (body_in_file key.kind key.offset) (value_at key.objectid files)

-- ---- one file changed

-- what is under a key once a file is this one, and other files' items stay
abbrev pub body_with_file : ℕ → File → List Item → Key → Option (List ℕ)
body_with_file ino file items key =
    if ino == key.objectid then body_in_file key.kind key.offset file else body_at key items

-- and once there is no such file
abbrev pub body_without_file : ℕ → List Item → Key → Option (List ℕ)
body_without_file ino items key = if ino == key.objectid then None else body_at key items
