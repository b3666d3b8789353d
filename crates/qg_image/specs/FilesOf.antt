-- The files that the items of a subvolume's tree stand for (on-disk format, INODE_ITEM and EXTENT_DATA).
--
-- Positions, lengths and sizes are in bytes.
use Rattle.std.specs.Prelude.{◌≡◌, ℕ, ◌+◌, ◌%◌, ◌^◌, Bool, true, ◌&&◌, List, [], ◌∷◌, map, Option, Some, None, ◌==◌}
use Rattle.std.specs.Prelude.{nat_le, nat_lt, unwrap_or}
use Rattle.std.specs.Bool.{then_some}
use Rattle.std.specs.List.{filter_map, list_all, sum_by}
use Rattle.qg_num.specs.declared.piece.Piece.{Piece}
use Rattle.qg_node.specs.declared.item.Item.{Item}
use Rattle.qg_items.specs.declared.file.InodeItem.{InodeItem}
use Rattle.qg_super.specs.Places.{sector}
use Rattle.qg_image.specs.declared.file.File.{File}
use Rattle.qg_image.specs.Table.{has_key}
use Rattle.qg_image.specs.declared.part.FilePart.{FilePart}
use Rattle.qg_image.specs.declared.part.FilePart.TheVariants.{Inode, PieceOf}
use Rattle.qg_image.specs.ItemMeaning.{some_passes, file_part, file_part_stamps}

-- the largest size of a file
abbrev pub largest_size : ℕ
largest_size = 2 ^ 40

-- the least number of a file
abbrev pub least_inode : ℕ
least_inode = 257

-- the first number past those of files
abbrev pub inodes_end : ℕ
inodes_end = 2 ^ 48

-- where a piece ends in its file
abbrev pub piece_end : Piece → ℕ
piece_end piece = piece.position + piece.len

-- a number of whole sectors
abbrev pub is_aligned : ℕ → Bool
is_aligned bytes = bytes % sector == 0

-- a piece of whole sectors that lies in its extent
unfoldable pub is_piece : Piece → Bool
is_piece piece =
    is_aligned piece.position && is_aligned piece.len && nat_lt 0 piece.len && is_aligned piece.offset
    && is_aligned piece.extent_bytes
    && nat_le (piece.offset + piece.len) piece.extent_bytes

-- pieces that ascend from a position on, overlap nowhere and end by the size
unfoldable pub are_pieces : ℕ → ℕ → List Piece → Bool
are_pieces from size [] = nat_le from size
are_pieces from size (piece ∷ pieces) = nat_le from piece.position && is_piece piece
    && are_pieces (piece_end piece) size pieces

-- a file of whole sectors, no larger than the largest, with such pieces
unfoldable pub is_file : File → Bool
is_file file = is_aligned file.size && nat_le file.size largest_size && are_pieces 0 file.size file.pieces

-- the bytes of a file's pieces
abbrev pub pieces_bytes : List Piece → ℕ
pieces_bytes pieces = sum_by (λ piece. piece.len) pieces

-- ---- from items

-- what the items stand for, one by one; those that stand for nothing are left out
abbrev pub file_parts : List Item → List FilePart
file_parts items = filter_map file_part items

-- the item is one that a subvolume's tree may hold, and tells no generation past this one
unfoldable pub is_file_item : ℕ → Item → Bool
is_file_item generation item = some_passes (λ part. list_all (λ stamp. nat_le stamp generation) (file_part_stamps part))
    (file_part item)

-- the piece that a part tells of a file
abbrev pub piece_in : ℕ → FilePart → Option Piece
piece_in ino (Inode other inode) = None
piece_in ino (PieceOf other piece) = then_some (other == ino) piece

-- the file that a part tells
abbrev pub inode_in : FilePart → Option (ℕ × InodeItem)
inode_in (Inode ino inode) = Some (ino, inode)
inode_in (PieceOf ino piece) = None

-- the pieces of a file, in the order of the items
abbrev pub pieces_in : ℕ → List FilePart → List Piece
pieces_in ino parts = filter_map (piece_in ino) parts

-- each file's number, with its INODE_ITEM
abbrev pub inodes_in : List FilePart → List (ℕ × InodeItem)
inodes_in parts = filter_map inode_in parts

-- the file that its INODE_ITEM and its pieces stand for
abbrev pub file_in : List FilePart → ℕ × InodeItem → File
file_in parts entry = record {
  size = entry.1.size;
  generation = entry.1.generation;
  transid = entry.1.transid;
  pieces = pieces_in entry.0 parts;
}

-- the files, ascending by number
abbrev pub files_in : List FilePart → List (ℕ × File)
files_in parts = map (λ entry. (entry.0, file_in parts entry)) (inodes_in parts)

-- a piece has its file
abbrev pub is_owned : List FilePart → FilePart → Bool
is_owned parts (Inode ino inode) = true
is_owned parts (PieceOf ino piece) = has_key ino (inodes_in parts)

-- the number is one of a file, the file is sound, and nbytes is the sum of its pieces
abbrev pub is_inode : List FilePart → ℕ × InodeItem → Bool
is_inode parts entry =
    nat_le least_inode entry.0 && nat_lt entry.0 inodes_end && is_file (file_in parts entry)
    && (entry.1.nbytes == pieces_bytes (pieces_in entry.0 parts))

-- the items of files fit each other
unfoldable pub are_files : List FilePart → Bool
are_files parts = list_all (is_owned parts) parts && list_all (is_inode parts) (inodes_in parts)

-- the files of items that tell no generation past this one; undefined where an item is none of a subvolume's tree, or
-- where the items do not fit each other
unfoldable pub files_of : ℕ → List Item → Option (List (ℕ × File))
files_of generation items =
    then_some (list_all (is_file_item generation) items && are_files (file_parts items)) (files_in (file_parts items))

-- what the items of a subvolume's tree stand for: they tell these files, and no generation past this one
abbrev pub AreItemsOfFiles : ℕ → List Item → List (ℕ × File) → Type 0
AreItemsOfFiles generation items files = files_of generation items ≡ Some files

-- the files that items stand for; none where they stand for none
abbrev pub files_told : ℕ → List Item → List (ℕ × File)
files_told generation items = unwrap_or (files_of generation items) []
