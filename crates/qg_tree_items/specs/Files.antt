-- How the items of a subvolume stand, file by file (this project's own).
use Rattle.std.specs.Prelude.{ℕ, Bool, ◌&&◌, List, ◌∷◌, Option, ◌==◌, nat_le, nat_lt}
use Rattle.std.specs.Bool.{then_some}
use Rattle.qg_num.specs.declared.piece.Piece.{Piece}
use Rattle.qg_items.specs.declared.file.InodeItem.{InodeItem}
use Rattle.qg_image.specs.declared.file.File.{File}
use Rattle.qg_image.specs.declared.part.FilePart.{FilePart}
use Rattle.qg_image.specs.declared.part.FilePart.TheVariants.{Inode}
use Rattle.qg_image.specs.FilesOf.{least_inode, inodes_end, is_file, is_piece, piece_end, pieces_bytes, file_in}
use Rattle.qg_image.specs.FilesOf.{is_inode}

-- an INODE_ITEM of a file, and the pieces behind it
pub record FileItems : Type 0 where
  pub ino : ℕ
  pub inode : InodeItem
  pub pieces : List Piece

-- the piece is sound, begins no earlier than at a position and ends by the size: one step of `are_pieces`
abbrev pub is_between : ℕ → ℕ → Piece → Bool
is_between from size piece = nat_le from piece.position && is_piece piece && nat_le (piece_end piece) size

-- the number is one of a file, the file is sound, and nbytes is the sum of its pieces: what `is_inode` asks of the file
-- that items tell
abbrev pub is_file_of : ℕ → InodeItem → File → Bool
is_file_of ino inode file = nat_le least_inode ino && nat_lt ino inodes_end && is_file file
    && (inode.nbytes == pieces_bytes file.pieces)

-- the file of an INODE_ITEM and of the pieces behind it; none where they do not fit each other
abbrev pub file_told : ℕ → InodeItem → List FilePart → Option File
file_told ino inode behind =
    let parts = Inode ino inode ∷ behind in
    then_some (is_inode parts (ino, inode)) (file_in parts (ino, inode))
