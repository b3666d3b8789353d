-- Files that can be written as items, so that they are read again (this project's own).
use Rattle.std.specs.Prelude.{ℕ, ◌^◌, ◌≤◌, ◌<◌, List, All, IsTrue}
use Rattle.std.specs.List.Sorted.{IsStrictlyIncreasing}
use Rattle.qg_num.specs.declared.piece.Piece.{Piece}
use Rattle.qg_image.specs.declared.file.File.{File}
use Rattle.qg_image.specs.FilesOf.{least_inode, inodes_end, is_file}
use Rattle.qg_image.specs.Table.{keys_of}

-- a piece's extent has an address and a length, in bytes, that fit their fields
pub record IsPlaced (piece : Piece) : Type 0 where
  pub address : piece.extent < 2 ^ 64
  pub bytes : piece.extent_bytes < 2 ^ 64

-- a file has a number of a file, is sound, and names extents that fit
pub record IsWritableFile (file : ℕ × File) : Type 0 where
  pub least : least_inode ≤ file.0
  pub below : file.0 < inodes_end
  pub sound : IsTrue (is_file file.1)
  pub placed : All IsPlaced file.1.pieces

-- files ascend by number, and each can be written
pub record AreWritableFiles (files : List (ℕ × File)) : Type 0 where
  pub ascending : IsStrictlyIncreasing (keys_of files)
  pub each : All IsWritableFile files

-- a file tells no generation past this one
pub record IsFileBy (generation : ℕ) (file : ℕ × File) : Type 0 where
  pub made : file.1.generation ≤ generation
  pub changed : file.1.transid ≤ generation
  pub stamped : All (λ piece. piece.stamp ≤ generation) file.1.pieces
