-- Which ranges a command may edit (this project's own). Positions and lengths are in bytes.
use Rattle.std.specs.Prelude.{ℕ, ◌+◌, ◌^◌, ◌<◌, ◌≤◌, List, length, IsTrue}
use Rattle.qg_num.specs.declared.piece.Piece.{Piece}
use Rattle.qg_image.specs.FilesOf.{inodes_end, is_aligned, largest_size, least_inode}
use Rattle.qg_image.specs.Verdict.{longest_extent}
use Rattle.qg_files.specs.Apart.{AreApart}

-- a range of whole sectors, one at least, that ends by the largest size
pub record IsRange (off len : ℕ) : Type 0 where
  pub off_aligned : IsTrue (is_aligned off)
  pub len_aligned : IsTrue (is_aligned len)
  pub some : 0 < len
  pub near : off + len ≤ largest_size

-- a range that may be written
pub record IsWritable (off len : ℕ) : Type 0 where
  pub range : IsRange off len
  pub short : len ≤ longest_extent

-- ranges of one length: the first may be read of a file, and pieces may be put in the other
pub record IsClonable (off len to_off : ℕ) : Type 0 where
  pub source : IsRange off len
  pub target : IsRange to_off len

-- pieces that can be cloned out of such a range: they lie apart, and there are fewer than 2^63 of them; and the number
-- of the target is one that a file may have
pub record CanClonePieces (pieces : List Piece) (off len to_ino to_off : ℕ) : Type 0 where
  pub apart : AreApart pieces
  pub few : length pieces < 2 ^ 63
  pub number : (least_inode ≤ to_ino) × (to_ino < inodes_end)
  pub range : IsClonable off len to_off
