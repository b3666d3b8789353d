-- What each file command exchanges (this project's own). Positions, lengths and sizes are in bytes.
use Rattle.std.specs.Prelude.{◌≡◌, ℕ, ◌+◌, ◌^◌, ◌<◌, ◌≤◌, max, List, [], ◌∷◌, map, Option, Some, None}
use Rattle.qg_num.specs.declared.piece.Piece.{Piece}
use Rattle.qg_items.specs.declared.file.InodeItem.{InodeItem}
use Rattle.qg_image.specs.declared.file.File.{File}
use Rattle.qg_image.specs.FilesOf.{pieces_bytes}
use Rattle.qg_image.specs.Table.{value_at, with_value}
use Rattle.qg_machine.specs.FileChange.{before, file_or_new, moved, new_piece}
use Rattle.qg_machine.specs.FileChange.{with_pieces, with_range, with_size, within}
use Rattle.qg_files.specs.Apart.{AreApart}
use Rattle.qg_file_edits.specs.declared.exchange.Exchange.{Exchange}
use Rattle.qg_file_edits.specs.declared.found.Found.{Found}
use Rattle.qg_file_edits.specs.declared.inode.InodeEdit.{InodeEdit}
use Rattle.qg_file_edits.specs.declared.inode.InodeEdit.TheVariants.{Insert, Replace, Remove}

-- ---- the files that each command leaves, as the machine says it

-- a file gets these pieces in the place of a range; it is made where it is not there
abbrev pub files_with : ℕ → ℕ → ℕ → ℕ → List Piece → List (ℕ × File) → List (ℕ × File)
files_with generation ino from to given files =
    with_value ino (with_pieces generation from to given (file_or_new generation (value_at ino files))) files

-- a write puts one new piece into its range
abbrev pub files_written : ℕ → ℕ → ℕ → ℕ → ℕ → List (ℕ × File) → List (ℕ × File)
files_written generation ino off len extent files =
    files_with generation ino off (off + len) (new_piece generation off len extent ∷ []) files

-- a range of these pieces comes into the place of a range of a file
abbrev pub files_cloned_from : ℕ → List Piece → ℕ → ℕ → ℕ → ℕ → List (ℕ × File) → List (ℕ × File)
files_cloned_from generation pieces from len ino off files =
    files_with generation ino off (off + len) (map (moved from off) (within from (from + len) pieces)) files

-- a file gets another size
abbrev pub files_cut : ℕ → ℕ → ℕ → File → List (ℕ × File) → List (ℕ × File)
files_cut generation ino size file files = with_value ino (with_size generation size file) files

-- ---- INODE_ITEMs

-- the bytes of a file's pieces, as its INODE_ITEM tells them; none of a file that is not there
abbrev pub nbytes_of : Option InodeItem → ℕ
nbytes_of None = 0
nbytes_of (Some inode) = inode.nbytes

-- of a file that gets pieces up to a position, or is made, whose pieces have so many bytes then
abbrev pub inode_put : ℕ → ℕ → Option InodeItem → ℕ → InodeEdit
inode_put generation to None sum =
    Insert (record { generation = generation; transid = generation; size = to; nbytes = sum })
inode_put generation to (Some inode) sum =
    Replace (record { generation = inode.generation; transid = generation; size = max inode.size to; nbytes = sum })

-- of one that is cut
abbrev pub inode_cut : ℕ → ℕ → InodeItem → ℕ → InodeEdit
inode_cut generation size inode sum =
    Replace (record { generation = inode.generation; transid = generation; size = size; nbytes = sum })

-- ---- exchanges

-- a range of a file gets other pieces
pub record IsRangeChange (generation from to : ℕ) (given known : List Piece) (first : Option Piece) (found : Found)
    (change : Exchange) : Type 0 where
  pub gone : change.gone ≡ found.met
  pub put : change.put ≡ with_range from to given found.met
  pub named : change.named ≡ known
  pub new : change.new ≡ first
  pub apart : AreApart change.put
  pub inode : (sum : ℕ) → sum < 2 ^ 64 → pieces_bytes found.met ≤ nbytes_of found.inode
      → sum + pieces_bytes found.met ≡ nbytes_of found.inode + pieces_bytes (with_range from to given found.met)
      → change.inode ≡ inode_put generation to found.inode sum

-- a file is cut to a size, of which these pieces end past it
pub record IsCut (generation size : ℕ) (told : InodeItem) (met : List Piece) (change : Exchange) : Type 0 where
  pub gone : change.gone ≡ met
  pub put : change.put ≡ before size met
  pub named : change.named ≡ before size met
  pub new : change.new ≡ None
  pub apart : AreApart change.put
  pub inode : (sum : ℕ) → sum < 2 ^ 64 → pieces_bytes met ≤ told.nbytes
      → sum + pieces_bytes met ≡ told.nbytes + pieces_bytes (before size met)
      → change.inode ≡ inode_cut generation size told sum

-- a file goes, which has these pieces
pub record IsUnlinked (met : List Piece) (change : Exchange) : Type 0 where
  pub gone : change.gone ≡ met
  pub put : change.put ≡ []
  pub named : change.named ≡ []
  pub new : change.new ≡ None
  pub inode : change.inode ≡ Remove
