-- How many pieces of a file are read. Positions and sizes are in bytes.
use Rattle.std.proofs.Common.{◌≡◌, ℕ, ◌+◌, List, length, Option, Some, ap, ◌∙◌, arith}
use Rattle.std.specs.Prelude.{◌&&◌, nat_lt}
use Rattle.std.proofs.lemmas.List.Sums.{length-filter}
use Rattle.qg_num.specs.declared.piece.Piece.{Piece}
use Rattle.qg_image.specs.declared.file.File.{File}
use Rattle.qg_image.specs.FilesOf.{largest_size, piece_end}
use Rattle.qg_image.specs.Table.{value_at}
use Rattle.qg_machine.specs.FileChange.{pieces_meeting, pieces_or_none, pieces_past}
use Rattle.qg_tree_items.specs.Writable.{AreWritableFiles, IsWritableFile}
use Rattle.qg_inodes.specs.PiecesWritten.{pieces_met}
use Rattle.qg_open_image.specs.Files.{pieces_of}
use Rattle.qg_inodes.proofs.PiecesMet.{met-all, met-past}
use Rattle.qg_open_image.proofs.Files.{file-found}

pub met-many : (from to : ℕ) (pieces : List Piece) → length (pieces_met from to pieces) ≡ pieces_meeting from to pieces
met-many from to pieces = length-filter (λ (piece : Piece). nat_lt piece.position to && nat_lt from (piece_end piece))
    pieces

module _ (ino : ℕ) (file : File) (files : List (ℕ × File)) (there : value_at ino files ≡ Some file)
    (are : AreWritableFiles files) where
  is : IsWritableFile (ino, file)
  is = file-found IsWritableFile ino file files there are.each

  pub past-many : (size : ℕ) → length (pieces_met size largest_size file.pieces) ≡ pieces_past size file.pieces
  past-many size =
      ap (λ (pieces : List Piece). length pieces) (met-past ino size file is)
      ∙ length-filter (λ (piece : Piece). nat_lt size (piece_end piece)) file.pieces

  pub all-met : pieces_met 0 largest_size file.pieces ≡ file.pieces
  all-met = met-all ino file is

-- the pieces that two ranges meet, one of each file
pub met-both : (from to low high : ℕ) (source target read met : List Piece) (first second : ℕ)
    → read ≡ pieces_met from to source → met ≡ pieces_met low high target → first ≡ length read → second ≡ length met
    → first + second ≡ pieces_meeting low high target + pieces_meeting from to source
met-both from to low high source target read met first second of_source of_target one other =
    let a : first ≡ pieces_meeting from to source =
    one ∙ ap (λ (pieces : List Piece). length pieces) of_source ∙ met-many from to source in
    let b : second ≡ pieces_meeting low high target =
    other ∙ ap (λ (pieces : List Piece). length pieces) of_target ∙ met-many low high target in
    omega (arith, a, b)

-- all pieces of a file that is there were read
module _ (ino : ℕ) (file : File) (files : List (ℕ × File)) (there : value_at ino files ≡ Some file) where
  pub own-met : (met : List Piece) → met ≡ pieces_met 0 largest_size (pieces_of ino files)
      → met ≡ pieces_met 0 largest_size file.pieces
  own-met met is = is ∙ ap (λ (o : Option File). pieces_met 0 largest_size (pieces_or_none o)) there

  pub many-met : AreWritableFiles files → (met : List Piece) → met ≡ pieces_met 0 largest_size (pieces_of ino files)
      → length met ≡ length file.pieces
  many-met are met is =
      ap (λ (pieces : List Piece). length pieces) (own-met met is ∙ all-met ino file files there are)

  pub own-past : (size : ℕ) (met : List Piece) → met ≡ pieces_met size largest_size (pieces_of ino files)
      → AreWritableFiles files → length met ≡ pieces_past size file.pieces
  own-past size met is are =
      ap (λ (pieces : List Piece). length pieces)
      (is ∙ ap (λ (o : Option File). pieces_met size largest_size (pieces_or_none o)) there)
      ∙ past-many ino file files there are size
