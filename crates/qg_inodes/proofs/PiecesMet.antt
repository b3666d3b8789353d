-- Which pieces meet a range, and how many.
--
-- Positions, lengths and sizes are in bytes.
use Rattle.std.proofs.Common.{◌≡◌, ℕ, ◌+◌, ◌≤◌, true, List, [], ◌∷◌, length, arith, refl, ap, ◌∙◌}
use Rattle.std.specs.Prelude.{Bool, ◌&&◌, nat_lt, if◌then◌else◌}
use Rattle.std.proofs.lemmas.Bool.{lt-ltb}
use Rattle.std.proofs.lemmas.List.Sums.{length-filter}
use Rattle.qg_num.specs.declared.piece.Piece.{Piece}
use Rattle.qg_image.specs.declared.file.File.{File}
use Rattle.qg_image.specs.FilesOf.{are_pieces, largest_size, piece_end}
use Rattle.qg_image.proofs.Pieces.{FirstPiece-are_pieces, WholeFile-is_file, WholePiece-is_piece}
use Rattle.qg_machine.specs.FileChange.{pieces_meeting, pieces_past}
use Rattle.qg_tree_items.specs.Writable.{IsWritableFile}
use Rattle.qg_inodes.specs.PiecesWritten.{pieces_cut, pieces_met}
use Rattle.qg_inodes.proofs.PiecesByPosition.{range-order}

-- as many meet a range as are counted there
pub met-counted : (from to : ℕ) (pieces : List Piece)
    → length (pieces_met from to pieces) ≡ pieces_meeting from to pieces
met-counted from to pieces =
    length-filter (λ (piece : Piece). nat_lt piece.position to && nat_lt from (piece_end piece)) pieces

-- ---- pieces of a file end by the largest size

-- a piece of it begins in front of that
low_piece : (from whole : ℕ) (piece : Piece) (pieces : List Piece) → whole ≤ largest_size
    → are_pieces from whole (piece ∷ pieces) ≡ true → nat_lt piece.position largest_size ≡ true
low_piece from whole piece pieces most are =
    let first = FirstPiece-are_pieces from whole piece pieces are in
    let some = (WholePiece-is_piece piece first.is).some in
    let ends : piece.position + piece.len ≤ whole = range-order (piece_end piece) whole pieces first.rest in
    lt-ltb piece.position largest_size (omega (arith, some, ends, most))

some_piece : (from whole : ℕ) (piece : Piece) (pieces : List Piece) → are_pieces from whole (piece ∷ pieces) ≡ true
    → nat_lt 0 (piece_end piece) ≡ true
some_piece from whole piece pieces are =
    let first = FirstPiece-are_pieces from whole piece pieces are in
    let some = (WholePiece-is_piece piece first.is).some in
    lt-ltb 0 (piece_end piece) (omega (arith, some))

met_cut : (size from whole : ℕ) (pieces : List Piece) → whole ≤ largest_size → are_pieces from whole pieces ≡ true
    → pieces_met size largest_size pieces ≡ pieces_cut size pieces
met_cut size from whole [] most are = refl
met_cut size from whole (piece ∷ pieces) most are =
    let first = FirstPiece-are_pieces from whole piece pieces are in
    let past = nat_lt size (piece_end piece) in
    let met = pieces_met size largest_size pieces in
    ap (λ (b : Bool). if b && past then piece ∷ met else met) (low_piece from whole piece pieces most are)
    ∙ ap (λ (rest : List Piece). if past then piece ∷ rest else rest)
    (met_cut size (piece_end piece) whole pieces most first.rest)

cut_all : (from whole : ℕ) (pieces : List Piece) → are_pieces from whole pieces ≡ true → pieces_cut 0 pieces ≡ pieces
cut_all from whole [] are = refl
cut_all from whole (piece ∷ pieces) are =
    let first = FirstPiece-are_pieces from whole piece pieces are in
    let cut = pieces_cut 0 pieces in
    ap (λ (b : Bool). if b then piece ∷ cut else cut) (some_piece from whole piece pieces are)
    ∙ ap (λ (rest : List Piece). piece ∷ rest) (cut_all (piece_end piece) whole pieces first.rest)

-- those that meet the range from a size on end past the size
pub met-past : (ino size : ℕ) (file : File) → IsWritableFile (ino, file)
    → pieces_met size largest_size file.pieces ≡ pieces_cut size file.pieces
met-past ino size file is =
    let whole = WholeFile-is_file file is.sound in met_cut size 0 file.size file.pieces whole.least whole.pieces

-- as many as are counted
pub past-counted : (ino size : ℕ) (file : File) → IsWritableFile (ino, file)
    → length (pieces_met size largest_size file.pieces) ≡ pieces_past size file.pieces
past-counted ino size file is =
    ap (λ (pieces : List Piece). length pieces) (met-past ino size file is)
    ∙ length-filter (λ (piece : Piece). nat_lt size (piece_end piece)) file.pieces

-- all of them meet the range of all
pub met-all : (ino : ℕ) (file : File) → IsWritableFile (ino, file) → pieces_met 0 largest_size file.pieces ≡ file.pieces
met-all ino file is =
    let whole = WholeFile-is_file file is.sound in
    met-past ino 0 file is ∙ cut_all 0 file.size file.pieces whole.pieces
