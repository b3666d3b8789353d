-- The pieces of a file.
use Rattle.std.proofs.Common.{◌≡◌, ℕ, ◌+◌, ◌≤◌, ◌^◌, true, List, [], ◌∷◌}
use Rattle.std.proofs.Common.{arith}
use Rattle.std.proofs.lemmas.Bool.{leb-true}
use Rattle.std.proofs.lemmas.List.Sums.{sum_by-cons}
use Rattle.qg_num.specs.declared.piece.Piece.{Piece}
use Rattle.qg_image.specs.declared.file.File.{File}
use Rattle.qg_image.specs.FilesOf.{are_pieces, is_file, piece_end, pieces_bytes}
use Rattle.qg_image.proofs.Pieces.{FirstPiece-are_pieces, WholeFile-is_file}

-- the pieces lie between where they begin and the size
within : (from size : ℕ) (pieces : List Piece) → are_pieces from size pieces ≡ true → from + pieces_bytes pieces ≤ size
unfolding are_pieces
within from size [] h = omega (arith, leb-true from size h)
within from size (piece ∷ pieces) h =
    let first = FirstPiece-are_pieces from size piece pieces h in
    omega (
      arith,
      first.begins,
      within (piece_end piece) size pieces first.rest,
      sum_by-cons
          (λ (piece : Piece). piece.len) piece pieces,
    )

-- so those of a file are few bytes
pub file_small : (file : File) → is_file file ≡ true → pieces_bytes file.pieces ≤ 2 ^ 40
file_small file h =
    let whole = WholeFile-is_file file h in
    omega (arith, whole.least, within 0 file.size file.pieces whole.pieces)
