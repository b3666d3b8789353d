-- Which lists of pieces are edited (this project's own). Positions and lengths are in bytes.
use Rattle.std.specs.Prelude.{ℕ, ◌+◌, ◌^◌, ◌<◌, ◌≤◌, List, [], ◌∷◌}
use Rattle.qg_num.specs.declared.piece.Piece.{Piece}
use Rattle.qg_image.specs.FilesOf.{piece_end, largest_size}

-- a piece of at least one byte that ends by the largest size of a file, and whose end in its extent is a u64
pub record IsWithinSizes (piece : Piece) : Type 0 where
  pub some : 0 < piece.len
  pub within : piece_end piece ≤ largest_size
  pub in_extent : piece.offset + piece.len < 2 ^ 64

-- such pieces that ascend from a position on and overlap nowhere
unfoldable pub AreApartFrom : ℕ → List Piece → Type 0
AreApartFrom from [] = Unit {0}
AreApartFrom from (piece ∷ pieces) = (from ≤ piece.position) × IsWithinSizes piece
    × AreApartFrom (piece_end piece) pieces

-- the same from the file's start on
abbrev pub AreApart : List Piece → Type 0
AreApart pieces = AreApartFrom 0 pieces
