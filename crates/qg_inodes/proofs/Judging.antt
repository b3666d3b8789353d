-- Pieces that may be edited, one after the other. Positions and lengths are in bytes.
use Rattle.std.proofs.Common.{◌≡◌, ℕ, ◌+◌, ◌^◌, ◌<◌, ◌≤◌, true, List, [], ◌∷◌, subst, sym, arith}
use Rattle.qg_num.specs.declared.piece.Piece.{Piece}
use Rattle.qg_image.specs.FilesOf.{are_pieces, largest_size, piece_end}
use Rattle.qg_image.proofs.Pieces.{FirstPiece-are_pieces, WholePiece-is_piece}
use Rattle.qg_files.specs.Apart.{AreApartFrom, IsWithinSizes}
use Rattle.qg_inodes.proofs.PiecesByPosition.{range-order}

pub apart-none : (end : ℕ) (pieces : List Piece) → pieces ≡ [] → AreApartFrom end pieces
unfolding AreApartFrom
apart-none end pieces none = subst (AreApartFrom end) (sym none) tt

pub apart-first : (end : ℕ) (piece : Piece) (pieces rest : List Piece) → pieces ≡ piece ∷ rest → end ≤ piece.position
    → IsWithinSizes piece → AreApartFrom (piece_end piece) rest
    → AreApartFrom end pieces
unfolding AreApartFrom
apart-first end piece pieces rest is begins within behind =
    subst (AreApartFrom end) (sym is) (begins, within, behind)

module _ (end size : ℕ) (piece : Piece) (pieces rest : List Piece) (is : pieces ≡ piece ∷ rest)
    (are : are_pieces end size pieces ≡ true) where
  are_first : are_pieces end size (piece ∷ rest) ≡ true
  are_first = subst (λ (ps : List Piece). are_pieces end size ps ≡ true) is are

  pub pieces-behind : are_pieces (piece_end piece) size rest ≡ true
  pieces-behind = (FirstPiece-are_pieces end size piece rest are_first).rest

  pub piece-begins : end ≤ piece.position
  piece-begins = (FirstPiece-are_pieces end size piece rest are_first).begins

  pub piece-within : size ≤ largest_size → piece.extent_bytes < 2 ^ 64 → IsWithinSizes piece
  piece-within small fits =
      let whole = WholePiece-is_piece piece (FirstPiece-are_pieces end size piece rest are_first).is in
      let order = range-order (piece_end piece) size rest pieces-behind in
      let some = whole.some in
      let inside = whole.in_extent in
      record {
        some = some;
        within = omega arith;
        in_extent = omega arith;
      }
