-- Where a range of a file falls among its pieces (this project's own). Positions are in bytes.
use Rattle.std.specs.Prelude.{ℕ, ◌<◌, ◌≤◌, List, All, length, take, drop}
use Rattle.qg_num.specs.declared.piece.Piece.{Piece}
use Rattle.qg_image.specs.FilesOf.{piece_end}

-- the pieces before an index end by the position, and those from there on end past it
pub record IsFirstPast (position : ℕ) (pieces : List Piece) (index : ℕ) : Type 0 where
  pub bound : index ≤ length pieces
  pub front : All (λ piece. piece_end piece ≤ position) (take index pieces)
  pub back : All (λ piece. position < piece_end piece) (drop index pieces)

-- the pieces before an index begin before the position, and those from there on begin at it or past it
pub record IsFirstFrom (position : ℕ) (pieces : List Piece) (index : ℕ) : Type 0 where
  pub bound : index ≤ length pieces
  pub front : All (λ piece. piece.position < position) (take index pieces)
  pub back : All (λ piece. position ≤ piece.position) (drop index pieces)

-- the pieces from one index up to another are those that a range of bytes meets
pub record AreMeeting (from to : ℕ) (pieces : List Piece) (first end : ℕ) : Type 0 where
  pub order : first ≤ end
  pub begin : IsFirstPast from pieces first
  pub finish : IsFirstFrom to pieces end
