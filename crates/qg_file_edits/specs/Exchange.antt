-- Pieces of a file that are exchanged for others (this project's own).
use Rattle.std.specs.Prelude.{◌≡◌, List, ◌++◌}
use Rattle.qg_num.specs.declared.piece.Piece.{Piece}

-- A stretch of a file's pieces goes, and others come in its place. What is in front of it and behind it stays
pub record IsExchange (old new gone put : List Piece) : Type 0 where
  pub front : List Piece
  pub back : List Piece
  pub was : old ≡ front ++ gone ++ back
  pub is : new ≡ front ++ put ++ back
