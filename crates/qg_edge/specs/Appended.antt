-- What is appended where a piece was not put to its end (this project's own).
use Rattle.std.specs.Prelude.{◌≡◌, ℕ, List, take, Option}
use Rattle.std.specs.Io.KnownBytes.{Appends, append_known}

-- a sink appended the first `count` bytes of the piece, and tells its bytes exactly where it did before
pub record AppendsFront (old new : Option (List ℕ)) (piece : List ℕ) : Type 0 where
  pub count : ℕ
  pub appended : new ≡ append_known old (take count piece)

-- a writer took the first `count` bytes of the piece, if its bytes were known
pub record WritesFront (old new : Option (List ℕ)) (piece : List ℕ) : Type 0 where
  pub count : ℕ
  pub written : Appends old new (take count piece)
