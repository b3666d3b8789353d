-- What a range of bytes takes out of a file's pieces (this project's own). Positions are in bytes.
use Rattle.std.specs.Prelude.{◌≡◌, ℕ, ◌<◌, ◌≤◌, List, All, ◌++◌, length}
use Rattle.qg_num.specs.declared.piece.Piece.{Piece}
use Rattle.qg_image.specs.FilesOf.{piece_end}
use Rattle.qg_machine.specs.FileChange.{with_range}

-- pieces are parted by a range: those at the front and at the back stay as they are, those between go, and some parts
-- of them rest in front of the range and behind it, whatever is put in the range
pub record IsSplit (from to : ℕ) (pieces gone rests : List Piece) : Type 0 where
  pub front : List Piece
  pub back : List Piece
  pub before_rest : List Piece
  pub after_rest : List Piece
  pub old : pieces ≡ front ++ gone ++ back
  pub rest : rests ≡ before_rest ++ after_rest
  pub few : length rests ≤ 2
  pub met : All (λ piece. (piece.position < to) × (from < piece_end piece)) gone
  pub new : (given : List Piece) → with_range from to given pieces ≡ (front ++ before_rest) ++ given
      ++ (after_rest ++ back)
