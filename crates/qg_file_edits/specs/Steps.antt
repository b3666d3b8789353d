-- The edits by which pieces of a file are exchanged for others (this project's own). Positions are in bytes.
use Rattle.std.specs.Prelude.{◌≡◌, ℕ, ◌==◌, nat_lt, List, [], ◌∷◌, map, Option, Some, None, if◌then◌else◌}
use Rattle.std.specs.List.Sorted.{IsStrictlyIncreasing}
use Rattle.qg_num.specs.declared.piece.Piece.{Piece}
use Rattle.qg_inodes.specs.Bodies.{piece_at}
use Rattle.qg_file_edits.specs.declared.step.Step.{Step}
use Rattle.qg_file_edits.specs.declared.step.Step.TheVariants.{Remove, Insert, Replace}

-- where a step edits
abbrev pub position_of : Step → ℕ
position_of (Remove position) = position
position_of (Insert piece) = piece.position
position_of (Replace piece) = piece.position

-- the step at a position
abbrev pub step_at : ℕ → List Step → Option Step
step_at position [] = None
step_at position (step ∷ steps) = if position_of step == position then Some step else step_at position steps

-- the step that a position wants, by the piece that goes there and the one that comes
abbrev pub step_for : ℕ → Option Piece → Option Piece → Option Step
step_for position None None = None
step_for position None (Some put) = Some (Insert put)
step_for position (Some gone) None = Some (Remove position)
step_for position (Some gone) (Some put) = Some (Replace put)

-- the positions of pieces ascend, and no two are the same
abbrev pub AscendByPosition : List Piece → Type 0
AscendByPosition pieces = IsStrictlyIncreasing (map (λ piece. piece.position) pieces)

-- steps ascend by position, and at each position is the one that it wants
pub record AreSteps (gone put : List Piece) (steps : List Step) : Type 0 where
  pub ascending : IsStrictlyIncreasing (map position_of steps)
  pub wanted : (position : ℕ)
      → step_at position steps ≡ step_for position (piece_at position gone) (piece_at position put)

-- ---- the first of them

-- of two pieces, the step at the lesser position
abbrev pub first_of : Piece → Piece → Step
first_of gone put =
    if nat_lt gone.position put.position then Remove gone.position
    else (if nat_lt put.position gone.position then Insert put else Replace put)

-- of two lists, the step at the least position
abbrev pub first_between : List Piece → List Piece → Option Step
first_between [] [] = None
first_between [] (put ∷ later) = Some (Insert put)
first_between (gone ∷ later) [] = Some (Remove gone.position)
first_between (gone ∷ later) (put ∷ others) = Some (first_of gone put)
