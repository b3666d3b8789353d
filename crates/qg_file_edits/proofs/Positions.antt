-- The piece, or the step, at a position, where positions ascend.
use Rattle.std.proofs.Common.{◌≡◌, ℕ, ◌+◌, ◌<◌, ◌≤◌, true, List, [], ◌∷◌, map, Some, None, refl, ◌∙◌, arith}
use Rattle.std.specs.Prelude.{Option, IsSome}
use Rattle.std.proofs.lemmas.Bool.{eq-eqb, ne_eqb}
use Rattle.qg_num.specs.declared.piece.Piece.{Piece}
use Rattle.qg_image.specs.FilesOf.{are_pieces, piece_end}
use Rattle.qg_image.proofs.Pieces.{FirstPiece-are_pieces, WholePiece-is_piece}
use Rattle.qg_files.specs.Apart.{AreApartFrom}
use Rattle.qg_inodes.specs.Bodies.{piece_at}
use Rattle.qg_inodes.proofs.PiecesByPosition.{at-later}
use Rattle.qg_file_edits.specs.declared.step.Step.{Step}
use Rattle.qg_file_edits.specs.Steps.{position_of, step_at}
use Rattle.qg_file_edits.proofs.Ascending.{AscendFrom, ascend-lower}

abbrev pub positions : List Piece → List ℕ
positions pieces = map (λ piece. piece.position) pieces

abbrev pub positions_of : List Step → List ℕ
positions_of steps = map position_of steps

-- ---- pieces whose positions ascend

pub apart-ascend : (from : ℕ) (pieces : List Piece) → AreApartFrom from pieces → AscendFrom from (positions pieces)
unfolding AreApartFrom AscendFrom
apart-ascend from [] apart = tt
apart-ascend from (piece ∷ pieces) apart =
    let some = apart.1.some in
    let later = apart-ascend (piece_end piece) pieces apart.2 in
    (apart.0, ascend-lower (piece_end piece) (piece.position + 1) (positions pieces) (omega arith) later)

pub whole-ascend : (from size : ℕ) (pieces : List Piece) → are_pieces from size pieces ≡ true
    → AscendFrom from (positions pieces)
unfolding AscendFrom
whole-ascend from size [] are = tt
whole-ascend from size (piece ∷ pieces) are =
    let first = FirstPiece-are_pieces from size piece pieces are in
    let some : 0 < piece.len = (WholePiece-is_piece piece first.is).some in
    let later = whole-ascend (piece_end piece) size pieces first.rest in
    (first.begins, ascend-lower (piece_end piece) (piece.position + 1) (positions pieces) (omega arith) later)

-- there is none, or one
pub not-some : (o : Option Piece) → o ≡ None → IsSome o → ⊥
not-some None none some = absurd cc
not-some (Some piece) none some = absurd cc

-- none stands in front of the first
pub none-in_front : (from position : ℕ) (pieces : List Piece) → AscendFrom from (positions pieces) → position < from
    → piece_at position pieces ≡ None
unfolding AscendFrom
none-in_front from position [] ascend less = refl
none-in_front from position (piece ∷ pieces) ascend less =
    let begins : from ≤ piece.position = ascend.0 in
    at-later position piece pieces (λ same. omega (arith, same))
    ∙ none-in_front (piece.position + 1) position pieces ascend.1 (omega arith)

-- ---- steps

pub step-here : (position : ℕ) (step : Step) (steps : List Step) → position_of step ≡ position
    → step_at position (step ∷ steps) ≡ Some step
step-here position step steps is = rw (eq-eqb (position_of step) position is) refl

pub step-later : (position : ℕ) (step : Step) (steps : List Step) → (position_of step ≡ position → ⊥)
    → step_at position (step ∷ steps) ≡ step_at position steps
step-later position step steps differ = rw (ne_eqb (position_of step) position differ) refl

pub no_step-in_front : (from position : ℕ) (steps : List Step) → AscendFrom from (positions_of steps)
    → position < from
    → step_at position steps ≡ None
unfolding AscendFrom
no_step-in_front from position [] ascend less = refl
no_step-in_front from position (step ∷ steps) ascend less =
    let begins : from ≤ position_of step = ascend.0 in
    step-later position step steps (λ same. omega (arith, same))
    ∙ no_step-in_front (position_of step + 1) position steps ascend.1 (omega arith)
