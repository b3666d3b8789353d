-- What parts of pieces have of the whole ones. Positions and lengths are in bytes.
use Rattle.std.proofs.Common.{ℕ, ◌+◌, ◌-◌, Bool, true, false, min, max, List, [], ◌∷◌, ◌++◌}
use Rattle.std.specs.Prelude.{nat_lt}
use Rattle.std.specs.Bool.{then_some}
use Rattle.std.specs.List.{All, AllByRecursion, cons_option}
use Rattle.std.proofs.lemmas.List.Elements.{All-append, All-from_recursion, recursion_from_All}
use Rattle.qg_num.specs.declared.piece.Piece.{Piece}
use Rattle.qg_image.specs.FilesOf.{piece_end}
use Rattle.qg_machine.specs.FileChange.{after, before, part_after, part_before, with_range, within}

-- what is said of a piece is said of its extent and its stamp, so each part has it
abbrev pub Lasts : (Piece → Type 0) → Type 0
Lasts P = (piece : Piece) (position len offset : ℕ) → P piece
    → P (record piece { position = position; len = len; offset = offset })

module _ (P : Piece → Type 0) (lasts : Lasts P) where
  before_one : (to : ℕ) (piece : Piece) (rest : List Piece) → P piece → AllByRecursion P rest
      → AllByRecursion P (cons_option (part_before to piece) rest)
  before_one to piece rest here later = cases (nat_lt piece.position to) where
    cases : (b : Bool)
        → AllByRecursion P (cons_option (then_some b (record piece { len = min piece.len (to - piece.position) })) rest)
    cases true = (lasts piece piece.position (min piece.len (to - piece.position)) piece.offset here, later)
    cases false = later

  all_before : (to : ℕ) (pieces : List Piece) → AllByRecursion P pieces → AllByRecursion P (before to pieces)
  unfolding before
  all_before to [] all = tt
  all_before to (piece ∷ pieces) all = before_one to piece (before to pieces) all.0 (all_before to pieces all.1)

  after_one : (from : ℕ) (piece : Piece) (rest : List Piece) → P piece → AllByRecursion P rest
      → AllByRecursion P (cons_option (part_after from piece) rest)
  after_one from piece rest here later = cases (nat_lt from (piece_end piece)) where
    cases : (b : Bool) → AllByRecursion P (cons_option (then_some b (record piece {
      position = max from piece.position;
      len = piece_end piece - max from piece.position;
      offset = piece.offset + (max from piece.position - piece.position);
    })) rest)
    cases true = (
      lasts piece (max from piece.position) (piece_end piece - max from piece.position)
          (piece.offset + (max from piece.position - piece.position)) here,
      later,
    )
    cases false = later

  all_after : (from : ℕ) (pieces : List Piece) → AllByRecursion P pieces → AllByRecursion P (after from pieces)
  unfolding after
  all_after from [] all = tt
  all_after from (piece ∷ pieces) all = after_one from piece (after from pieces) all.0 (all_after from pieces all.1)

  pub all-before : (to : ℕ) (pieces : List Piece) → All P pieces → All P (before to pieces)
  all-before to pieces all =
      All-from_recursion P (before to pieces) (all_before to pieces (recursion_from_All P pieces all))

  pub all-within : (from to : ℕ) (pieces : List Piece) → All P pieces → All P (within from to pieces)
  all-within from to pieces all =
      All-from_recursion P (within from to pieces)
      (all_before to (after from pieces) (all_after from pieces (recursion_from_All P pieces all)))

  pub all-with_range : (from to : ℕ) (given pieces : List Piece) → All P given → All P pieces
      → All P (with_range from to given pieces)
  all-with_range from to given pieces new old =
      let by_parts = recursion_from_All P pieces old in
      let front = All-from_recursion P (before from pieces) (all_before from pieces by_parts) in
      let back = All-from_recursion P (after to pieces) (all_after to pieces by_parts) in
      All-append P (before from pieces ++ given) (after to pieces) (All-append P (before from pieces) given front new)
      back
