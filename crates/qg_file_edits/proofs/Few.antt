-- How many names come with a command: a range's pieces at most twice, and those that are given.
use Rattle.std.proofs.Common.{◌≡◌, ℕ, ◌+◌, ◌*◌, ◌≤◌, List, [], ◌++◌, length, Option, None, arith, ap, length-append}
use Rattle.std.specs.Prelude.{◌&&◌, nat_lt}
use Rattle.std.specs.Option.{option_to_list}
use Rattle.std.proofs.lemmas.List.Sums.{length-filter}
use Rattle.qg_num.specs.declared.piece.Piece.{Piece}
use Rattle.qg_image.specs.FilesOf.{piece_end}
use Rattle.qg_machine.specs.FileChange.{after, before, pieces_meeting, pieces_past, with_range}
use Rattle.qg_file_edits.specs.PiecesWritten.{pieces_cut, pieces_met}
use Rattle.qg_file_edits.proofs.Taken.{after_few, before_few}

together : (named : List Piece) (first new : Option Piece) → new ≡ first
    → length (named ++ option_to_list new) ≡ length named + length (option_to_list first)
together named first new is =
    let both = length-append named (option_to_list new) in
    let same = ap (λ (o : Option Piece). length (option_to_list o)) is in
    omega (arith, both, same)

pub range-names : (from to : ℕ) (given met old named : List Piece) (first new : Option Piece)
    → named ≡ with_range from to given met → new ≡ first → met ≡ pieces_met from to old
    → length (named ++ option_to_list new)
    ≤ 2 * pieces_meeting from to old + length given + length (option_to_list first)
range-names from to given met old named first new is none found =
    let all = together named first new none in
    let same = ap (λ (xs : List Piece). length xs) is in
    let outer = length-append (before from met ++ given) (after to met) in
    let inner = length-append (before from met) given in
    let front = before_few from met in
    let back = after_few to met in
    let mets = ap (λ (xs : List Piece). length xs) found in
    let count : length (pieces_met from to old) ≡ pieces_meeting from to old =
    length-filter (λ (piece : Piece). nat_lt piece.position to && nat_lt from (piece_end piece)) old in
    omega (arith, all, same, outer, inner, front, back, mets, count)

pub cut-names : (size : ℕ) (met old named : List Piece) (new : Option Piece) → named ≡ before size met → new ≡ None
    → met ≡ pieces_cut size old → length (named ++ option_to_list new) ≤ pieces_past size old
cut-names size met old named new is none found =
    let all = together named None new none in
    let same = ap (λ (xs : List Piece). length xs) is in
    let front = before_few size met in
    let mets = ap (λ (xs : List Piece). length xs) found in
    let count : length (pieces_cut size old) ≡ pieces_past size old =
    length-filter (λ (piece : Piece). nat_lt size (piece_end piece)) old in
    omega (arith, all, same, front, mets, count)

pub no-names : (named : List Piece) (new : Option Piece) → named ≡ [] → new ≡ None
    → length (named ++ option_to_list new) ≤ 0
no-names named new is none =
    let all = together named None new none in
    let same = ap (λ (xs : List Piece). length xs) is in
    omega (arith, all, same)
