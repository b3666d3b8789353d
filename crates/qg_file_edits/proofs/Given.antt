-- What a write or a clone gives, as the call that puts it says it.
use Rattle.std.proofs.Common.{◌≡◌, ℕ, ◌+◌, ◌<◌, ◌≤◌, List, [], ◌∷◌, Some, None, Result, arith, ap, subst, ◌∙◌}
use Rattle.std.specs.Prelude.{IfOk}
use Rattle.std.specs.List.{All}
use Rattle.std.proofs.lemmas.List.Elements.{All-cons, All-nil}
use Rattle.qg_num.specs.declared.fault.NoMemory.{NoMemory}
use Rattle.qg_num.specs.declared.piece.Piece.{Piece}
use Rattle.qg_image.specs.FilesOf.{largest_size, piece_end}
use Rattle.qg_machine.specs.FileChange.{new_piece, with_range}
use Rattle.qg_files.specs.Apart.{AreApartFrom}
use Rattle.qg_file_edits.specs.declared.exchange.Exchange.{Exchange}
use Rattle.qg_file_edits.specs.declared.found.Found.{Found}
use Rattle.qg_file_edits.specs.Changes.{IsRangeChange}

pub one-apart : (generation off len run : ℕ) → 0 < len → off + len ≤ largest_size
    → AreApartFrom off (new_piece generation off len run ∷ [])
unfolding AreApartFrom
one-apart generation off len run some near =
    (omega arith, record { some = some; within = near; in_extent = omega (arith, near) }, tt)

pub one-ends : (generation off len run : ℕ)
    → All (λ piece. piece_end piece ≤ off + len) (new_piece generation off len run ∷ [])
one-ends generation off len run =
    let by = λ (piece : Piece). piece_end piece ≤ off + len in
    All-cons by (new_piece generation off len run) [] (omega arith) (All-nil by)

pub written-so : (generation off len run : ℕ) (first second : Piece) (named : List Piece) (found : Found)
    (result : Result Exchange NoMemory) → first ≡ new_piece generation off len run
    → second ≡ new_piece generation off len run
    → named ≡ with_range off (off + len) [] found.met
    → IfOk result (λ change. IsRangeChange generation off (off + len) (first ∷ []) named (Some second) found change)
    → IfOk result (λ change. IsRangeChange generation off (off + len) (new_piece generation off len run ∷ [])
    (with_range off (off + len) [] found.met) (Some (new_piece generation off len run)) found change)
written-so generation off len run first second named found result first_is second_is named_is made =
    let end = off + len in
    subst (λ (p : Piece). IfOk result (λ change. IsRangeChange generation off end (p ∷ [])
    (with_range off end [] found.met) (Some (new_piece generation off len run)) found change)) first_is
    (subst (λ (p : Piece). IfOk result (λ change. IsRangeChange generation off end (first ∷ [])
    (with_range off end [] found.met) (Some p) found change)) second_is
    (subst (λ (xs : List Piece). IfOk result (λ change. IsRangeChange generation off end (first ∷ []) xs (Some second)
    found change)) named_is made))

pub cloned-so : (generation off end : ℕ) (given first second named : List Piece) (found : Found)
    (result : Result Exchange NoMemory) → first ≡ given → second ≡ given → named ≡ with_range off end second found.met
    → IfOk result (λ change. IsRangeChange generation off end first named None found change)
    → IfOk result (λ change. IsRangeChange generation off end given (with_range off end given found.met) None found
    change)
cloned-so generation off end given first second named found result first_is second_is named_is made =
    let named_so = named_is ∙ ap (λ (xs : List Piece). with_range off end xs found.met) second_is in
    subst (λ (xs : List Piece). IfOk result (λ change. IsRangeChange generation off end xs
    (with_range off end given found.met) None found change)) first_is
    (subst (λ (xs : List Piece). IfOk result (λ change. IsRangeChange generation off end first xs None found change))
    named_so made)
