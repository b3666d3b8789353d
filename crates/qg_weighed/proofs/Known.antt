-- What a reference more takes, by what is looked up; and what is left when an edit is done.
use Rattle.std.proofs.Common.{◌≡◌, ℕ, ◌+◌, ◌<◌, ◌≤◌, ◌-◌, Bool, true, false, Option, Some, None, refl, sym}
use Rattle.std.proofs.Common.{ap, subst, ◌∙◌, arith}
use Rattle.std.specs.Prelude.{◌||◌, if◌then◌else◌, is_some, nat_lt}
use Rattle.std.proofs.lemmas.Bool.{cond-true, or_right, true≢false}
use Rattle.qg_items.specs.declared.extent.Reference.{Reference}
use Rattle.qg_extents.specs.Types.{What}
use Rattle.qg_extents.specs.Types.{Kept}
use Rattle.qg_extents.specs.Book.{Drops, references_in, what_in}
use Rattle.qg_extents.specs.Counts.{count_of}
use Rattle.qg_extents.proofs.Counting.{count-nil}
use Rattle.qg_extents.specs.Table.{IsTable, book_of}
use Rattle.qg_weighed.specs.Weight.{IsWeighed, extent_record_bytes, has_record, has_reference, lacking, reference_bytes}
use Rattle.qg_weighed.specs.Weight.{table_bytes, weight_of}
use Rattle.qg_weighed.proofs.Recorded.{Table}
use Rattle.qg_weighed.proofs.Weights.{weight-dropped, weight-own}

pub nothing-there : (reference : Reference) → false ≡ has_reference None reference
nothing-there reference = sym (ap (λ (n : ℕ). nat_lt 0 n) (count-nil reference))

-- where the reference is there, nothing is lacking
pub lacks-none : (held here : Option Kept) (what : What) (reference : Reference) → has_reference here reference ≡ true
    → 0 ≡ lacking held here what reference
lacks-none held None what reference there = absurd (true≢false (sym there ∙ sym (nothing-there reference)))
lacks-none held (Some kept) what reference there =
    let first : (if has_reference held reference || has_reference (Some kept) reference then 0
    else reference_bytes reference) ≡ 0 = cond-true _ _ _ (or_right (has_reference held reference) _ there) in
    let second : (if has_record held what || true then 0 else extent_record_bytes) ≡ 0 =
    cond-true _ _ _ (or_right (has_record held what) true refl) in
    omega (arith, first, second)

or_none : (a b : Bool) → b ≡ false → a ≡ (a || b)
or_none true b none = refl
or_none false b none = sym none

-- where it is not, the other book says what is
pub lacks-some : (held here : Option Kept) (what : What) (reference : Reference) (bytes : ℕ)
    → has_reference here reference ≡ false
    → bytes ≡ (if has_reference held reference then 0 else reference_bytes reference)
    + (if has_record held what || is_some here then 0 else extent_record_bytes)
    → bytes ≡ lacking held here what reference
lacks-some held here what reference bytes none is =
    is ∙ ap (λ (b : Bool). (if b then 0 else reference_bytes reference)
    + (if has_record held what || is_some here then 0 else extent_record_bytes))
    (or_none (has_reference held reference) (has_reference here reference) none)

-- where nothing is known there is no reference
pub unknown-none : (kept : Option Kept) (reference : Reference) → None ≡ what_in kept
    → 0 < count_of (references_in kept) reference → ⊥
unknown-none None reference known some = omega (arith, some, count-nil reference)
unknown-none (Some kept) reference known some = none_known known
  where
    none_known : None ≡ what_in (Some kept) → ⊥
    none_known is = cc

-- what is lacking once a reference is gone was there
pub lacking-least : (held old new : Table) (bytes at : ℕ) (what : What) (reference : Reference) (less : ℕ)
    → IsWeighed old held bytes → IsTable new → Drops (book_of old) (book_of new) at reference
    → Some what ≡ what_in (book_of old at)
    → less ≡ lacking (book_of held at) (book_of new at) what reference → less ≤ bytes
lacking-least held old new bytes at what reference less weighed new_is dropped known is =
    let whole = weight-dropped held old new at what reference weighed.held_kept weighed.refs_kept new_is dropped
    (sym known) in
    omega (arith, whole, is, weighed.weight)

pub weighed-dropped : (held old new : Table) (bytes at : ℕ) (what : What) (reference : Reference) (less : ℕ)
    → IsWeighed old held bytes → IsTable new → Drops (book_of old) (book_of new) at reference
    → Some what ≡ what_in (book_of old at)
    → less ≡ lacking (book_of held at) (book_of new at) what reference → IsWeighed new held (bytes - less)
weighed-dropped held old new bytes at what reference less weighed new_is dropped known is =
    let whole = weight-dropped held old new at what reference weighed.held_kept weighed.refs_kept new_is dropped
    (sym known) in
    record {
      refs_kept = new_is;
      held_kept = weighed.held_kept;
      weight = omega (arith, whole, is, weighed.weight);
    }

-- a book beside itself
pub weighed-own : (refs held entries : Table) (bytes : ℕ) → IsTable refs → held ≡ refs → entries ≡ refs
    → bytes ≡ table_bytes entries → IsWeighed refs held bytes
weighed-own refs held entries bytes is same listed sum = record {
  refs_kept = is;
  held_kept = subst IsTable (sym same) is;
  weight = sum ∙ ap table_bytes listed ∙ sym (weight-own refs is)
      ∙ ap (λ (table : Table). weight_of table refs) (sym same);
}
