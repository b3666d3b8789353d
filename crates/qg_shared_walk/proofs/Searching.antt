-- What a search among numbers finds.
use Rattle.std.proofs.Common.{◌≡◌, ℕ, zero, suc, ◌<◌, true, false, List, [], ◌∷◌, length, get_or, Result, Ok, Err}
use Rattle.std.proofs.Common.{refl, sym, arith, inl, inr}
use Rattle.std.specs.Prelude.{◌==◌}
use Rattle.std.specs.List.Sorted.{IsBinarySearchResult, IsNonDecreasing}
use Rattle.std.specs.Ordering.{nat_cmp}
use Rattle.std.specs.Result.{is_ok}
use Rattle.std.proofs.lemmas.Bool.{cases_lt, eq-eqb, ne_eqb, or_left, or_right}
use Rattle.std.proofs.lemmas.List.Sorted.{searched}
use Rattle.qg_shared_walk.specs.Marked.{is_marked}

marked_at : (full : List ℕ) (a i : ℕ) → i < length full → get_or full i 0 ≡ a → is_marked full a ≡ true
marked_at [] a i short is = absurd (omega arith)
marked_at (first ∷ full) a zero short is = or_left (first == a) (is_marked full a) (eq-eqb first a is)
marked_at (first ∷ full) a (suc i) short is = or_right (first == a) (is_marked full a)
    (marked_at full a i (omega (arith, short)) is)

marked_none : (full : List ℕ) (a : ℕ) → ((i : ℕ) → i < length full → get_or full i 0 ≡ a → ⊥) → is_marked full a ≡ false
marked_none [] a other = refl
marked_none (first ∷ full) a other =
    let here = ne_eqb first a (other 0 (omega arith)) in
    let later = marked_none full a (λ i short is. other (suc i) (omega (arith, short)) is) in
    rw (here, later) refl

-- where an address is searched for among ascending ones it is found exactly where it is one of them
pub searched_is : (full : List ℕ) (a : ℕ) (found : Result ℕ ℕ) → IsBinarySearchResult (λ n. nat_cmp n a) full found
    → IsNonDecreasing full
    → is_ok found ≡ is_marked full a
searched_is full a (Ok i) result up =
    let there = searched full a (Ok i) result (λ i j le short. up i j 0 le short) in
    sym (marked_at full a i there.0 there.1)
searched_is full a (Err i) result up =
    let absent = searched full a (Err i) result (λ i j le short. up i j 0 le short) in
    sym (marked_none full a (λ k short is. elim (cases_lt k i) [
      | inl below ↦ absurd (omega (arith, is, absent.1 k below))
      | inr above ↦ absurd (omega (arith, is, absent.2 k above short))
    ]))
