-- The least number that passes a test.
use Rattle.std.proofs.Common.{◌≡◌, ℕ, zero, suc, ◌+◌, ◌<◌, ◌≤◌, Bool, true, false, Some, None, refl, sym, ap, subst}
use Rattle.std.proofs.Common.{◌∙◌, arith, inl, inr}
use Rattle.std.proofs.lemmas.Bool.{cases_Bool, cases_eq}
use Rattle.std.proofs.lemmas.Option.{none-some}
use Rattle.qg_image.specs.Space.{least}

least_here : (test : ℕ → Bool) (from count : ℕ) → test from ≡ true → least test from (suc count) ≡ Some from
unfolding least
least_here test from count passes =
    let Gives : Bool → Type 0 = λ b. (elim b [ true ↦ Some from | false ↦ least test (from + 1) count ]) ≡ Some from in
    subst Gives (sym passes) refl

least_later : (test : ℕ → Bool) (from count : ℕ) → test from ≡ false
    → least test from (suc count) ≡ least test (from + 1) count
unfolding least
least_later test from count fails =
    let Gives : Bool → Type 0 = λ b. (elim b [ true ↦ Some from | false ↦ least test (from + 1) count ])
    ≡ least test (from + 1) count in
    subst Gives (sym fails) refl

least_zero : (test : ℕ → Bool) (from : ℕ) → least test from zero ≡ None
unfolding least
least_zero test from = refl

pub least_none : (test : ℕ → Bool) (from count : ℕ) → ((k : ℕ) → from ≤ k → k < from + count → test k ≡ false)
    → least test from count ≡ None
least_none test from zero all = least_zero test from
least_none test from (suc count) all =
    least_later test from count (all from (omega arith) (omega arith))
    ∙ least_none test (from + 1) count (λ k low high. all k (omega (arith, low)) (omega (arith, high)))

pub least_some : (test : ℕ → Bool) (from count k : ℕ) → from ≤ k → k < from + count → test k ≡ true
    → ((j : ℕ) → from ≤ j → j < k → test j ≡ false) → least test from count ≡ Some k
least_some test from zero k low high passes before = absurd (omega (arith, low, high))
least_some test from (suc count) k low high passes before = elim (cases_eq from k) [
  | inl is ↦ least_here test from count (subst (λ n. test n ≡ true) (sym is) passes) ∙ ap (λ n. Some n) is
  | inr less ↦
      least_later test from count (before from (omega arith) (omega (arith, low, less)))
      ∙ least_some test (from + 1) count k (omega (arith, low, less)) (omega (arith, high)) passes
      (λ j low' high'. before j (omega (arith, low')) high')
]

-- tests that answer alike
pub least_alike : (test other : ℕ → Bool) (from count : ℕ) → ((k : ℕ) → test k ≡ other k)
    → least test from count ≡ least other from count
least_alike test other from zero alike = least_zero test from ∙ sym (least_zero other from)
least_alike test other from (suc count) alike = elim (cases_Bool (test from)) [
  | inl is ↦ least_here test from count is ∙ sym (least_here other from count (sym (alike from) ∙ is))
  | inr fails ↦
      least_later test from count fails ∙ least_alike test other (from + 1) count alike
      ∙ sym (least_later other from count (sym (alike from) ∙ fails))
]

-- the least number that passes does pass
pub least_passes : (test : ℕ → Bool) (from count k : ℕ) → least test from count ≡ Some k → test k ≡ true
least_passes test from zero k is = absurd (none-some k (sym (least_zero test from) ∙ is))
least_passes test from (suc count) k is = elim (cases_Bool (test from)) [
  | inl passes ↦
      let here : Some from ≡ Some k = sym (least_here test from count passes) ∙ is in
      let same : from ≡ k = cc in
      ap test (sym same) ∙ passes
  | inr fails ↦ least_passes test (from + 1) count k (sym (least_later test from count fails) ∙ is)
]

-- where none is the least, none passes
pub none_passes : (test : ℕ → Bool) (from count : ℕ) → least test from count ≡ None → (k : ℕ) → from ≤ k
    → k < from + count → test k ≡ false
none_passes test from zero none k low less = absurd (omega (arith, low, less))
none_passes test from (suc count) none k low less = elim (cases_Bool (test from)) [
  | inl passes ↦ absurd (none-some from (sym none ∙ least_here test from count passes))
  | inr fails ↦ elim (cases_eq from k) [
    | inl is ↦ ap test (sym is) ∙ fails
    | inr other ↦ none_passes test (from + 1) count (sym (least_later test from count fails) ∙ none) k
        (omega (arith, low, other)) (omega (arith, less))
  ]
]
