-- Tests over a list, by its elements.
use Rattle.std.proofs.Common.{◌≡◌, ℕ, ◌+◌, ◌<◌, Bool, true, false, List, [], ◌∷◌, refl, sym, ap, subst, ◌∙◌, arith, inl}
use Rattle.std.proofs.Common.{inr, cond}
use Rattle.std.specs.Prelude.{◌&&◌, ◌||◌}
use Rattle.std.specs.List.{Contains, list_any, list_all, count_by}
use Rattle.std.proofs.lemmas.Bool.{cases_Bool, cond-true, cond-false, true≢false}
use Rattle.std.proofs.lemmas.List.Sums.{sum_by-cons}
use Rattle.qg_image.proofs.Contained.{none_contained, contains_here, contains_later, contains_cases}

pub and_first : (a b : Bool) → (a && b) ≡ true → a ≡ true
and_first true b h = refl
and_first false b h = absurd (true≢false (sym h))

pub and_second : (a b : Bool) → (a && b) ≡ true → b ≡ true
and_second true b h = h
and_second false b h = absurd (true≢false (sym h))

pub and_both : (a b : Bool) → a ≡ true → b ≡ true → (a && b) ≡ true
and_both a b p q = ap (λ c. c && b) p ∙ q

module _ {X : Type 0} (p : X → Bool) where
  pub count-cons : (x : X) (xs : List X) → count_by p (x ∷ xs) ≡ cond (p x) 1 0 + count_by p xs
  count-cons x xs = sum_by-cons (λ y. cond (p y) 1 0) x xs

  pub any_at : (xs : List X) (x : X) → Contains xs x → p x ≡ true → list_any p xs ≡ true
  any_at [] x has holds = absurd (none_contained x has)
  any_at (z ∷ zs) x has holds = elim (cases_Bool (p z)) [
    | inl first ↦ ap (λ b. b || list_any p zs) first
    | inr fails ↦ elim (contains_cases z zs x has) [
      | inl is ↦ absurd (true≢false (sym holds ∙ subst (λ w. p w ≡ false) is fails))
      | inr later ↦ ap (λ b. b || list_any p zs) fails ∙ any_at zs x later holds
    ]
  ]

  pub at_any : (xs : List X) → list_any p xs ≡ true → (x : X) × Contains xs x × (p x ≡ true)
  at_any [] h = absurd (true≢false (sym h))
  at_any (z ∷ zs) h = elim (cases_Bool (p z)) [
    | inl first ↦ (z, contains_here z zs, first)
    | inr fails ↦
        let found = at_any zs (sym (ap (λ b. b || list_any p zs) fails) ∙ h) in
        (found.0, contains_later z zs found.0 found.1, found.2)
  ]

  pub all_at : (xs : List X) (x : X) → list_all p xs ≡ true → Contains xs x → p x ≡ true
  all_at [] x h has = absurd (none_contained x has)
  all_at (z ∷ zs) x h has = elim (contains_cases z zs x has) [
    | inl is ↦ subst (λ w. p w ≡ true) is (and_first (p z) (list_all p zs) h)
    | inr later ↦ all_at zs x (and_second (p z) (list_all p zs) h) later
  ]

  pub all_by : (xs : List X) → ((x : X) → Contains xs x → p x ≡ true) → list_all p xs ≡ true
  all_by [] each = refl
  all_by (z ∷ zs) each = and_both (p z) (list_all p zs) (each z (contains_here z zs))
      (all_by zs (λ x has. each x (contains_later z zs x has)))

  pub count_none : (xs : List X) → list_any p xs ≡ false → count_by p xs ≡ 0
  count_none [] h = refl
  count_none (z ∷ zs) h = elim (cases_Bool (p z)) [
    | inl first ↦ absurd (true≢false (sym (ap (λ b. b || list_any p zs) first) ∙ h))
    | inr fails ↦
        let rest = count_none zs (sym (ap (λ b. b || list_any p zs) fails) ∙ h) in
        let here = cond-false {A = ℕ} (p z) 1 0 fails in
        omega (arith, count-cons z zs, here, rest)
  ]

  pub count_some : (xs : List X) → list_any p xs ≡ true → 0 < count_by p xs
  count_some [] h = absurd (true≢false (sym h))
  count_some (z ∷ zs) h = elim (cases_Bool (p z)) [
    | inl first ↦
        let here = cond-true {A = ℕ} (p z) 1 0 first in
        omega (arith, count-cons z zs, here)
    | inr fails ↦
        let rest = count_some zs (sym (ap (λ b. b || list_any p zs) fails) ∙ h) in
        omega (arith, count-cons z zs, rest)
  ]

  pub none_any : (xs : List X) → count_by p xs ≡ 0 → list_any p xs ≡ false
  none_any xs none = elim (cases_Bool (list_any p xs)) [
    | inl holds ↦ absurd (omega (arith, none, count_some xs holds))
    | inr fails ↦ fails
  ]
