-- Tests over lists, and lists that are filtered.
use Rattle.std.proofs.Common.{◌≡◌, Bool, true, false, List, [], ◌∷◌, refl, sym, ap, ◌∙◌, inl, inr, cond}
use Rattle.std.specs.Prelude.{◌&&◌, ◌||◌, not}
use Rattle.std.specs.List.{AllByRecursion, IsDistinct, filter, list_any}
use Rattle.std.specs.Set.{remove_key}
use Rattle.std.proofs.lemmas.Bool.{cases_Bool, cond-true, cond-false, true≢false}
use Rattle.std.proofs.lemmas.Map.Keys.{IsDistinct-head, IsDistinct-tail}

-- ---- Bool

pub both_true : (a b : Bool) → a && b ≡ true → (a ≡ true) × (b ≡ true)
both_true true b h = (refl, h)
both_true false b h = absurd (true≢false (sym h))

pub or_false : (a b : Bool) → a || b ≡ false → (a ≡ false) × (b ≡ false)
or_false true b h = absurd (true≢false h)
or_false false b h = (refl, h)

pub not_true : (a : Bool) → not a ≡ true → a ≡ false
not_true true h = absurd (true≢false (sym h))
not_true false h = refl

-- two tests that follow from each other are one
pub same_tests : (a b : Bool) → (a ≡ true → b ≡ true) → (b ≡ true → a ≡ true) → a ≡ b
same_tests true b there back = sym (there refl)
same_tests false true there back = back refl
same_tests false false there back = refl

module _ {X : Type 0} where
  -- ---- some element passes

  pub any_same : (p q : X → Bool) → ((x : X) → p x ≡ q x) → (xs : List X) → list_any p xs ≡ list_any q xs
  any_same p q same [] = refl
  any_same p q same (x ∷ xs) = ap (λ (b : Bool). b || list_any p xs) (same x)
      ∙ ap (λ (b : Bool). q x || b) (any_same p q same xs)

  pub any_filtered : (p q : X → Bool) (xs : List X) → list_any p (filter q xs) ≡ list_any (λ x. q x && p x) xs
  any_filtered p q [] = refl
  any_filtered p q (x ∷ xs) = elim (cases_Bool (q x)) [
    | inl passes ↦
        ap (λ (b : Bool). list_any p (cond b (x ∷ filter q xs) (filter q xs))) passes
        ∙ ap (λ (b : Bool). p x || b) (any_filtered p q xs)
        ∙ ap (λ (b : Bool). (b && p x) || list_any (λ x. q x && p x) xs) (sym passes)
    | inr fails ↦
        ap (λ (b : Bool). list_any p (cond b (x ∷ filter q xs) (filter q xs))) fails ∙ any_filtered p q xs
        ∙ ap (λ (b : Bool). (b && p x) || list_any (λ x. q x && p x) xs) (sym fails)
  ]

  -- an element that passes, and the way back
  pub any_has : (p : X → Bool) (xs : List X) → list_any p xs ≡ true → (x : X) × (list_any (λ _. true) xs ≡ true)
      × (p x ≡ true)
  any_has p [] none = absurd (true≢false (sym none))
  any_has p (x ∷ xs) some = elim (cases_Bool (p x)) [
    | inl passes ↦ (x, refl, passes)
    | inr fails ↦ let later = any_has p xs (sym (ap (λ (b : Bool). b || list_any p xs) fails) ∙ some) in
        (later.0, refl, later.2)
  ]

  -- ---- what passes stays

  pub filter_same : (p q : X → Bool) → ((x : X) → p x ≡ q x) → (xs : List X) → filter p xs ≡ filter q xs
  filter_same p q same [] = refl
  filter_same p q same (x ∷ xs) =
      ap (λ (b : Bool). cond b (x ∷ filter p xs) (filter p xs)) (same x)
      ∙ ap (λ (rest : List X). cond (q x) (x ∷ rest) rest) (filter_same p q same xs)

  pub filter_all : (p : X → Bool) (xs : List X) → list_any (λ x. not (p x)) xs ≡ false → filter p xs ≡ xs
  filter_all p [] none = refl
  filter_all p (x ∷ xs) none =
      let parts = or_false (not (p x)) (list_any (λ x. not (p x)) xs) none in
      let passes : p x ≡ true = elim (cases_Bool (p x)) [
        | inl h ↦ h
        | inr fails ↦ absurd (true≢false (sym (ap not fails) ∙ parts.0))
      ] in
      cond-true _ _ _ passes ∙ ap (λ (rest : List X). x ∷ rest) (filter_all p xs parts.1)

  -- what a test takes that takes all that another leaves out
  pub filter_again : (p q : X → Bool) → ((x : X) → p x ≡ true → q x ≡ true) → (xs : List X)
      → filter p (filter q xs) ≡ filter p xs
  filter_again p q has [] = refl
  filter_again p q has (x ∷ xs) = elim (cases_Bool (q x)) [
    | inl passes ↦
        ap (λ (b : Bool). filter p (cond b (x ∷ filter q xs) (filter q xs))) passes
        ∙ ap (λ (rest : List X). cond (p x) (x ∷ rest) rest) (filter_again p q has xs)
    | inr fails ↦
        let none : p x ≡ false = elim (cases_Bool (p x)) [
          | inl h ↦ absurd (true≢false (sym (has x h) ∙ fails))
          | inr h ↦ h
        ] in
        ap (λ (b : Bool). filter p (cond b (x ∷ filter q xs) (filter q xs))) fails ∙ filter_again p q has xs
        ∙ sym (cond-false _ _ _ none)
  ]

  -- ---- keys, no two equal

  apart_from : (eq : X → X → Bool) (x y : X) (xs : List X) → x ≡ y → AllByRecursion (λ z. eq x z ≡ false) xs
      → list_any (λ z. not (not (eq y z))) xs ≡ false
  apart_from eq x y [] is all = refl
  apart_from eq x y (z ∷ xs) is all =
      ap (λ (b : Bool). not (not b) || list_any (λ z. not (not (eq y z))) xs) (ap (λ (w : X). eq w z) (sym is) ∙ all.0)
      ∙ apart_from eq x y xs is all.1

  -- the key that is taken out is the only one that equals it
  pub removed : (eq : X → X → Bool) → ((x y : X) → eq x y ≡ true → x ≡ y) → (k : X) (xs : List X) → IsDistinct eq xs
      → remove_key (eq k) xs ≡ filter (λ x. not (eq k x)) xs
  removed eq exact k [] distinct = refl
  removed eq exact k (x ∷ xs) distinct = elim (cases_Bool (eq k x)) [
    | inl here ↦
        cond-true _ _ _ here ∙ sym
        (filter_all (λ x. not (eq k x)) xs
        (apart_from eq x k xs (sym (exact k x here)) (IsDistinct-head eq x xs distinct)))
        ∙ sym (cond-false _ _ _ (ap not here))
    | inr apart ↦
        cond-false _ _ _ apart ∙ ap (λ (rest : List X). x ∷ rest)
        (removed eq exact k xs (IsDistinct-tail eq x xs distinct))
        ∙ sym (cond-true _ _ _ (ap not apart))
  ]
