-- Elements by the addresses at which they begin.
use Rattle.std.proofs.Common.{◌≡◌, ℕ, Bool, true, false, List, [], ◌∷◌, refl, sym, ap, ◌∙◌, inl, inr}
use Rattle.std.specs.Prelude.{◌==◌, ◌||◌}
use Rattle.std.specs.List.{Contains, filter}
use Rattle.std.proofs.lemmas.Bool.{eqb-true, eq-eqb, or_cases, or_left, or_right, cases_Bool, cond-true, cond-false}
use Rattle.qg_image.specs.declared.element.Element.{Element}
use Rattle.qg_image.specs.Reach.{is_among, distinct}
use Rattle.qg_image.proofs.Contained.{none_contained, contains_here, contains_later, contains_cases}

-- ---- what begins at an address

-- an element of a list is among it
pub there : (xs : List Element) (y : Element) → Contains xs y → is_among y.address xs ≡ true
there [] y has = absurd (none_contained y has)
there (x ∷ xs) y has = elim (contains_cases x xs y has) [
  | inl is ↦ or_left (x.address == y.address) (is_among y.address xs)
      (eq-eqb x.address y.address (ap (λ (e : Element). e.address) is))
  | inr later ↦ or_right (x.address == y.address) (is_among y.address xs) (there xs y later)
]

-- what begins at an address that is among a list
pub found : (xs : List Element) (address : ℕ) → is_among address xs ≡ true → (y : Element) × Contains xs y
    × (y.address ≡ address)
found [] address is = cc
found (x ∷ xs) address is = elim (or_cases (x.address == address) (is_among address xs) is) [
  | inl here ↦ (x, contains_here x xs, eqb-true x.address address here)
  | inr later ↦ let one = found xs address later in (one.0, contains_later x xs one.0 one.1, one.2)
]

-- a test of addresses
abbrev pub at_address : (ℕ → Bool) → Element → Bool
at_address test element = test element.address

-- at an address that passes a test all is left that begins there
among-passed : (test : ℕ → Bool) (xs : List Element) (address : ℕ) → test address ≡ true
    → is_among address (filter (at_address test) xs) ≡ is_among address xs
among-passed test [] address right = refl
among-passed test (x ∷ xs) address right = by (test x.address) refl (among-passed test xs address right) where
  other : (b : Bool) → (x.address == address) ≡ b → test x.address ≡ false → b ≡ false
  other true is wrong = sym right ∙ ap test (sym (eqb-true x.address address is)) ∙ wrong
  other false is wrong = refl

  by : (b : Bool) → test x.address ≡ b
      → is_among address (filter (at_address test) xs) ≡ is_among address xs
      → is_among address (filter (at_address test) (x ∷ xs)) ≡ is_among address (x ∷ xs)
  by true is rest =
      ap (is_among address) (cond-true (test x.address) _ _ is) ∙ ap (λ b. (x.address == address) || b) rest
  by false is rest =
      ap (is_among address) (cond-false (test x.address) _ _ is) ∙ rest
      ∙ ap (λ b. b || is_among address xs) (sym (other (x.address == address) refl is))

-- so a test of addresses may come before or after each address is told once
pub distinct-passed : (test : ℕ → Bool) (xs : List Element)
    → filter (at_address test) (distinct xs) ≡ distinct (filter (at_address test) xs)
distinct-passed test [] = refl
distinct-passed test (x ∷ xs) = by (test x.address) refl (distinct-passed test xs) where
  by : (b : Bool) → test x.address ≡ b
      → filter (at_address test) (distinct xs) ≡ distinct (filter (at_address test) xs)
      → filter (at_address test) (distinct (x ∷ xs)) ≡ distinct (filter (at_address test) (x ∷ xs))
  by false is rest = elim (cases_Bool (is_among x.address xs)) [
    | inl again ↦
        ap (filter (at_address test)) (cond-true (is_among x.address xs) _ _ again) ∙ rest
        ∙ ap distinct (sym (cond-false (test x.address) _ _ is))
    | inr first ↦
        ap (filter (at_address test)) (cond-false (is_among x.address xs) _ _ first)
        ∙ cond-false (test x.address) _ _ is ∙ rest ∙ ap distinct (sym (cond-false (test x.address) _ _ is))
  ]
  by true is rest = elim (cases_Bool (is_among x.address xs)) [
    | inl again ↦
        ap (filter (at_address test)) (cond-true (is_among x.address xs) _ _ again) ∙ rest
        ∙ sym (cond-true (is_among x.address (filter (at_address test) xs)) _ _ (among-passed test xs x.address is
        ∙ again))
        ∙ ap distinct (sym (cond-true (test x.address) _ _ is))
    | inr first ↦
        ap (filter (at_address test)) (cond-false (is_among x.address xs) _ _ first)
        ∙ cond-true (test x.address) _ _ is ∙ ap (λ ys. x ∷ ys) rest
        ∙ sym (cond-false (is_among x.address (filter (at_address test) xs)) _ _ (among-passed test xs x.address is
        ∙ first))
        ∙ ap distinct (sym (cond-true (test x.address) _ _ is))
  ]
