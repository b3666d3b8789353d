-- The bytes of elements whose addresses pass a test, as a sum over all of them.
use Rattle.std.proofs.Common.{◌≡◌, ℕ, ◌+◌, ◌≤◌, Bool, true, false, List, [], ◌∷◌, refl, sym, ap, ◌∙◌, arith, inl, inr}
use Rattle.std.specs.Prelude.{◌==◌}
use Rattle.std.specs.List.{Contains, filter}
use Rattle.std.proofs.lemmas.Bool.{cases_eq, cond-true, cond-false, ne_eqb, or_from}
use Rattle.std.proofs.lemmas.List.Sums.{sum_by-cons}
use Rattle.std.proofs.lemmas.Map.Keys.{IsDistinct-tail}
use Rattle.qg_image.specs.declared.element.Element.{Element}
use Rattle.qg_image.specs.Reach.{is_among}
use Rattle.qg_image.specs.Counts.{bytes_of}
use Rattle.qg_image.proofs.Contained.{contains_here, contains_later}
use Rattle.qg_reach.proofs.Distinct.{AreApart, apart_first, begin_alike}
use Rattle.qg_qgroup_counts.specs.Portions.{given}
use Rattle.qg_qgroup_counts.proofs.Beginning.{at_address}
use Rattle.qg_qgroup_counts.proofs.SetWeights.{given_is, given_not}

-- each element's bytes where its address passes
abbrev pub weigh : (ℕ → Bool) → List Element → ℕ
weigh test [] = 0
weigh test (x ∷ xs) = given (test x.address) x.bytes + weigh test xs

pub weigh-is : (test : ℕ → Bool) (xs : List Element) → bytes_of (filter (at_address test) xs) ≡ weigh test xs
weigh-is test [] = refl
weigh-is test (x ∷ xs) = by (test x.address) refl (weigh-is test xs) where
  by : (b : Bool) → test x.address ≡ b → bytes_of (filter (at_address test) xs) ≡ weigh test xs
      → bytes_of (filter (at_address test) (x ∷ xs)) ≡ weigh test (x ∷ xs)
  by true is rest =
      let kept = ap bytes_of (cond-true (test x.address) (x ∷ filter (at_address test) xs)
      (filter (at_address test) xs) is) in
      let sum = sum_by-cons (λ (e : Element). e.bytes) x (filter (at_address test) xs) in
      omega (arith, kept, sum, rest, given_is (test x.address) x.bytes is)
  by false is rest =
      let kept = ap bytes_of (cond-false (test x.address) (x ∷ filter (at_address test) xs)
      (filter (at_address test) xs) is) in
      omega (arith, kept, rest, given_not (test x.address) x.bytes is)

-- tests that agree at the elements
pub weigh-same : (test other : ℕ → Bool) (xs : List Element) → ((x : Element) → Contains xs x
    → test x.address ≡ other x.address)
    → weigh test xs ≡ weigh other xs
weigh-same test other [] same = refl
weigh-same test other (x ∷ xs) same =
    let here = ap (λ (b : Bool). given b x.bytes) (same x (contains_here x xs)) in
    omega (arith, here, weigh-same test other xs (λ y has. same y (contains_later x xs y has)))

given-le : (b : Bool) (n : ℕ) → given b n ≤ n
given-le true n = omega (arith, given_is true n refl)
given-le false n = omega (arith, given_not false n refl)

-- no test passes more than all
pub weigh-most : (test : ℕ → Bool) (xs : List Element) → weigh test xs ≤ bytes_of xs
weigh-most test [] = omega arith
weigh-most test (x ∷ xs) =
    let sum = sum_by-cons (λ (e : Element). e.bytes) x xs in
    omega (arith, sum, given-le (test x.address) x.bytes, weigh-most test xs)

-- tests that agree at every address but one, which has these bytes
pub weigh-one : (was is : ℕ → Bool) (address bytes : ℕ) (xs : List Element) → AreApart xs
    → ((other : ℕ) → (other ≡ address → ⊥) → was other ≡ is other)
    → ((x : Element) → Contains xs x → x.address ≡ address → x.bytes ≡ bytes)
    → (is_among address xs ≡ false → (was address ≡ false) × (is address ≡ false))
    → weigh is xs + given (was address) bytes ≡ weigh was xs + given (is address) bytes
weigh-one was is address bytes [] apart same right none =
    let both = none refl in omega (arith, given_not (was address) bytes both.0, given_not (is address) bytes both.1)
weigh-one was is address bytes (x ∷ xs) apart same right none = elim (cases_eq x.address address) [
  | inl here ↦
      let rest = weigh-same is was xs (λ y has. sym (same y.address (λ there. apart_first x xs y apart has
      (here ∙ sym there)))) in
      let first = ap (λ (a : ℕ). given (was a) x.bytes) here in
      let second = ap (λ (a : ℕ). given (is a) x.bytes) here in
      let size = right x (contains_here x xs) here in
      let third = ap (given (was address)) size in
      let fourth = ap (given (is address)) size in
      omega (arith, rest, first, second, third, fourth)
  | inr other ↦
      let rest = weigh-one was is address bytes xs (IsDistinct-tail begin_alike x xs apart) same
      (λ y has. right y (contains_later x xs y has))
      (λ gone. none (or_from (x.address == address) (is_among address xs) (ne_eqb x.address address other) gone)) in
      let first = ap (λ (b : Bool). given b x.bytes) (same x.address other) in
      omega (arith, rest, first)
]

-- what passes is in the sum
pub weigh-has : (test : ℕ → Bool) (address bytes : ℕ) (xs : List Element)
    → ((x : Element) → Contains xs x → x.address ≡ address → x.bytes ≡ bytes)
    → (is_among address xs ≡ false → test address ≡ false)
    → given (test address) bytes ≤ weigh test xs
weigh-has test address bytes [] right none = omega (arith, given_not (test address) bytes (none refl))
weigh-has test address bytes (x ∷ xs) right none = elim (cases_eq x.address address) [
  | inl here ↦
      let first = ap (λ (a : ℕ). given (test a) x.bytes) here in
      let second = ap (given (test address)) (right x (contains_here x xs) here) in
      omega (arith, first, second)
  | inr other ↦
      let rest = weigh-has test address bytes xs (λ y has. right y (contains_later x xs y has))
      (λ gone. none (or_from (x.address == address) (is_among address xs) (ne_eqb x.address address other) gone)) in
      omega (arith, rest)
]
