-- Lists that `is_sorted_by` found in order, by a number of each element.
use Rattle.std.proofs.Common.{◌≡◌, ℕ, ◌+◌, ◌<◌, ◌≤◌, Bool, true, List, [], ◌∷◌, length, map, get_or, Bor, arith}
use Rattle.std.specs.Fn.{Called, ComputesOnPairs, Mut}
use Rattle.std.specs.List.{IsAllAdjacentAnswer}
use Rattle.std.specs.List.Sorted.{IsNonDecreasingBy, IsStrictlyIncreasing}
use Rattle.std.specs.Ordering.{is_le, is_lt, nat_cmp}
use Rattle.std.proofs.iter.Next.{if_yes}
use Rattle.std.proofs.lemmas.Bool.Decides.{nat_tests}
use Rattle.std.proofs.lemmas.Fn.{always_returns_same}
use Rattle.std.proofs.lemmas.List.{get_or-map, length-map}
use Rattle.std.proofs.lemmas.List.Sorted.{IsNonDecreasingBy-from_all_adjacent}

less : (a b : ℕ) → true ≡ is_lt (nat_cmp a b) → a < b
less a b h = grind (arith, nat_tests)

not_more : (a b : ℕ) → true ≡ is_le (nat_cmp a b) → a ≤ b
not_more a b h = grind (arith, nat_tests)

-- each number is less than the next
rising : {X : Type 0} (number : X → ℕ) (xs : List X) (r : Bool)
    → IsAllAdjacentAnswer (λ x y b. b ≡ is_lt (nat_cmp (number x) (number y))) xs r → r ≡ true
    → IsStrictlyIncreasing (map number xs)
rising number [] r answer holds = λ k short. absurd (omega (arith, short))
rising number (x ∷ xs) r answer holds = λ k short.
    let all = x ∷ xs in
    let inside : k + 1 < length all = omega (arith, short, length-map all number) in
    let here = get_or-map number all k x 0 (omega (arith, inside)) in
    let there = get_or-map number all (k + 1) x 0 inside in
    let rise = less (number (get_or all k x)) (number (get_or all (k + 1) x)) (if_yes _ _ holds answer k x inside) in
    omega (arith, here, there, rise)

module _ {X F : Type 0} (number : X → ℕ) {g : Mut F (Bor X × (Bor X × Unit {0})) Bool} {f : F} (xs : List X) (r : Bool)
    (answers : (e : X → X → Bool) → ComputesOnPairs g e f → IsAllAdjacentAnswer (λ x y b. b ≡ e x y) xs r) where
  -- from the clause `cases`, where each call says whether the number is less than the next one's
  pub rising_from : ((a : Bor X × (Bor X × Unit {0})) (b : Bool) (f' : F) → Called g f a b f'
      → (b ≡ is_lt (nat_cmp (number a.0.now) (number a.1.0.now))) × (f' ≡ f))
      → r ≡ true → IsStrictlyIncreasing (map number xs)
  rising_from calls =
      let e = λ (x y : X). is_lt (nat_cmp (number x) (number y)) in
      rising number xs r (answers e (always_returns_same g (λ a b. b ≡ e a.0.now a.1.0.now) f calls))

  -- the same where each call says whether it is no more
  pub not_falling_from : ((a : Bor X × (Bor X × Unit {0})) (b : Bool) (f' : F) → Called g f a b f'
      → (b ≡ is_le (nat_cmp (number a.0.now) (number a.1.0.now))) × (f' ≡ f))
      → r ≡ true → IsNonDecreasingBy number xs
  not_falling_from calls holds =
      let e = λ (x y : X). is_le (nat_cmp (number x) (number y)) in
      let answer = answers e (always_returns_same g (λ a b. b ≡ e a.0.now a.1.0.now) f calls) in
      IsNonDecreasingBy-from_all_adjacent number xs
      (λ k d inside. not_more (number (get_or xs k d)) (number (get_or xs (k + 1) d))
      (if_yes _ _ holds answer k d inside))
