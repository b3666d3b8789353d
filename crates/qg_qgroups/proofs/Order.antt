-- Numbers in strictly ascending lists.
use Rattle.std.proofs.Common.{◌≡◌, ℕ, ◌-◌, ◌<◌, ◌≤◌, ◌^◌, Bool, true, false, List, [], ◌∷◌, ◌++◌, refl, sym, ap, subst}
use Rattle.std.proofs.Common.{◌∙◌, arith, inl, inr, ◌⊎◌, max}
use Rattle.std.specs.Prelude.{◌&&◌, ◌==◌}
use Rattle.std.specs.List.{AllByRecursion, filter}
use Rattle.std.specs.List.Sorted.{IsStrictlySortedBy}
use Rattle.std.specs.Ordering.{nat_cmp}
use Rattle.std.proofs.lemmas.List.Kept.{IsStrictlyIncreasing-filter}
use Rattle.std.specs.declared.cmp.Ordering.TheVariants.{Less}
use Rattle.std.proofs.lemmas.Bool.{true≢false}
use Rattle.std.proofs.lemmas.Bool.Decides.{nat_tests}
use Rattle.std.proofs.lemmas.List.Folds.{list_any-append}
use Rattle.std.proofs.lemmas.Map.Keys.{sorted_head, sorted_tail, sorted_from_strictly_increasing}
use Rattle.std.proofs.lemmas.Map.Keys.{IsStrictlyIncreasing-from_sorted}
use Rattle.std.proofs.lemmas.Map.Views.{any-filter_same}
use Rattle.qg_qgroups.specs.Groups.{has_number}
use Rattle.qg_qgroups.proofs.Lists.{same_tests}
use Rattle.qg_qgroups.proofs.Sets.{number_is}
use Rattle.qg_qgroups.proofs.Related.{or_cases, or_left, or_right, same_number}

less_is : (a b : ℕ) → nat_cmp a b ≡ Less → a < b
less_is a b less = grind (arith, nat_tests)

less_says : (a b : ℕ) → a < b → nat_cmp a b ≡ Less
less_says a b less = grind (arith, nat_tests)

pub sorted_none : IsStrictlySortedBy nat_cmp []
unfolding IsStrictlySortedBy
sorted_none = tt

-- the first is less than all others
pub first_least : (x : ℕ) (xs : List ℕ) → IsStrictlySortedBy nat_cmp (x ∷ xs) → (n : ℕ) → has_number n xs ≡ true → x < n
first_least x xs ascend = each xs (sorted_head nat_cmp x xs ascend) where
  each : (ys : List ℕ) → AllByRecursion (λ y. nat_cmp x y ≡ Less) ys → (n : ℕ) → has_number n ys ≡ true → x < n
  each [] all n has = absurd (true≢false (sym has))
  each (y ∷ ys) all n has = elim (or_cases (y == n) (has_number n ys) has) [
    | inl here ↦ subst (λ (m : ℕ). x < m) (number_is y n here) (less_is x y all.0)
    | inr later ↦ each ys all.1 n later
  ]

pub has_first : (x : ℕ) (xs : List ℕ) → has_number x (x ∷ xs) ≡ true
has_first x xs = or_left (x == x) (has_number x xs) (same_number x)

-- lists that ascend and have the same numbers are one
pub same_numbers : (xs ys : List ℕ) → IsStrictlySortedBy nat_cmp xs → IsStrictlySortedBy nat_cmp ys
    → ((n : ℕ) → has_number n xs ≡ has_number n ys) → xs ≡ ys
same_numbers [] [] up up' same = refl
same_numbers [] (y ∷ ys) up up' same = absurd (true≢false (sym (has_first y ys) ∙ sym (same y)))
same_numbers (x ∷ xs) [] up up' same = absurd (true≢false (sym (has_first x xs) ∙ same x))
same_numbers (x ∷ xs) (y ∷ ys) up up' same =
    let is : x ≡ y = first_same in
    let rest : xs ≡ ys = same_numbers xs ys (sorted_tail nat_cmp x xs up) (sorted_tail nat_cmp y ys up')
    (λ n. same_tests (has_number n xs) (has_number n ys) (there n is) (back n is)) in
    ap (λ (n : ℕ). n ∷ xs) is ∙ ap (λ (ns : List ℕ). y ∷ ns) rest where
      first_same : x ≡ y
      first_same = elim (or_cases (y == x) (has_number x ys) (sym (same x) ∙ has_first x xs)) [
        | inl here ↦ sym (number_is y x here)
        | inr later ↦ elim (or_cases (x == y) (has_number y xs) (same y ∙ has_first y ys)) [
          | inl here ↦ number_is x y here
          | inr other ↦ absurd (omega (arith, first_least y ys up' x later, first_least x xs up y other))
        ]
      ]

      there : (n : ℕ) → x ≡ y → has_number n xs ≡ true → has_number n ys ≡ true
      there n is has = elim (or_cases (y == n) (has_number n ys) (sym (same n)
          ∙ or_right (x == n) (has_number n xs) has)) [
            | inl here ↦ absurd (omega (arith, first_least x xs up n has, number_is y n here, is))
            | inr later ↦ later
          ]

      back : (n : ℕ) → x ≡ y → has_number n ys ≡ true → has_number n xs ≡ true
      back n is has = elim (or_cases (x == n) (has_number n xs) (same n ∙ or_right (y == n) (has_number n ys) has)) [
        | inl here ↦ absurd (omega (arith, first_least y ys up' n has, number_is x n here, is))
        | inr later ↦ later
      ]

-- ---- one more at the end

pub has_end : (n x : ℕ) (xs : List ℕ) → has_number n (xs ++ x ∷ []) ≡ true → (has_number n xs ≡ true) ⊎ (x ≡ n)
has_end n x xs has = elim (or_cases (has_number n xs) (has_number n (x ∷ []))
    (sym (list_any-append (λ m. m == n) xs (x ∷ [])) ∙ has)) [
      | inl before ↦ inl before
      | inr end ↦ elim (or_cases (x == n) false end) [
        | inl here ↦ inr (number_is x n here)
        | inr none ↦ absurd (true≢false (sym none))
      ]
    ]

pub still_has : (n x : ℕ) (xs : List ℕ) → has_number n xs ≡ true → has_number n (xs ++ x ∷ []) ≡ true
still_has n x xs has = list_any-append (λ m. m == n) xs (x ∷ []) ∙ or_left (has_number n xs) (has_number n (x ∷ [])) has

pub now_has : (x : ℕ) (xs : List ℕ) → has_number x (xs ++ x ∷ []) ≡ true
now_has x xs = list_any-append (λ m. m == x) xs (x ∷ [])
    ∙ or_right (has_number x xs) (has_number x (x ∷ [])) (has_first x [])

pub sorted_end : (x : ℕ) (xs : List ℕ) → IsStrictlySortedBy nat_cmp xs → ((n : ℕ) → has_number n xs ≡ true → n < x)
    → IsStrictlySortedBy nat_cmp (xs ++ x ∷ [])
unfolding IsStrictlySortedBy
sorted_end x [] up all = (tt, tt)
sorted_end x (y ∷ ys) up all =
    (each ys up.0, sorted_end x ys up.1 (λ n has. all n (or_right (y == n) (has_number n ys) has))) where
      each : (zs : List ℕ) → AllByRecursion (λ z. nat_cmp y z ≡ Less) zs
          → AllByRecursion (λ z. nat_cmp y z ≡ Less) (zs ++ x ∷ [])
      each [] less = (less_says y x (all y (has_first y ys)), tt)
      each (z ∷ zs) less = (less.0, each zs less.1)

-- ---- those that pass

pub sorted_filter : (p : ℕ → Bool) (xs : List ℕ) → IsStrictlySortedBy nat_cmp xs
    → IsStrictlySortedBy nat_cmp (filter p xs)
sorted_filter p xs up = sorted_from_strictly_increasing (filter p xs)
    (IsStrictlyIncreasing-filter p xs (IsStrictlyIncreasing-from_sorted xs up))

pub has_filter : (p : ℕ → Bool) (n : ℕ) (xs : List ℕ) → has_number n (filter p xs) ≡ (p n && has_number n xs)
has_filter p n xs = any-filter_same (λ m. m == n) p (p n) (λ m same. ap p (number_is m n same)) xs

-- ---- measures

-- the first number, and 2^64 where there is none
abbrev pub first_of : List ℕ → ℕ
first_of [] = 2 ^ 64
first_of (x ∷ xs) = x

pub first_rises : (x : ℕ) (xs : List ℕ) → x < 2 ^ 64 → ((n : ℕ) → has_number n xs ≡ true → x < n)
    → 2 ^ 64 - first_of xs < 2 ^ 64 - x
first_rises x [] fits all = omega (arith, fits)
first_rises x (y ∷ ys) fits all = omega (arith, fits, all y (has_first y ys))

-- the greatest number, and 0 where there is none
abbrev pub greatest_of : List ℕ → ℕ
greatest_of [] = 0
greatest_of (x ∷ xs) = max x (greatest_of xs)

pub greatest_falls : (n : ℕ) (xs : List ℕ) → 0 < n → ((m : ℕ) → has_number m xs ≡ true → m < n) → greatest_of xs < n
greatest_falls n [] some all = some
greatest_falls n (x ∷ xs) some all =
    omega (
      arith,
      all x (has_first x xs),
      greatest_falls n xs some
          (λ m has. all m (or_right (x == m) (has_number m xs) has)),
    )

pub greatest_above : (n : ℕ) (xs : List ℕ) → has_number n xs ≡ true → n ≤ greatest_of xs
greatest_above n [] has = absurd (true≢false (sym has))
greatest_above n (x ∷ xs) has = elim (or_cases (x == n) (has_number n xs) has) [
  | inl here ↦ omega (arith, number_is x n here)
  | inr later ↦ omega (arith, greatest_above n xs later)
]
