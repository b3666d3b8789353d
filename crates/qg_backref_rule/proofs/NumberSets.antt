-- The numbers of a list, ascending, each once.
use Rattle.std.proofs.Common.{◌≡◌, ℕ, ◌<◌, List, [], ◌∷◌, refl, sym, subst, ◌∙◌, arith, ◌⊎◌, inl, inr, ltb, ltb-true}
use Rattle.std.proofs.Common.{ltb-false}
use Rattle.std.specs.List.{Contains}
use Rattle.std.proofs.lemmas.Bool.{cases_Bool, cases_eq, cond-true, cond-false, eq-eqb, ne_eqb, lt-ltb, le-ltb}
use Rattle.qg_image.specs.Table.{with_number, number_set}
use Rattle.qg_image.proofs.Contained.{none_contained, contains_here, contains_later, contains_cases}
use Rattle.qg_reach.specs.Sets.{HaveSame}

-- each number is less than all later ones
abbrev pub Ascends : List ℕ → Type 0
Ascends [] = Unit {0}
Ascends (x ∷ xs) = ((y : ℕ) → Contains xs y → x < y) × Ascends xs

-- lists that ascend and have the same numbers are one
pub same_ascending : (xs ys : List ℕ) → Ascends xs → Ascends ys → HaveSame xs ys → xs ≡ ys
same_ascending [] [] up up' same = refl
same_ascending [] (y ∷ ys) up up' same = absurd (none_contained y (same.back y (contains_here y ys)))
same_ascending (x ∷ xs) [] up up' same = absurd (none_contained x (same.into x (contains_here x xs)))
same_ascending (x ∷ xs) (y ∷ ys) up up' same =
    let rest = same_ascending xs ys up.1 up'.1 (record { into = into; back = back }) in
    let first = heads in
    cc
  where
    heads : x ≡ y
    heads = elim (contains_cases y ys x (same.into x (contains_here x xs))) [
      | inl is ↦ sym is
      | inr later ↦ elim (contains_cases x xs y (same.back y (contains_here y ys))) [
        | inl is ↦ is
        | inr later' ↦ absurd (omega (arith, up.0 y later', up'.0 x later))
      ]
    ]

    into : (z : ℕ) → Contains xs z → Contains ys z
    into z has = elim (contains_cases y ys z (same.into z (contains_later x xs z has))) [
      | inl is ↦ absurd (omega (arith, heads, is, up.0 z has))
      | inr later ↦ later
    ]

    back : (z : ℕ) → Contains ys z → Contains xs z
    back z has = elim (contains_cases x xs z (same.back z (contains_later y ys z has))) [
      | inl is ↦ absurd (omega (arith, heads, is, up'.0 z has))
      | inr later ↦ later
    ]

-- ---- with one more number

with_before : (x o : ℕ) (os : List ℕ) → x < o → with_number x (o ∷ os) ≡ x ∷ o ∷ os
with_before x o os h = cond-true _ _ _ (lt-ltb x o h)

with_same : (x o : ℕ) (os : List ℕ) → x ≡ o → with_number x (o ∷ os) ≡ o ∷ os
with_same x o os h = cond-false _ _ _ (le-ltb x o (omega (arith, h))) ∙ cond-true _ _ _ (eq-eqb x o h)

with_after : (x o : ℕ) (os : List ℕ) → o < x → with_number x (o ∷ os) ≡ o ∷ with_number x os
with_after x o os h = cond-false _ _ _ (le-ltb x o (omega (arith, h)))
    ∙ cond-false _ _ _ (ne_eqb x o (λ is. omega (arith, h, is)))

order_cases : (x o : ℕ) → (x < o) ⊎ ((x ≡ o) ⊎ (o < x))
order_cases x o = elim (cases_Bool (ltb x o)) [
  | inl before ↦ inl (ltb-true x o before)
  | inr not ↦ elim (cases_eq x o) [
    | inl is ↦ inr (inl is)
    | inr differ ↦ inr (inr (omega (arith, ltb-false x o not, differ)))
  ]
]

with_has : (x : ℕ) (set : List ℕ) → Contains (with_number x set) x
with_has x [] = contains_here x []
with_has x (o ∷ os) = elim (order_cases x o) [
  | inl before ↦ subst (λ set. Contains set x) (sym (with_before x o os before)) (contains_here x (o ∷ os))
  | inr rest ↦ elim rest [
    | inl is ↦ subst (λ set. Contains set x) (sym (with_same x o os is))
        (subst (λ w. Contains (w ∷ os) x) is (contains_here x os))
    | inr after ↦ subst (λ set. Contains set x) (sym (with_after x o os after))
        (contains_later o (with_number x os) x (with_has x os))
  ]
]

with_keeps : (x : ℕ) (set : List ℕ) (y : ℕ) → Contains set y → Contains (with_number x set) y
with_keeps x [] y has = absurd (none_contained y has)
with_keeps x (o ∷ os) y has = elim (order_cases x o) [
  | inl before ↦ subst (λ set. Contains set y) (sym (with_before x o os before)) (contains_later x (o ∷ os) y has)
  | inr rest ↦ elim rest [
    | inl is ↦ subst (λ set. Contains set y) (sym (with_same x o os is)) has
    | inr after ↦ subst (λ set. Contains set y) (sym (with_after x o os after)) (elim (contains_cases o os y has) [
      | inl is ↦ subst (λ w. Contains (o ∷ with_number x os) w) is (contains_here o (with_number x os))
      | inr later ↦ contains_later o (with_number x os) y (with_keeps x os y later)
    ])
  ]
]

with_only : (x : ℕ) (set : List ℕ) (y : ℕ) → Contains (with_number x set) y → (x ≡ y) ⊎ Contains set y
with_only x [] y has = contains_cases x [] y has
with_only x (o ∷ os) y has = elim (order_cases x o) [
  | inl before ↦ contains_cases x (o ∷ os) y (subst (λ set. Contains set y) (with_before x o os before) has)
  | inr rest ↦ elim rest [
    | inl is ↦ inr (subst (λ set. Contains set y) (with_same x o os is) has)
    | inr after ↦ elim (contains_cases o (with_number x os) y
        (subst (λ set. Contains set y) (with_after x o os after) has)) [
          | inl is ↦ inr (subst (λ w. Contains (o ∷ os) w) is (contains_here o os))
          | inr later ↦ elim (with_only x os y later) [ inl is ↦ inl is | inr has' ↦ inr (contains_later o os y has') ]
        ]
  ]
]

with_ascends : (x : ℕ) (set : List ℕ) → Ascends set → Ascends (with_number x set)
with_ascends x [] up = (λ y has. absurd (none_contained y has), tt)
with_ascends x (o ∷ os) up = elim (order_cases x o) [
  | inl before ↦ subst Ascends (sym (with_before x o os before))
      (λ y has. past before y (contains_cases o os y has), up)
  | inr rest ↦ elim rest [
    | inl is ↦ subst Ascends (sym (with_same x o os is)) up
    | inr after ↦ subst Ascends (sym (with_after x o os after))
        (λ y has. above after y (with_only x os y has), with_ascends x os up.1)
  ]
] where
  past : x < o → (y : ℕ) → (o ≡ y) ⊎ Contains os y → x < y
  past before y (inl is) = omega (arith, before, is)
  past before y (inr later) = omega (arith, before, up.0 y later)

  above : o < x → (y : ℕ) → (x ≡ y) ⊎ Contains os y → o < y
  above after y (inl is) = omega (arith, after, is)
  above after y (inr later) = up.0 y later

-- ---- the set

pub number_set_ascends : (xs : List ℕ) → Ascends (number_set xs)
number_set_ascends [] = tt
number_set_ascends (x ∷ xs) = with_ascends x (number_set xs) (number_set_ascends xs)

set_into : (xs : List ℕ) (y : ℕ) → Contains (number_set xs) y → Contains xs y
set_into [] y has = has
set_into (x ∷ xs) y has = elim (with_only x (number_set xs) y has) [
  | inl is ↦ subst (λ w. Contains (x ∷ xs) w) is (contains_here x xs)
  | inr later ↦ contains_later x xs y (set_into xs y later)
]

set_back : (xs : List ℕ) (y : ℕ) → Contains xs y → Contains (number_set xs) y
set_back [] y has = has
set_back (x ∷ xs) y has = elim (contains_cases x xs y has) [
  | inl is ↦ subst (λ w. Contains (with_number x (number_set xs)) w) is (with_has x (number_set xs))
  | inr later ↦ with_keeps x (number_set xs) y (set_back xs y later)
]

pub number_set_same : (xs : List ℕ) → HaveSame (number_set xs) xs
number_set_same xs = record { into = set_into xs; back = set_back xs }

-- it depends on which numbers there are, and not on their order or how often they stand there
pub number_set_of_same : (xs ys : List ℕ) → HaveSame xs ys → number_set xs ≡ number_set ys
number_set_of_same xs ys same = same_ascending (number_set xs) (number_set ys) (number_set_ascends xs)
    (number_set_ascends ys) (record {
      into = λ y has. set_back ys y (same.into y (set_into xs y has));
      back = λ y has. set_back xs y (same.back y (set_into ys y has));
    })

-- the least number, and the set of those above it
pub number_set_least : (n : ℕ) (xs above : List ℕ) → Contains xs n
    → ((y : ℕ) → Contains xs y → (n ≡ y) ⊎ Contains above y)
    → ((y : ℕ) → Contains above y → Contains xs y) → ((y : ℕ) → Contains above y → n < y)
    → number_set xs ≡ n ∷ number_set above
number_set_least n xs above has split whole higher =
    same_ascending (number_set xs) (n ∷ number_set above) (number_set_ascends xs)
    (λ y later. higher y (set_into above y later), number_set_ascends above) (record { into = into; back = back })
  where
    into : (y : ℕ) → Contains (number_set xs) y → Contains (n ∷ number_set above) y
    into y there = elim (split y (set_into xs y there)) [
      | inl is ↦ subst (λ w. Contains (n ∷ number_set above) w) is (contains_here n (number_set above))
      | inr later ↦ contains_later n (number_set above) y (set_back above y later)
    ]

    back : (y : ℕ) → Contains (n ∷ number_set above) y → Contains (number_set xs) y
    back y there = elim (contains_cases n (number_set above) y there) [
      | inl is ↦ subst (λ w. Contains (number_set xs) w) is (set_back xs n has)
      | inr later ↦ set_back xs y (whole y (set_into above y later))
    ]
