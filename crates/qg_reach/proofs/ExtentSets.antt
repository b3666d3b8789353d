-- Extents as a set: ascending, each once.
use Rattle.std.proofs.Common.{◌≡◌, ◌≢◌, ℕ, ◌+◌, ◌-◌, ◌<◌, true, false, List, [], ◌∷◌, ◌++◌, length, get_or, take, refl}
use Rattle.std.proofs.Common.{sym, ap, subst, ◌∙◌, arith, ◌⊎◌, inl, inr}
use Rattle.std.specs.List.{Contains, fold}
use Rattle.std.specs.List.Sorted.{IsSortedBy}
use Rattle.std.proofs.lemmas.Bool.{cond-true, cond-false, true≢false}
use Rattle.std.proofs.lemmas.List.{get_or-take, get_or_default, get_or_read, length-take-le}
use Rattle.std.proofs.lemmas.List.Sums.{fold_more}
use Rattle.std.proofs.lemmas.List.Sorted.{sorted_far}
use Rattle.qg_image.specs.declared.element.Element.{Element}
use Rattle.qg_image.proofs.Contained.{none_contained, contains_here, contains_later, contains_cases}
use Rattle.qg_image.specs.Verdict.{is_before, same_extent, with_extent, extent_set}
use Rattle.qg_reach.specs.Sets.{HaveSame}
use Rattle.qg_reach.proofs.Members.{same_back, same_on}
use Rattle.qg_reach.proofs.Order.{before_chain, before_one_way, before_not_itself, same_itself, same_extent_is}
use Rattle.qg_reach.proofs.Order.{not_same, order_cases, order_of_extents, not_after}

-- each extent comes before all later ones
abbrev pub Ascends : List Element → Type 0
Ascends [] = Unit {0}
Ascends (x ∷ xs) = ((y : Element) → Contains xs y → is_before x y ≡ true) × Ascends xs

never_itself : (x : Element) → is_before x x ≡ true → ⊥
never_itself x h = true≢false (sym h ∙ before_not_itself x)

-- lists that ascend and have the same extents are one
pub same_ascending : (xs ys : List Element) → Ascends xs → Ascends ys → HaveSame xs ys → xs ≡ ys
same_ascending [] [] up up' same = refl
same_ascending [] (y ∷ ys) up up' same = absurd (none_contained y (same.back y (contains_here y ys)))
same_ascending (x ∷ xs) [] up up' same = absurd (none_contained x (same.into x (contains_here x xs)))
same_ascending (x ∷ xs) (y ∷ ys) up up' same =
    let rest = same_ascending xs ys up.1 up'.1 (record { into = into; back = back }) in
    let first = heads in
    cc
  where
    heads : x ≡ y
    heads = elim (contains_cases y ys x (same.into x (contains_here x xs))) [
      | inl is ↦ sym is
      | inr later ↦ elim (contains_cases x xs y (same.back y (contains_here y ys))) [
        | inl is ↦ is
        | inr later' ↦ absurd (true≢false (sym (up'.0 x later) ∙ before_one_way x y (up.0 y later')))
      ]
    ]

    into : (z : Element) → Contains xs z → Contains ys z
    into z has = elim (contains_cases y ys z (same.into z (contains_later x xs z has))) [
      | inl is ↦ absurd (never_itself z (subst (λ w. is_before w z ≡ true) (heads ∙ is) (up.0 z has)))
      | inr later ↦ later
    ]

    back : (z : Element) → Contains ys z → Contains xs z
    back z has = elim (contains_cases x xs z (same.back z (contains_later y ys z has))) [
      | inl is ↦ absurd (never_itself z (subst (λ w. is_before w z ≡ true) (sym heads ∙ is) (up'.0 z has)))
      | inr later ↦ later
    ]

-- ---- with one more extent

with_before : (x o : Element) (os : List Element) → is_before x o ≡ true → with_extent x (o ∷ os) ≡ x ∷ o ∷ os
with_before x o os h = cond-true _ _ _ h

with_same : (x o : Element) (os : List Element) → x ≡ o → with_extent x (o ∷ os) ≡ o ∷ os
with_same x o os h =
    cond-false _ _ _ (subst (λ w. is_before x w ≡ false) h (before_not_itself x))
    ∙ cond-true _ _ _ (subst (λ w. same_extent x w ≡ true) h (same_itself x))

with_after : (x o : Element) (os : List Element) → is_before o x ≡ true → with_extent x (o ∷ os) ≡ o ∷ with_extent x os
with_after x o os h = cond-false _ _ _ (before_one_way o x h) ∙ cond-false _ _ _ (not_same x o h)

-- an extent that is there already
pub with_member : (x : Element) (set : List Element) → Ascends set → Contains set x → with_extent x set ≡ set
with_member x [] up has = absurd (none_contained x has)
with_member x (o ∷ os) up has = elim (contains_cases o os x has) [
  | inl is ↦ with_same x o os (sym is)
  | inr later ↦ with_after x o os (up.0 x later) ∙ ap (λ set. o ∷ set) (with_member x os up.1 later)
]

-- an extent past all others
pub with_last : (x : Element) (set : List Element) → ((y : Element) → Contains set y → is_before y x ≡ true)
    → with_extent x set ≡ set ++ x ∷ []
with_last x [] past = refl
with_last x (o ∷ os) past =
    with_after x o os (past o (contains_here o os))
    ∙ ap (λ set. o ∷ set) (with_last x os (λ y has. past y (contains_later o os y has)))

with_has : (x : Element) (set : List Element) → Contains (with_extent x set) x
with_has x [] = contains_here x []
with_has x (o ∷ os) = elim (order_cases x o) [
  | inl before ↦ subst (λ set. Contains set x) (sym (with_before x o os before)) (contains_here x (o ∷ os))
  | inr rest ↦ elim rest [
    | inl is ↦ subst (λ set. Contains set x) (sym (with_same x o os is))
        (subst (λ w. Contains (w ∷ os) x) is (contains_here x os))
    | inr after ↦ subst (λ set. Contains set x) (sym (with_after x o os after))
        (contains_later o (with_extent x os) x (with_has x os))
  ]
]

with_keeps : (x : Element) (set : List Element) (y : Element) → Contains set y → Contains (with_extent x set) y
with_keeps x [] y has = absurd (none_contained y has)
with_keeps x (o ∷ os) y has = elim (order_cases x o) [
  | inl before ↦ subst (λ set. Contains set y) (sym (with_before x o os before)) (contains_later x (o ∷ os) y has)
  | inr rest ↦ elim rest [
    | inl is ↦ subst (λ set. Contains set y) (sym (with_same x o os is)) has
    | inr after ↦ subst (λ set. Contains set y) (sym (with_after x o os after)) (elim (contains_cases o os y has) [
      | inl is ↦ subst (λ w. Contains (o ∷ with_extent x os) w) is (contains_here o (with_extent x os))
      | inr later ↦ contains_later o (with_extent x os) y (with_keeps x os y later)
    ])
  ]
]

with_only : (x : Element) (set : List Element) (y : Element) → Contains (with_extent x set) y → (x ≡ y) ⊎ Contains set y
with_only x [] y has = contains_cases x [] y has
with_only x (o ∷ os) y has = elim (order_cases x o) [
  | inl before ↦ contains_cases x (o ∷ os) y (subst (λ set. Contains set y) (with_before x o os before) has)
  | inr rest ↦ elim rest [
    | inl is ↦ inr (subst (λ set. Contains set y) (with_same x o os is) has)
    | inr after ↦ elim (contains_cases o (with_extent x os) y
        (subst (λ set. Contains set y) (with_after x o os after) has)) [
          | inl is ↦ inr (subst (λ w. Contains (o ∷ os) w) is (contains_here o os))
          | inr later ↦ elim (with_only x os y later) [ inl is ↦ inl is | inr has' ↦ inr (contains_later o os y has') ]
        ]
  ]
]

with_ascends : (x : Element) (set : List Element) → Ascends set → Ascends (with_extent x set)
with_ascends x [] up = (λ y has. absurd (none_contained y has), tt)
with_ascends x (o ∷ os) up = elim (order_cases x o) [
  | inl before ↦ subst Ascends (sym (with_before x o os before))
      (λ y has. past before y (contains_cases o os y has), up)
  | inr rest ↦ elim rest [
    | inl is ↦ subst Ascends (sym (with_same x o os is)) up
    | inr after ↦ subst Ascends (sym (with_after x o os after))
        (λ y has. above after y (with_only x os y has), with_ascends x os up.1)
  ]
] where
  past : is_before x o ≡ true → (y : Element) → (o ≡ y) ⊎ Contains os y → is_before x y ≡ true
  past before y (inl is) = subst (λ w. is_before x w ≡ true) is before
  past before y (inr later) = before_chain x o y before (up.0 y later)

  above : is_before o x ≡ true → (y : Element) → (x ≡ y) ⊎ Contains os y → is_before o y ≡ true
  above after y (inl is) = subst (λ w. is_before o w ≡ true) is after
  above after y (inr later) = up.0 y later

-- ---- the set

abbrev pub all_in : List Element → List Element → List Element
all_in set xs = fold (λ set extent. with_extent extent set) set xs

all_ascend : (set xs : List Element) → Ascends set → Ascends (all_in set xs)
all_ascend set [] up = up
all_ascend set (x ∷ xs) up = all_ascend (with_extent x set) xs (with_ascends x set up)

all_keep : (set xs : List Element) (y : Element) → Contains set y → Contains (all_in set xs) y
all_keep set [] y has = has
all_keep set (x ∷ xs) y has = all_keep (with_extent x set) xs y (with_keeps x set y has)

all_have : (set xs : List Element) (y : Element) → Contains xs y → Contains (all_in set xs) y
all_have set [] y has = absurd (none_contained y has)
all_have set (x ∷ xs) y has = elim (contains_cases x xs y has) [
  | inl is ↦ all_keep (with_extent x set) xs y (subst (λ w. Contains (with_extent x set) w) is (with_has x set))
  | inr later ↦ all_have (with_extent x set) xs y later
]

all_only : (set xs : List Element) (y : Element) → Contains (all_in set xs) y → Contains set y ⊎ Contains xs y
all_only set [] y has = inl has
all_only set (x ∷ xs) y has = told (all_only (with_extent x set) xs y has) where
  first : (x ≡ y) ⊎ Contains set y → Contains set y ⊎ Contains (x ∷ xs) y
  first (inl is) = inr (subst (λ w. Contains (x ∷ xs) w) is (contains_here x xs))
  first (inr has') = inl has'

  told : Contains (with_extent x set) y ⊎ Contains xs y → Contains set y ⊎ Contains (x ∷ xs) y
  told (inl has') = first (with_only x set y has')
  told (inr later) = inr (contains_later x xs y later)

pub extent_set_ascends : (xs : List Element) → Ascends (extent_set xs)
extent_set_ascends xs = all_ascend [] xs tt

pub extent_set_same : (xs : List Element) → HaveSame (extent_set xs) xs
extent_set_same xs = record {
  into = λ y has. named y (all_only [] xs y has);
  back = λ y has. all_have [] xs y has;
} where
  named : (y : Element) → Contains [] y ⊎ Contains xs y → Contains xs y
  named y (inl has) = absurd (none_contained y has)
  named y (inr has) = has

-- the set depends on which extents there are, and not on their order or how often they are named
pub extent_set_of_same : (xs ys : List Element) → HaveSame xs ys → extent_set xs ≡ extent_set ys
extent_set_of_same xs ys same =
    same_ascending (extent_set xs) (extent_set ys) (extent_set_ascends xs) (extent_set_ascends ys)
    (same_on _ _ _ (extent_set_same xs) (same_on _ _ _ same (same_back _ _ (extent_set_same ys))))

-- ---- of extents in order, one by one

-- the extent before, again
again : (xs : List Element) (i : ℕ) (x : Element) → 0 < i → i < length xs → x ≡ get_or xs i x → x ≡ get_or xs (i - 1) x
    → extent_set (take (i + 1) xs) ≡ extent_set (take i xs)
again xs i x some short is before =
    fold_more (λ set extent. with_extent extent set) [] xs i x short
    ∙ ap (λ w. with_extent w (extent_set (take i xs))) (sym is)
    ∙ with_member x (extent_set (take i xs)) (extent_set_ascends (take i xs))
    ((extent_set_same (take i xs)).back x there)
  where
    there : Contains (take i xs) x
    there = (
      i - 1,
      omega (arith, length-take-le i xs (omega arith)),
      get_or-take i xs (i - 1) x (omega arith)
          ∙ sym before,
    )

-- another extent than the one before it
other : (xs : List Element) (i : ℕ) (x : Element) → IsSortedBy is_before xs → i < length xs → x ≡ get_or xs i x
    → (0 < i → x ≢ get_or xs (i - 1) x)
    → extent_set (take (i + 1) xs) ≡ extent_set (take i xs) ++ x ∷ []
other xs i x sorted short is differs =
    fold_more (λ set extent. with_extent extent set) [] xs i x short
    ∙ ap (λ w. with_extent w (extent_set (take i xs))) (sym is)
    ∙ with_last x (extent_set (take i xs)) (λ y has. earlier y ((extent_set_same (take i xs)).into y has))
  where
    last_before : 0 < i → is_before (get_or xs (i - 1) x) x ≡ true
    last_before some = elim (order_cases (get_or xs (i - 1) x) x) [
      | inl before ↦ before
      | inr rest ↦ elim rest [
        | inl same ↦ absurd (differs some (sym same))
        | inr after ↦ absurd (true≢false (sym after ∙ subst (λ w. is_before w (get_or xs (i - 1) x) ≡ false) (sym is)
            (sorted_far is_before order_of_extents xs sorted (i - 1) i x (omega arith) short)))
      ]
    ]

    earlier : (y : Element) → Contains (take i xs) y → is_before y x ≡ true
    earlier y has =
        let within : has.0 < i = omega (arith, has.1, length-take-le i xs (omega arith)) in
        let at : get_or xs has.0 y ≡ y = sym (get_or-take i xs has.0 y within) ∙ has.2 in
        let far = sorted_far is_before order_of_extents xs sorted has.0 (i - 1) x (omega arith) (omega arith) in
        let here = get_or_default xs has.0 x y (omega arith) ∙ at in
        not_after y (get_or xs (i - 1) x) x (subst (λ w. is_before (get_or xs (i - 1) x) w ≡ false) here far)
        (last_before (omega arith))

-- ---- the three cases of one more extent, where `before` is the one before it

pub set_first : (xs : List Element) (i : ℕ) (x : Element) → IsSortedBy is_before xs → i < length xs → x ≡ get_or xs i x
    → i ≡ 0
    → extent_set (take (i + 1) xs) ≡ extent_set (take i xs) ++ x ∷ []
set_first xs i x sorted short is none = other xs i x sorted short is (λ some. absurd (omega arith))

pub set_next : (xs : List Element) (i : ℕ) (before x : Element) → IsSortedBy is_before xs → i < length xs
    → x ≡ get_or xs i x
    → before ≡ get_or xs (i - 1) before → same_extent before x ≡ false
    → extent_set (take (i + 1) xs) ≡ extent_set (take i xs) ++ x ∷ []
set_next xs i before x sorted short is there differ =
    other xs i x sorted short is
    (λ some same. true≢false
    (sym (subst (λ w. same_extent w x ≡ true) (same ∙ sym (get_or_read xs (i - 1) before (omega arith) there x))
    (same_itself x)) ∙ differ))

pub set_again : (xs : List Element) (i : ℕ) (before x : Element) → 0 < i → i < length xs → x ≡ get_or xs i x
    → before ≡ get_or xs (i - 1) before → same_extent before x ≡ true
    → extent_set (take (i + 1) xs) ≡ extent_set (take i xs)
set_again xs i before x some short is there same =
    again xs i x some short is (sym (same_extent_is before x same)
    ∙ get_or_read xs (i - 1) before (omega arith) there x)
