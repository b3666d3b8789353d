-- Elements, each address once, and their bytes.
use Rattle.std.proofs.Common.{◌≡◌, ℕ, ◌+◌, Bool, true, false, List, [], ◌∷◌, ◌<◌, length, get_or, refl, sym, ap, subst}
use Rattle.std.proofs.Common.{◌∙◌, arith, inl, inr}
use Rattle.std.specs.Prelude.{◌==◌}
use Rattle.std.specs.List.{Contains, IsDistinct, remove}
use Rattle.std.specs.List.Sorted.{IsPermutation}
use Rattle.std.proofs.lemmas.Bool.{eqb-true, eq-eqb, ne_eqb, or_cases, or_left, or_right, cases_Bool, cond-true}
use Rattle.std.proofs.lemmas.Bool.{cond-false, true≢false}
use Rattle.std.proofs.lemmas.Bool.Decides.{nat_tests}
use Rattle.std.proofs.lemmas.List.Elements.{All-from_recursion, recursion_from_All, All-contains, Contains-get_or}
use Rattle.std.proofs.lemmas.List.Sums.{sum_by-cons, sum_by-remove}
use Rattle.std.proofs.lemmas.List.Sorted.{IsPermutation-remove, Contains-permutation, IsPermutation-sym}
use Rattle.std.proofs.lemmas.Map.Keys.{IsDistinct-head, IsDistinct-tail, IsDistinct-cons, IsDistinct-IsPermutation}
use Rattle.qg_image.specs.declared.element.Element.{Element}
use Rattle.qg_image.specs.Reach.{is_among, distinct}
use Rattle.qg_image.specs.Counts.{bytes_of}
use Rattle.qg_image.proofs.Contained.{none_contained, contains_here, contains_later, contains_cases}
use Rattle.qg_reach.specs.Sets.{HaveSame}
use Rattle.qg_reach.proofs.Members.{same_on}

-- two elements begin at one address
abbrev pub begin_alike : Element → Element → Bool
begin_alike a b = a.address == b.address

-- no two elements begin at one address
abbrev pub AreApart : List Element → Type 0
AreApart elements = IsDistinct begin_alike elements

-- ---- lists that are apart

pub apart_first : (x : Element) (xs : List Element) (y : Element) → AreApart (x ∷ xs) → Contains xs y
    → x.address ≡ y.address → ⊥
apart_first x xs y apart has same =
    let differ = All-contains (λ y. begin_alike x y ≡ false) xs y
    (All-from_recursion (λ y. begin_alike x y ≡ false) xs (IsDistinct-head begin_alike x xs apart)) has in
    true≢false (sym (eq-eqb x.address y.address same) ∙ differ)

pub apart_none : AreApart []
unfolding IsDistinct
apart_none = tt

pub apart_with : (x : Element) (xs : List Element) → ((y : Element) → Contains xs y → x.address ≡ y.address → ⊥)
    → AreApart xs → AreApart (x ∷ xs)
apart_with x xs other apart =
    IsDistinct-cons begin_alike x xs (recursion_from_All (λ y. begin_alike x y ≡ false) xs each) apart
  where
    each : (k : ℕ) (d : Element) → k < length xs → begin_alike x (get_or xs k d) ≡ false
    each k d short = ne_eqb x.address (get_or xs k d).address (other (get_or xs k d) (Contains-get_or xs k d short))

-- one address has one element
pub apart_same : (xs : List Element) (x y : Element) → AreApart xs → Contains xs x → Contains xs y
    → x.address ≡ y.address → x ≡ y
apart_same [] x y apart has has' same = absurd (none_contained x has)
apart_same (z ∷ zs) x y apart has has' same = elim (contains_cases z zs x has) [
  | inl is ↦ elim (contains_cases z zs y has') [
    | inl is' ↦ sym is ∙ is'
    | inr later' ↦ absurd (apart_first z zs y apart later' (ap (λ (e : Element). e.address) is ∙ same))
  ]
  | inr later ↦ elim (contains_cases z zs y has') [
    | inl is' ↦ absurd (apart_first z zs x apart later (ap (λ (e : Element). e.address) is' ∙ sym same))
    | inr later' ↦ apart_same zs x y (IsDistinct-tail begin_alike z zs apart) later later' same
  ]
]

-- lists of the same elements have the same bytes
pub bytes_of_same : (xs ys : List Element) → AreApart xs → AreApart ys → HaveSame xs ys → bytes_of xs ≡ bytes_of ys
bytes_of_same [] [] apart apart' same = refl
bytes_of_same [] (y ∷ ys) apart apart' same = absurd (none_contained y (same.back y (contains_here y ys)))
bytes_of_same (x ∷ xs) ys apart apart' same =
    let rest = bytes_of_same xs (remove ys has.0) (IsDistinct-tail begin_alike x xs apart)
    (IsDistinct-tail begin_alike x (remove ys has.0) apart'') others in
    sum_by-cons (λ (e : Element). e.bytes) x xs ∙ ap (λ n. x.bytes + n) rest
    ∙ omega (arith, sum_by-remove (λ (e : Element). e.bytes) ys has.0 x has.1, ap (λ (e : Element). e.bytes) has.2)
  where
    has : Contains ys x
    has = same.into x (contains_here x xs)

    moved : IsPermutation ys (x ∷ remove ys has.0)
    moved = IsPermutation-remove ys has.0 x has.1 (sym has.2)

    apart'' : AreApart (x ∷ remove ys has.0)
    apart'' = IsDistinct-IsPermutation begin_alike (λ a b. grind (arith, nat_tests)) ys (x ∷ remove ys has.0) moved
        apart'

    into : (z : Element) → Contains xs z → Contains (remove ys has.0) z
    into z later = elim (contains_cases x (remove ys has.0) z
        (Contains-permutation ys (x ∷ remove ys has.0) z moved (same.into z (contains_later x xs z later)))) [
          | inl is ↦ absurd (apart_first x xs z apart later (ap (λ (e : Element). e.address) is))
          | inr left ↦ left
        ]

    back : (z : Element) → Contains (remove ys has.0) z → Contains xs z
    back z left =
        let whole = Contains-permutation (x ∷ remove ys has.0) ys z (IsPermutation-sym ys (x ∷ remove ys has.0) moved)
        (contains_later x (remove ys has.0) z left) in
        elim (contains_cases x xs z (same.back z whole)) [
          | inl is ↦ absurd (apart_first x (remove ys has.0) z apart'' left (ap (λ (e : Element). e.address) is))
          | inr later ↦ later
        ]

    others : HaveSame xs (remove ys has.0)
    others = record { into = into; back = back }

-- ---- each address once

among : (xs : List Element) (y : Element) → Contains xs y → is_among y.address xs ≡ true
among [] y has = absurd (none_contained y has)
among (x ∷ xs) y has = elim (contains_cases x xs y has) [
  | inl is ↦ or_left (x.address == y.address) (is_among y.address xs)
      (eq-eqb x.address y.address (ap (λ (e : Element). e.address) is))
  | inr later ↦ or_right (x.address == y.address) (is_among y.address xs) (among xs y later)
]

-- the element that begins there
one_among : (xs : List Element) (address : ℕ) → is_among address xs ≡ true → (y : Element) × Contains xs y
    × (y.address ≡ address)
one_among [] address is = cc
one_among (x ∷ xs) address is = elim (or_cases (x.address == address) (is_among address xs) is) [
  | inl here ↦ (x, contains_here x xs, eqb-true x.address address here)
  | inr later ↦ let found = one_among xs address later in (found.0, contains_later x xs found.0 found.1, found.2)
]

distinct_only : (xs : List Element) (y : Element) → Contains (distinct xs) y → Contains xs y
distinct_only [] y has = has
distinct_only (x ∷ xs) y has = elim (cases_Bool (is_among x.address xs)) [
  | inl is ↦ contains_later x xs y (distinct_only xs y (subst (λ zs. Contains zs y) (cond-true _ _ _ is) has))
  | inr not' ↦ elim (contains_cases x (distinct xs) y (subst (λ zs. Contains zs y) (cond-false _ _ _ not') has)) [
    | inl is ↦ subst (λ z. Contains (x ∷ xs) z) is (contains_here x xs)
    | inr later ↦ contains_later x xs y (distinct_only xs y later)
  ]
]

distinct_apart : (xs : List Element) → AreApart (distinct xs)
distinct_apart [] = apart_none
distinct_apart (x ∷ xs) = elim (cases_Bool (is_among x.address xs)) [
  | inl is ↦ subst AreApart (sym (cond-true _ _ _ is)) (distinct_apart xs)
  | inr not' ↦ subst AreApart (sym (cond-false _ _ _ not'))
      (apart_with x (distinct xs)
      (λ y has same. true≢false
      (sym (subst (λ a. is_among a xs ≡ true) (sym same) (among xs y (distinct_only xs y has))) ∙ not'))
      (distinct_apart xs))
]

-- one address has one element
abbrev Agree : List Element → Type 0
Agree xs = (x y : Element) → Contains xs x → Contains xs y → x.address ≡ y.address → x ≡ y

distinct_all : (xs : List Element) (y : Element) → Agree xs → Contains xs y → Contains (distinct xs) y
distinct_all [] y agree has = has
distinct_all (x ∷ xs) y agree has =
    let agree' : Agree xs = λ a b has' has'' same. agree a b (contains_later x xs a has') (contains_later x xs b has'')
    same in
    elim (cases_Bool (is_among x.address xs)) [
      | inl is ↦ subst (λ zs. Contains zs y) (sym (cond-true _ _ _ is)) (elim (contains_cases x xs y has) [
        | inl here ↦
            let found = one_among xs x.address is in
            let same = agree found.0 x (contains_later x xs found.0 found.1) (contains_here x xs) found.2 in
            distinct_all xs y agree' (subst (λ z. Contains xs z) (same ∙ here) found.1)
        | inr later ↦ distinct_all xs y agree' later
      ])
      | inr not' ↦ subst (λ zs. Contains zs y) (sym (cond-false _ _ _ not')) (elim (contains_cases x xs y has) [
        | inl here ↦ subst (λ z. Contains (x ∷ distinct xs) z) here (contains_here x (distinct xs))
        | inr later ↦ contains_later x (distinct xs) y (distinct_all xs y agree' later)
      ])
    ]

-- elements, each address once, have the bytes of any list of the same elements that are apart
pub bytes_of_distinct : (xs ys : List Element) → AreApart ys → HaveSame xs ys → bytes_of (distinct xs) ≡ bytes_of ys
bytes_of_distinct xs ys apart same =
    bytes_of_same (distinct xs) ys (distinct_apart xs) apart
    (same_on (distinct xs) xs ys (record { into = distinct_only xs; back = λ y has. distinct_all xs y agree has })
    same)
  where
    agree : Agree xs
    agree x y has has' alike = apart_same ys x y apart (same.into x has) (same.into y has') alike
