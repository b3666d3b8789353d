-- What lists of runs and of slots contain, before and after an edit. Addresses and lengths are in bytes.
use Rattle.std.proofs.Common.{◌≡◌, ℕ, Bool, true, List, [], ◌∷◌, ◌++◌, refl, sym, ap, subst, ◌∙◌, ◌⊎◌, inl, inr}
use Rattle.std.specs.Prelude.{◌≢◌, ◌↔◌, ◌==◌, not, nat_le, nat_lt}
use Rattle.std.specs.List.{Contains, filter, list_any}
use Rattle.std.proofs.lemmas.Bool.{and_parts, and_from, or_cases, cases_Bool, cond_both, cond-true, cond-false}
use Rattle.std.proofs.lemmas.Bool.{eqb-true, eq-eqb, not-true, not_from_false, false_from_ne_true, true≢false}
use Rattle.std.proofs.lemmas.List.Elements.{Contains-append_left, Contains-append_right, Contains-append_cases}
use Rattle.std.proofs.lemmas.List.Folds.{list_any_at}
use Rattle.qg_image.specs.Table.{with_number}
use Rattle.qg_image.specs.declared.element.Element.{Element}
use Rattle.qg_image.proofs.Contained.{none_contained, contains_here, contains_later, contains_cases}
use Rattle.qg_space.specs.Holding.{Holding, is_one_of, is_that_run, has_run, with_run, without_run, without_runs}
use Rattle.qg_space.specs.Holding.{has_slot, without_slot}

-- ---- tests

pub one_passes : {A : Type 0} (p : A → Bool) (xs : List A) → list_any p xs ≡ true
    → (x : A) × Contains xs x × (p x ≡ true)
one_passes p [] is = absurd (true≢false (sym is))
one_passes p (x ∷ xs) is = elim (or_cases (p x) (list_any p xs) is) [
  | inl here ↦ (x, contains_here x xs, here)
  | inr later ↦ let found = one_passes p xs later in (found.0, contains_later x xs found.0 found.1, found.2)
]

pub passes_one : {A : Type 0} (p : A → Bool) (xs : List A) (x : A) → Contains xs x → p x ≡ true → list_any p xs ≡ true
passes_one p xs x has passes = list_any_at p xs has.0 x has.1 (ap p has.2 ∙ passes)

-- lists of the same elements pass a test alike
pub any_same : {A : Type 0} (p : A → Bool) (xs ys : List A) → ((x : A) → Contains xs x ↔ Contains ys x)
    → list_any p xs ≡ list_any p ys
any_same p xs ys same = elim (cases_Bool (list_any p ys)) [
  | inl is ↦ let found = one_passes p ys is in passes_one p xs found.0 ((same found.0).1 found.1) found.2 ∙ sym is
  | inr fails ↦
      false_from_ne_true (list_any p xs)
      (λ is. let found = one_passes p xs is in
      true≢false (sym (passes_one p ys found.0 ((same found.0).0 found.1) found.2) ∙ fails))
      ∙ sym fails
]

pub same_appended : {A : Type 0} (xs ys xs' ys' : List A) → ((x : A) → Contains xs x ↔ Contains ys x)
    → ((x : A) → Contains xs' x ↔ Contains ys' x)
    → (x : A) → Contains (xs ++ xs') x ↔ Contains (ys ++ ys') x
same_appended xs ys xs' ys' first second x = (into, back) where
  into : Contains (xs ++ xs') x → Contains (ys ++ ys') x
  into has = elim (Contains-append_cases xs xs' x has) [
    | inl here ↦ Contains-append_left ys ys' x ((first x).0 here)
    | inr there ↦ Contains-append_right ys ys' x ((second x).0 there)
  ]

  back : Contains (ys ++ ys') x → Contains (xs ++ xs') x
  back has = elim (Contains-append_cases ys ys' x has) [
    | inl here ↦ Contains-append_left xs xs' x ((first x).1 here)
    | inr there ↦ Contains-append_right xs xs' x ((second x).1 there)
  ]

-- ---- a filter

pub contains_filter : {A : Type 0} (p : A → Bool) (xs : List A) (x : A) → Contains xs x → p x ≡ true
    → Contains (filter p xs) x
contains_filter p [] x has passes = absurd (none_contained x has)
contains_filter {A} p (y ∷ ys) x has passes = elim (contains_cases y ys x has) [
  | inl is ↦
      let Has : List A → Type 0 = λ zs. Contains zs x in
      subst Has (sym (cond-true (p y) (y ∷ filter p ys) (filter p ys) (ap p is ∙ passes)))
      (subst (λ z. Contains (z ∷ filter p ys) x) (sym is) (contains_here x (filter p ys)))
  | inr later ↦
      cond_both (p y) (y ∷ filter p ys) (filter p ys) (λ zs. Contains zs x)
      (λ also. contains_later y (filter p ys) x (contains_filter p ys x later passes))
      (λ fails. contains_filter p ys x later passes)
]

pub filter_contains : {A : Type 0} (p : A → Bool) (xs : List A) (x : A) → Contains (filter p xs) x
    → Contains xs x × (p x ≡ true)
filter_contains p [] x has = absurd (none_contained x has)
filter_contains {A} p (y ∷ ys) x has = elim (cases_Bool (p y)) [
  | inl passes ↦ elim (contains_cases y (filter p ys) x
      (subst (λ zs. Contains zs x) (cond-true (p y) (y ∷ filter p ys) (filter p ys) passes) has)) [
        | inl is ↦ (subst (λ z. Contains (z ∷ ys) x) (sym is) (contains_here x ys), sym (ap p is) ∙ passes)
        | inr later ↦ let found = filter_contains p ys x later in (contains_later y ys x found.0, found.1)
      ]
  | inr fails ↦
      let found = filter_contains p ys x
      (subst (λ zs. Contains zs x) (cond-false (p y) (y ∷ filter p ys) (filter p ys) fails) has) in
      (contains_later y ys x found.0, found.1)
]

-- ---- runs

pub that_run : (address bytes : ℕ) (extent : Element) → is_that_run address bytes extent ≡ true
    → extent ≡ record { address = address; bytes = bytes }
that_run address bytes extent is =
    let parts = and_parts (extent.address == address) (extent.bytes == bytes) is in
    let Run : ℕ → ℕ → Element = λ a b. record { address = a; bytes = b } in
    ap (λ a. Run a extent.bytes) (eqb-true extent.address address parts.0)
    ∙ ap (λ b. Run address b) (eqb-true extent.bytes bytes parts.1)

pub is_that : (address bytes : ℕ) → is_that_run address bytes (record { address = address; bytes = bytes }) ≡ true
is_that address bytes = and_from (address == address) (bytes == bytes) (eq-eqb address address refl)
    (eq-eqb bytes bytes refl)

-- the present state has a run where its runs contain it
pub Contains-has_run : (holding : Holding) (address bytes : ℕ) → (has_run holding address bytes ≡ true)
    ↔ Contains holding.runs (record { address = address; bytes = bytes })
Contains-has_run holding address bytes = (
  into,
  λ has. passes_one (is_that_run address bytes) holding.runs (record { address = address; bytes = bytes }) has
      (is_that address bytes),
) where
  into : has_run holding address bytes ≡ true → Contains holding.runs (record { address = address; bytes = bytes })
  into has = let found = one_passes (is_that_run address bytes) holding.runs has in
      subst (λ x. Contains holding.runs x) (that_run address bytes found.0 found.2) found.1

with_run_into : (run : Element) (runs : List Element) (x : Element) → Contains (with_run run runs) x
    → (x ≡ run) ⊎ Contains runs x
with_run_into run [] x has = elim (contains_cases run [] x has) [ inl is ↦ inl (sym is) | inr none ↦ inr none ]
with_run_into run (first ∷ later) x has = elim (cases_Bool (nat_le run.address first.address)) [
  | inl before ↦
      let here = subst (λ zs. Contains zs x) (cond-true _ (run ∷ first ∷ later) (first ∷ with_run run later) before)
      has in
      elim (contains_cases run (first ∷ later) x here) [ inl is ↦ inl (sym is) | inr other ↦ inr other ]
  | inr after ↦
      let there = subst (λ zs. Contains zs x) (cond-false _ (run ∷ first ∷ later) (first ∷ with_run run later) after)
      has in
      elim (contains_cases first (with_run run later) x there) [
        | inl is ↦ inr (subst (λ z. Contains (z ∷ later) x) (sym is) (contains_here x later))
        | inr rest ↦ elim (with_run_into run later x rest) [
          | inl is ↦ inl is
          | inr has' ↦ inr (contains_later first later x has')
        ]
      ]
]

with_run_itself : (run : Element) (runs : List Element) → Contains (with_run run runs) run
with_run_itself run [] = contains_here run []
with_run_itself run (first ∷ later) =
    cond_both (nat_le run.address first.address) (run ∷ first ∷ later) (first ∷ with_run run later)
    (λ zs. Contains zs run) (λ before. contains_here run (first ∷ later))
    (λ after. contains_later first (with_run run later) run (with_run_itself run later))

with_run_others : (run : Element) (runs : List Element) (x : Element) → Contains runs x → Contains (with_run run runs) x
with_run_others run [] x has = absurd (none_contained x has)
with_run_others run (first ∷ later) x has =
    cond_both (nat_le run.address first.address) (run ∷ first ∷ later) (first ∷ with_run run later)
    (λ zs. Contains zs x) (λ before. contains_later run (first ∷ later) x has)
    (λ after. elim (contains_cases first later x has) [
      | inl is ↦ subst (λ z. Contains (z ∷ with_run run later) x) (sym is) (contains_here x (with_run run later))
      | inr rest ↦ contains_later first (with_run run later) x (with_run_others run later x rest)
    ])

-- runs with another one contain it and themselves
pub Contains-with_run : (run : Element) (runs : List Element) (x : Element) → Contains (with_run run runs) x
    ↔ ((x ≡ run) ⊎ Contains runs x)
Contains-with_run run runs x = (with_run_into run runs x, back) where
  back : (x ≡ run) ⊎ Contains runs x → Contains (with_run run runs) x
  back (inl is) = subst (λ z. Contains (with_run run runs) z) (sym is) (with_run_itself run runs)
  back (inr has) = with_run_others run runs x has

-- runs without one contain all others
pub Contains-without_run : (address bytes : ℕ) (runs : List Element) (x : Element)
    → Contains (without_run address bytes runs) x
    ↔ (Contains runs x × (x ≢ record { address = address; bytes = bytes }))
Contains-without_run address bytes runs x = (into, back) where
  into : Contains (without_run address bytes runs) x
      → Contains runs x × (x ≢ record { address = address; bytes = bytes })
  into has =
      let found = filter_contains (λ run. not (is_that_run address bytes run)) runs x has in (
        found.0,
        λ is. true≢false (sym (ap (is_that_run address bytes) is ∙ is_that address bytes)
            ∙ not-true (is_that_run address bytes x) found.1),
      )

  back : Contains runs x × (x ≢ record { address = address; bytes = bytes })
      → Contains (without_run address bytes runs) x
  back has = contains_filter (λ run. not (is_that_run address bytes run)) runs x has.0
      (not_from_false (is_that_run address bytes x)
      (false_from_ne_true (is_that_run address bytes x) (λ is. has.1 (that_run address bytes x is))))

-- a run is one of some extents where they contain it
pub Contains-is_one_of : (extents : List Element) (run : Element) → (is_one_of extents run ≡ true)
    ↔ Contains extents run
Contains-is_one_of extents run = (into, λ has. passes_one that extents run has (is_that run.address run.bytes)) where
  that : Element → Bool
  that extent = is_that_run extent.address extent.bytes run

  into : is_one_of extents run ≡ true → Contains extents run
  into is = let found = one_passes that extents is in
      subst (λ x. Contains extents x) (sym (that_run found.0.address found.0.bytes run found.2)) found.1

-- runs without some contain all others
pub Contains-without_runs : (gone runs : List Element) (x : Element) → Contains (without_runs gone runs) x
    ↔ (Contains runs x × (Contains gone x → ⊥))
Contains-without_runs gone runs x = (into, back) where
  into : Contains (without_runs gone runs) x → Contains runs x × (Contains gone x → ⊥)
  into has =
      let found = filter_contains (λ run. not (is_one_of gone run)) runs x has in
      (found.0, λ went. true≢false (sym ((Contains-is_one_of gone x).1 went) ∙ not-true (is_one_of gone x) found.1))

  back : Contains runs x × (Contains gone x → ⊥) → Contains (without_runs gone runs) x
  back has = contains_filter (λ run. not (is_one_of gone run)) runs x has.0
      (not_from_false (is_one_of gone x)
      (false_from_ne_true (is_one_of gone x) (λ is. has.1 ((Contains-is_one_of gone x).0 is))))

-- ---- slots

-- the present state has a slot where its slots contain it
pub Contains-has_slot : (holding : Holding) (address : ℕ) → (has_slot holding address ≡ true)
    ↔ Contains holding.slots address
Contains-has_slot holding address =
    (into, λ has. passes_one (λ slot. slot == address) holding.slots address has (eq-eqb address address refl)) where
      into : has_slot holding address ≡ true → Contains holding.slots address
      into has = let found = one_passes (λ slot. slot == address) holding.slots has in
          subst (λ n. Contains holding.slots n) (eqb-true found.0 address found.2) found.1

with_number_into : (n : ℕ) (ns : List ℕ) (m : ℕ) → Contains (with_number n ns) m → (m ≡ n) ⊎ Contains ns m
with_number_into n [] m has = elim (contains_cases n [] m has) [ inl is ↦ inl (sym is) | inr none ↦ inr none ]
with_number_into n (k ∷ ks) m has = elim (cases_Bool (nat_lt n k)) [
  | inl less ↦
      let here = subst (λ zs. Contains zs m) (cond-true (nat_lt n k) _ _ less) has in
      elim (contains_cases n (k ∷ ks) m here) [ inl is ↦ inl (sym is) | inr other ↦ inr other ]
  | inr more ↦
      let there = subst (λ zs. Contains zs m) (cond-false (nat_lt n k) _ _ more) has in
      elim (cases_Bool (n == k)) [
        | inl same ↦ inr (subst (λ zs. Contains zs m) (cond-true (n == k) _ _ same) there)
        | inr differ ↦ elim (contains_cases k (with_number n ks) m
            (subst (λ zs. Contains zs m) (cond-false (n == k) _ _ differ) there)) [
              | inl is ↦ inr (subst (λ z. Contains (z ∷ ks) m) (sym is) (contains_here m ks))
              | inr rest ↦ elim (with_number_into n ks m rest) [
                | inl is ↦ inl is
                | inr has' ↦ inr (contains_later k ks m has')
              ]
            ]
      ]
]

with_number_itself : (n : ℕ) (ns : List ℕ) → Contains (with_number n ns) n
with_number_itself n [] = contains_here n []
with_number_itself n (k ∷ ks) =
    cond_both (nat_lt n k) (n ∷ k ∷ ks) _ (λ zs. Contains zs n) (λ less. contains_here n (k ∷ ks))
    (λ more. cond_both (n == k) (k ∷ ks) (k ∷ with_number n ks) (λ zs. Contains zs n)
    (λ same. subst (λ z. Contains (k ∷ ks) z) (sym (eqb-true n k same)) (contains_here k ks))
    (λ differ. contains_later k (with_number n ks) n (with_number_itself n ks)))

with_number_others : (n : ℕ) (ns : List ℕ) (m : ℕ) → Contains ns m → Contains (with_number n ns) m
with_number_others n [] m has = absurd (none_contained m has)
with_number_others n (k ∷ ks) m has =
    cond_both (nat_lt n k) (n ∷ k ∷ ks) _ (λ zs. Contains zs m) (λ less. contains_later n (k ∷ ks) m has)
    (λ more. cond_both (n == k) (k ∷ ks) (k ∷ with_number n ks) (λ zs. Contains zs m) (λ same. has)
    (λ differ. elim (contains_cases k ks m has) [
      | inl is ↦ subst (λ z. Contains (z ∷ with_number n ks) m) (sym is) (contains_here m (with_number n ks))
      | inr rest ↦ contains_later k (with_number n ks) m (with_number_others n ks m rest)
    ]))

-- slots with another one contain it and themselves
pub Contains-with_number : (n : ℕ) (ns : List ℕ) (m : ℕ) → Contains (with_number n ns) m ↔ ((m ≡ n) ⊎ Contains ns m)
Contains-with_number n ns m = (with_number_into n ns m, back) where
  back : (m ≡ n) ⊎ Contains ns m → Contains (with_number n ns) m
  back (inl is) = subst (λ z. Contains (with_number n ns) z) (sym is) (with_number_itself n ns)
  back (inr has) = with_number_others n ns m has

-- slots without one contain all others
pub Contains-without_slot : (address : ℕ) (slots : List ℕ) (m : ℕ) → Contains (without_slot address slots) m
    ↔ (Contains slots m × (m ≢ address))
Contains-without_slot address slots m = (into, back) where
  into : Contains (without_slot address slots) m → Contains slots m × (m ≢ address)
  into has =
      let found = filter_contains (λ slot. not (slot == address)) slots m has in
      (found.0, λ is. true≢false (sym (eq-eqb m address is) ∙ not-true (m == address) found.1))

  back : Contains slots m × (m ≢ address) → Contains (without_slot address slots) m
  back has = contains_filter (λ slot. not (slot == address)) slots m has.0
      (not_from_false (m == address) (false_from_ne_true (m == address) (λ is. has.1 (eqb-true m address is))))
