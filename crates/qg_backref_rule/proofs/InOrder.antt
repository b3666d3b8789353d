-- References in order: each recorded one takes its run of those owed.
use Rattle.std.proofs.Common.{◌≡◌, ℕ, zero, suc, ◌+◌, ◌<◌, ◌≤◌, Bool, true, false, List, [], ◌∷◌, map, length, get_or}
use Rattle.std.proofs.Common.{drop, refl, sym, ap, subst, ◌∙◌, arith, inl, inr, cond}
use Rattle.std.specs.List.{Contains, list_any, prefix_len}
use Rattle.std.specs.List.Sorted.{IsSortedBy}
use Rattle.std.specs.Cmp.{IsStrictWeakOrder}
use Rattle.std.proofs.lemmas.Bool.{cases_Bool, cond-true, cond-false, true≢false}
use Rattle.std.proofs.lemmas.List.Sorted.{sorted_far}
use Rattle.qg_items.specs.declared.extent.Reference.{Reference}
use Rattle.qg_image.specs.Record.{same_reference}
use Rattle.qg_image.specs.Owed.{are_references}
use Rattle.qg_image.proofs.Contained.{none_contained, contains_here, contains_later, contains_cases}
use Rattle.qg_reach.proofs.Members.{one_mapped}
use Rattle.qg_refs.specs.Order.{precedes}
use Rattle.qg_refs.proofs.RankOrder.{precedes_chain, precedes_not_itself, precedes_or_same, precedes_if_not}
use Rattle.qg_refs.proofs.RankOrder.{same_reference_is, same_itself, same_other_way}
use Rattle.qg_backref_rule.proofs.Passing.{count-cons, any_at, at_any, count_none, count_some}
use Rattle.qg_backref_rule.proofs.Owed.{times, amount, times_owed, AreOwed, times-cons, amount-cons, times_none}
use Rattle.qg_backref_rule.proofs.Owed.{amount_none}
use Rattle.qg_backref_rule.proofs.Owed.{amount_at, owed_if, same_answer}

-- ---- the order

one_way : (a b : Reference) → precedes a b ≡ true → precedes b a ≡ false
one_way a b h = elim (cases_Bool (precedes b a)) [
  | inl back ↦ absurd (true≢false (sym (precedes_chain a b a h back) ∙ precedes_not_itself a))
  | inr fails ↦ fails
]

not_chain : (a b c : Reference) → precedes a b ≡ false → precedes b c ≡ false → precedes a c ≡ false
not_chain a b c h k = elim (cases_Bool (precedes a c)) [
  | inl holds ↦ elim (cases_Bool (precedes b a)) [
    | inl back ↦ absurd (true≢false (sym (precedes_chain b a c back holds) ∙ k))
    | inr not ↦ absurd (true≢false (sym (subst (λ w. precedes w c ≡ true) (precedes_or_same a b h not) holds) ∙ k))
  ]
  | inr fails ↦ fails
]

pub order_of : {X : Type 0} (of : X → Reference) → IsStrictWeakOrder (λ (a : X) (b : X). precedes (of a) (of b))
order_of of = record { one_way = λ a b. one_way (of a) (of b); chain = λ a b c. not_chain (of a) (of b) (of c) }

-- no later one comes before an earlier one
abbrev pub Up : {X : Type 0} → (X → Reference) → List X → Type 0
Up of [] = Unit {0}
Up {X} of (x ∷ xs) = ((y : X) → Contains xs y → precedes (of y) (of x) ≡ false) × Up of xs

up_far : {X : Type 0} (of : X → Reference) (xs : List X)
    → ((i j : ℕ) (d : X) → i ≤ j → j < length xs → precedes (of (get_or xs j d)) (of (get_or xs i d)) ≡ false)
    → Up of xs
up_far of [] far = tt
up_far of (x ∷ xs) far = (
  λ y has. subst (λ w. precedes (of w) (of x) ≡ false) has.2 (far 0 (suc has.0) y (omega arith) (omega (arith, has.1))),
  up_far of xs (λ i j d le h. far (suc i) (suc j) d (omega (arith, le)) (omega (arith, h))),
)

pub up_by : {X : Type 0} (of : X → Reference) (xs : List X) → IsSortedBy (λ a b. precedes (of a) (of b)) xs → Up of xs
up_by of xs sorted = up_far of xs (sorted_far (λ a b. precedes (of a) (of b)) (order_of of) xs sorted)

pub up_map : {X Y : Type 0} (f : X → Y) (of : Y → Reference) (xs : List X) → Up (λ x. of (f x)) xs → Up of (map f xs)
up_map f of [] up = tt
up_map f of (x ∷ xs) up = (
  λ y has. let found = one_mapped f xs y has in
      subst (λ w. precedes (of w) (of (f x)) ≡ false) found.2 (up.0 found.0 found.1),
  up_map f of xs up.1,
)

pub up_drop : {X : Type 0} (of : X → Reference) (n : ℕ) (xs : List X) → Up of xs → Up of (drop n xs)
up_drop of zero xs up = up
up_drop of (suc n) [] up = tt
up_drop of (suc n) (x ∷ xs) up = up_drop of n xs up.1

-- ---- the run of a reference at the front of those owed

-- a reference comes after none of some others
abbrev IsFirst : Reference → List Reference → Type 0
IsFirst reference owed = (y : Reference) → Contains owed y → precedes y reference ≡ false

front-cons : (reference h : Reference) (hs : List Reference) → same_reference reference h ≡ true
    → prefix_len (same_reference reference) (h ∷ hs) ≡ suc (prefix_len (same_reference reference) hs)
front-cons reference h hs holds = cond-true (same_reference reference h) (1 + prefix_len (same_reference reference) hs)
    0 holds ∙ omega arith

front-none : (reference h : Reference) (hs : List Reference) → same_reference reference h ≡ false
    → prefix_len (same_reference reference) (h ∷ hs) ≡ 0
front-none reference h hs fails = cond-false (same_reference reference h) (1 + prefix_len (same_reference reference) hs)
    0 fails

-- the run is all there are
run_all : (reference : Reference) (owed : List Reference) → Up (λ r. r) owed → IsFirst reference owed
    → prefix_len (same_reference reference) owed ≡ times_owed reference owed
run_all reference [] up first = refl
run_all reference (h ∷ hs) up first = elim (cases_Bool (same_reference reference h)) [
  | inl holds ↦
      let here = cond-true {A = ℕ} (same_reference reference h) 1 0 holds in
      let rest = run_all reference hs up.1 (λ y has. first y (contains_later h hs y has)) in
      omega (arith, front-cons reference h hs holds, count-cons (same_reference reference) h hs, here, rest)
  | inr fails ↦
      let here = cond-false {A = ℕ} (same_reference reference h) 1 0 fails in
      let rest = count_none (same_reference reference) hs (behind fails) in
      omega (arith, front-none reference h hs fails, count-cons (same_reference reference) h hs, here, rest)
] where
  behind : same_reference reference h ≡ false → list_any (same_reference reference) hs ≡ false
  behind fails = elim (cases_Bool (list_any (same_reference reference) hs)) [
    | inl holds ↦
        let found = at_any (same_reference reference) hs holds in
        let before = precedes_if_not reference h (first h (contains_here h hs)) (same_other_way reference h fails) in
        absurd (true≢false (sym (subst (λ w. precedes w h ≡ true) (same_reference_is reference found.0 found.2) before)
        ∙ up.0 found.0 found.1))
    | inr none ↦ none
  ]

-- without it there are so many fewer
run_dropped : (reference other : Reference) (owed : List Reference)
    → times_owed other owed ≡ cond (same_reference other reference) (prefix_len (same_reference reference) owed) 0
    + times_owed other (drop (prefix_len (same_reference reference) owed) owed)
run_dropped reference other [] = zero_count (same_reference other reference) where
  zero_count : (b : Bool) → ◌≡◌ {A = ℕ} 0 (cond {A = ℕ} b 0 0 + 0)
  zero_count true = omega arith
  zero_count false = omega arith
run_dropped reference other (h ∷ hs) = elim (cases_Bool (same_reference reference h)) [
  | inl holds ↦
      let n = prefix_len (same_reference reference) hs in
      let rest = run_dropped reference other hs in
      let same : cond {A = ℕ} (same_reference other h) 1 0 ≡ cond {A = ℕ} (same_reference other reference) 1 0 =
      ap (λ w. cond {A = ℕ} (same_reference other w) 1 0) (sym (same_reference_is reference h holds)) in
      omega (arith, count-cons (same_reference other) h hs, same, rest, one_more (same_reference other reference) n)
      ∙ sym (ap (λ m. cond (same_reference other reference) m 0 + times_owed other (drop m (h ∷ hs)))
      (front-cons reference h hs holds))
  | inr fails ↦
      none (same_reference other reference) (times_owed other (h ∷ hs))
      ∙ sym (ap (λ m. cond (same_reference other reference) m 0 + times_owed other (drop m (h ∷ hs)))
      (front-none reference h hs fails))
] where
  one_more : (b : Bool) (n : ℕ) → cond b (suc n) 0 ≡ cond {A = ℕ} b 1 0 + cond b n 0
  one_more true n = omega arith
  one_more false n = omega arith

  none : (b : Bool) (n : ℕ) → n ≡ cond {A = ℕ} b 0 0 + n
  none true n = omega arith
  none false n = omega arith

-- where it stands at the front it comes after none
first_if_run : (reference : Reference) (owed : List Reference) → Up (λ r. r) owed
    → 0 < prefix_len (same_reference reference) owed → IsFirst reference owed
first_if_run reference [] up some y has = absurd (none_contained y has)
first_if_run reference (h ∷ hs) up some y has = elim (cases_Bool (same_reference reference h)) [
  | inl holds ↦
      let is = same_reference_is reference h holds in
      elim (contains_cases h hs y has) [
        | inl same ↦ subst (λ w. precedes w reference ≡ false) (is ∙ same) (precedes_not_itself reference)
        | inr later ↦ subst (λ w. precedes y w ≡ false) (sym is) (up.0 y later)
      ]
  | inr fails ↦ absurd (omega (arith, some, front-none reference h hs fails))
]

-- ---- one recorded reference after the other

module _ (entry : Reference × ℕ) (told : List (Reference × ℕ)) (owed : List Reference)
    (up : Up (λ (e : Reference × ℕ). e.0) (entry ∷ told)) (up_owed : Up (λ r. r) owed) where
  into : prefix_len (same_reference entry.0) owed ≡ entry.1 → AreOwed (entry ∷ told) owed
      → AreOwed told (drop (prefix_len (same_reference entry.0) owed) owed)
  into is are = record {
    once = λ reference. omega (arith, are.once reference, times-cons reference entry told);
    counts = λ reference.
        let same : cond (same_reference reference entry.0) (prefix_len (same_reference entry.0) owed) 0
        ≡ cond (same_reference reference entry.0) entry.1 0 =
        ap (λ n. cond (same_reference reference entry.0) n 0) is in
        omega (arith, are.counts reference, amount-cons reference entry told, run_dropped entry.0 reference owed, same);
    some = λ e has. are.some e (contains_later entry told e has);
  }

  back : prefix_len (same_reference entry.0) owed ≡ entry.1 → 0 < entry.1
      → AreOwed told (drop (prefix_len (same_reference entry.0) owed) owed) → AreOwed (entry ∷ told) owed
  back is some are = record { once = once; counts = counts; some = each } where
    counts : (reference : Reference) → amount reference (entry ∷ told) ≡ times_owed reference owed
    counts reference =
        let same : cond (same_reference reference entry.0) (prefix_len (same_reference entry.0) owed) 0
        ≡ cond (same_reference reference entry.0) entry.1 0 =
        ap (λ n. cond (same_reference reference entry.0) n 0) is in
        omega (arith, are.counts reference, amount-cons reference entry told, run_dropped entry.0 reference owed, same)

    each : (e : Reference × ℕ) → Contains (entry ∷ told) e → 0 < e.1
    each e has = elim (contains_cases entry told e has) [
      | inl same ↦ subst (λ (w : Reference × ℕ). 0 < w.1) same some
      | inr later ↦ are.some e later
    ]

    none_more : times entry.0 told ≡ 0
    none_more =
        let all = run_all entry.0 owed up_owed (first_if_run entry.0 owed up_owed (omega (arith, is, some))) in
        let own = cond-true {A = ℕ} (same_reference entry.0 entry.0) (prefix_len (same_reference entry.0) owed) 0
        (same_itself entry.0) in
        times_none entry.0 told are.some (omega (arith, all, own, run_dropped entry.0 entry.0 owed, are.counts entry.0))

    once : (reference : Reference) → times reference (entry ∷ told) ≤ 1
    once reference = elim (cases_Bool (same_reference reference entry.0)) [
      | inl holds ↦
          let here = cond-true {A = ℕ} (same_reference reference entry.0) 1 0 holds in
          let none = subst (λ r. times r told ≡ 0) (sym (same_reference_is reference entry.0 holds)) none_more in
          omega (arith, times-cons reference entry told, here, none)
      | inr fails ↦
          let here = cond-false {A = ℕ} (same_reference reference entry.0) 1 0 fails in
          omega (arith, times-cons reference entry told, here, are.once reference)
    ]

  -- the run is as long as its count
  pub run_told : prefix_len (same_reference entry.0) owed ≡ entry.1 → 0 < entry.1
      → are_references (entry ∷ told) owed ≡ are_references told (drop (prefix_len (same_reference entry.0) owed) owed)
  run_told is some = same_answer (entry ∷ told) told owed (drop (prefix_len (same_reference entry.0) owed) owed)
      (into is) (back is some)

  all_first : AreOwed (entry ∷ told) owed → IsFirst entry.0 owed
  all_first are y has = elim (cases_Bool (precedes y entry.0)) [
    | inl before ↦
        let there = count_some (same_reference y) owed (any_at (same_reference y) owed y has (same_itself y)) in
        let found = named y (omega (arith, there, are.counts y)) in
        let is = same_reference_is y found.0.0 found.2 in
        elim (contains_cases entry told found.0 found.1) [
          | inl same ↦ absurd (true≢false (sym before
              ∙ subst (λ w. precedes w entry.0 ≡ false) (ap (λ (e : Reference × ℕ). e.0) same ∙ sym is)
              (precedes_not_itself entry.0)))
          | inr later ↦ absurd (true≢false (sym before
              ∙ subst (λ w. precedes w entry.0 ≡ false) (sym is) (up.0 found.0 later)))
        ]
    | inr fails ↦ fails
  ] where
    named : (y : Reference) → 0 < amount y (entry ∷ told) → (e : Reference × ℕ) × Contains (entry ∷ told) e
        × (same_reference y e.0 ≡ true)
    named y some = elim (cases_Bool (list_any (λ (e : Reference × ℕ). same_reference y e.0) (entry ∷ told))) [
      | inl holds ↦ at_any (λ (e : Reference × ℕ). same_reference y e.0) (entry ∷ told) holds
      | inr fails ↦ absurd (omega (
        arith,
        some,
        amount_none y (entry ∷ told) (count_none (λ (e : Reference × ℕ). same_reference y e.0)
            (entry ∷ told) fails),
      ))
    ]

  -- the run isn't
  pub run_differs : (prefix_len (same_reference entry.0) owed ≡ entry.1 → 0 < entry.1 → ⊥)
      → are_references (entry ∷ told) owed ≡ false
  run_differs differs = elim (cases_Bool (are_references (entry ∷ told) owed)) [
    | inl holds ↦
        let are = owed_if (entry ∷ told) owed holds in
        let all = run_all entry.0 owed up_owed (all_first are) in
        let own = amount_at entry.0 (entry ∷ told) entry (contains_here entry told) (same_itself entry.0)
        (are.once entry.0) in
        absurd (differs (omega (arith, all, own, are.counts entry.0)) (are.some entry (contains_here entry told)))
    | inr fails ↦ fails
  ]
