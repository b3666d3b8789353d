-- When recorded references are those owed: by the count of each, so that the order of neither list matters.
use Rattle.std.proofs.Common.{◌≡◌, ℕ, ◌+◌, ◌<◌, ◌≤◌, Bool, true, false, List, [], ◌∷◌, refl, sym, ap, subst, ◌∙◌, arith}
use Rattle.std.proofs.Common.{inl, inr, cond, ltb-true}
use Rattle.std.specs.Prelude.{◌&&◌, ◌==◌, not, nat_lt}
use Rattle.std.specs.List.{Contains, list_any, list_all, count_by, sum_by}
use Rattle.std.specs.List.Sorted.{IsPermutation}
use Rattle.std.proofs.lemmas.Bool.{cases_Bool, cond-true, cond-false, eq-eqb, eqb-true, lt-ltb, true≢false}
use Rattle.std.proofs.lemmas.List.Sums.{sum_by-cons}
use Rattle.std.proofs.lemmas.List.Sorted.{sum_by-IsPermutation, Contains-permutation, IsPermutation-sym}
use Rattle.qg_items.specs.declared.extent.Reference.{Reference}
use Rattle.qg_image.specs.Record.{same_reference}
use Rattle.qg_image.specs.Owed.{is_told_once, are_references}
use Rattle.qg_image.proofs.Contained.{none_contained, contains_here, contains_later, contains_cases}
use Rattle.qg_refs.proofs.RankOrder.{same_reference_is, same_itself}
use Rattle.qg_backref_rule.proofs.Passing.{and_first, and_second, and_both, count-cons, any_at, at_any, all_at, all_by}
use Rattle.qg_backref_rule.proofs.Passing.{count_none, count_some, none_any}

-- how often a reference is recorded, and with which count in all; how often it is owed
abbrev pub times : Reference → List (Reference × ℕ) → ℕ
times reference told = count_by (λ entry. same_reference reference entry.0) told

abbrev pub amount : Reference → List (Reference × ℕ) → ℕ
amount reference told = sum_by (λ entry. cond (same_reference reference entry.0) entry.1 0) told

abbrev pub times_owed : Reference → List Reference → ℕ
times_owed reference owed = count_by (same_reference reference) owed

-- each is recorded at most once, with the count that is owed, and none with 0
pub record AreOwed (told : List (Reference × ℕ)) (owed : List Reference) : Type 0 where
  pub once : (reference : Reference) → times reference told ≤ 1
  pub counts : (reference : Reference) → amount reference told ≡ times_owed reference owed
  pub some : (entry : Reference × ℕ) → Contains told entry → 0 < entry.1

-- ---- one entry more

pub times-cons : (reference : Reference) (entry : Reference × ℕ) (told : List (Reference × ℕ))
    → times reference (entry ∷ told) ≡ cond (same_reference reference entry.0) 1 0 + times reference told
times-cons reference entry told = count-cons (λ e. same_reference reference e.0) entry told

pub amount-cons : (reference : Reference) (entry : Reference × ℕ) (told : List (Reference × ℕ))
    → amount reference (entry ∷ told) ≡ cond (same_reference reference entry.0) entry.1 0 + amount reference told
amount-cons reference entry told = sum_by-cons (λ e. cond (same_reference reference e.0) e.1 0) entry told

pub amount_none : (reference : Reference) (told : List (Reference × ℕ)) → times reference told ≡ 0
    → amount reference told ≡ 0
amount_none reference [] none = refl
amount_none reference (e ∷ es) none = elim (cases_Bool (same_reference reference e.0)) [
  | inl holds ↦
      let here = cond-true {A = ℕ} (same_reference reference e.0) 1 0 holds in
      absurd (omega (arith, none, times-cons reference e es, here))
  | inr fails ↦
      let here = cond-false {A = ℕ} (same_reference reference e.0) 1 0 fails in
      let part = cond-false {A = ℕ} (same_reference reference e.0) e.1 0 fails in
      let rest = amount_none reference es (omega (arith, none, times-cons reference e es, here)) in
      omega (arith, amount-cons reference e es, part, rest)
]

pub times_none : (reference : Reference) (told : List (Reference × ℕ))
    → ((entry : Reference × ℕ) → Contains told entry → 0 < entry.1) → amount reference told ≡ 0
    → times reference told ≡ 0
times_none reference [] some none = refl
times_none reference (e ∷ es) some none = elim (cases_Bool (same_reference reference e.0)) [
  | inl holds ↦
      let part = cond-true {A = ℕ} (same_reference reference e.0) e.1 0 holds in
      absurd (omega (arith, none, amount-cons reference e es, part, some e (contains_here e es)))
  | inr fails ↦
      let here = cond-false {A = ℕ} (same_reference reference e.0) 1 0 fails in
      let part = cond-false {A = ℕ} (same_reference reference e.0) e.1 0 fails in
      let rest = times_none reference es (λ entry has. some entry (contains_later e es entry has))
      (omega (arith, none, amount-cons reference e es, part)) in
      omega (arith, times-cons reference e es, here, rest)
]

-- one that is recorded once has the count of its entry
pub amount_at : (reference : Reference) (told : List (Reference × ℕ)) (entry : Reference × ℕ) → Contains told entry
    → same_reference reference entry.0 ≡ true
    → times reference told ≤ 1 → amount reference told ≡ entry.1
amount_at reference [] entry has same once = absurd (none_contained entry has)
amount_at reference (e ∷ es) entry has same once = elim (contains_cases e es entry has) [
  | inl is ↦
      let holds : same_reference reference e.0 ≡ true =
      subst (λ (w : Reference × ℕ). same_reference reference w.0 ≡ true) (sym is) same in
      let here = cond-true {A = ℕ} (same_reference reference e.0) 1 0 holds in
      let part = cond-true {A = ℕ} (same_reference reference e.0) e.1 0 holds in
      let rest = amount_none reference es (omega (arith, once, times-cons reference e es, here)) in
      let count : e.1 ≡ entry.1 = ap (λ (w : Reference × ℕ). w.1) is in
      omega (arith, amount-cons reference e es, part, rest, count)
  | inr later ↦
      let there = count_some (λ (w : Reference × ℕ). same_reference reference w.0) es
      (any_at (λ (w : Reference × ℕ). same_reference reference w.0) es entry later same) in
      elim (cases_Bool (same_reference reference e.0)) [
        | inl holds ↦
            let here = cond-true {A = ℕ} (same_reference reference e.0) 1 0 holds in
            absurd (omega (arith, once, times-cons reference e es, here, there))
        | inr fails ↦
            let here = cond-false {A = ℕ} (same_reference reference e.0) 1 0 fails in
            let part = cond-false {A = ℕ} (same_reference reference e.0) e.1 0 fails in
            let rest = amount_at reference es entry later same (omega (arith, once, times-cons reference e es, here)) in
            omega (arith, amount-cons reference e es, part, rest)
      ]
]

-- ---- each at most once

once_times : (told : List (Reference × ℕ)) → is_told_once told ≡ true → (reference : Reference)
    → times reference told ≤ 1
once_times [] h reference = omega arith
once_times (e ∷ es) h reference = elim (cases_Bool (same_reference reference e.0)) [
  | inl holds ↦
      let here = cond-true {A = ℕ} (same_reference reference e.0) 1 0 holds in
      let none = not_any (list_any (λ o. same_reference e.0 o.0) es)
      (and_first (not (list_any (λ o. same_reference e.0 o.0) es)) (is_told_once es) h) in
      let rest = subst (λ r. times r es ≡ 0) (sym (same_reference_is reference e.0 holds))
      (count_none (λ o. same_reference e.0 o.0) es none) in
      omega (arith, times-cons reference e es, here, rest)
  | inr fails ↦
      let here = cond-false {A = ℕ} (same_reference reference e.0) 1 0 fails in
      let rest = once_times es (and_second (not (list_any (λ o. same_reference e.0 o.0) es)) (is_told_once es) h)
      reference in
      omega (arith, times-cons reference e es, here, rest)
] where
  not_any : (b : Bool) → not b ≡ true → b ≡ false
  not_any true h = absurd (true≢false (sym h))
  not_any false h = refl

times_once : (told : List (Reference × ℕ)) → ((reference : Reference) → times reference told ≤ 1)
    → is_told_once told ≡ true
times_once [] once = refl
times_once (e ∷ es) once =
    let here = cond-true {A = ℕ} (same_reference e.0 e.0) 1 0 (same_itself e.0) in
    let none = none_any (λ o. same_reference e.0 o.0) es (omega (arith, once e.0, times-cons e.0 e es, here)) in
    and_both (not (list_any (λ o. same_reference e.0 o.0) es)) (is_told_once es) (ap not none)
    (times_once es (λ reference. omega (arith, once reference, times-cons reference e es)))

-- ---- both ways

pub owed_if : (told : List (Reference × ℕ)) (owed : List Reference) → are_references told owed ≡ true
    → AreOwed told owed
owed_if told owed h = record { once = once; counts = counts; some = some } where
  each : Reference × ℕ → Bool
  each entry = nat_lt 0 entry.1 && (entry.1 == count_by (same_reference entry.0) owed)

  front : (is_told_once told
      && list_all (λ entry. nat_lt 0 entry.1 && (entry.1 == count_by (same_reference entry.0) owed)) told) ≡ true
  front = and_first _ (list_all (λ reference. list_any (λ entry. same_reference reference entry.0) told) owed) h

  once : (reference : Reference) → times reference told ≤ 1
  once reference = once_times told
      (and_first (is_told_once told)
      (list_all (λ entry. nat_lt 0 entry.1 && (entry.1 == count_by (same_reference entry.0) owed)) told) front)
      reference

  at : (entry : Reference × ℕ) → Contains told entry
      → (nat_lt 0 entry.1 && (entry.1 == count_by (same_reference entry.0) owed)) ≡ true
  at entry has =
      all_at (λ (entry : Reference × ℕ). nat_lt 0 entry.1 && (entry.1 == count_by (same_reference entry.0) owed)) told
      entry
      (and_second (is_told_once told)
      (list_all (λ entry. nat_lt 0 entry.1 && (entry.1 == count_by (same_reference entry.0) owed)) told) front) has

  some : (entry : Reference × ℕ) → Contains told entry → 0 < entry.1
  some entry has = ltb-true 0 entry.1 (and_first (nat_lt 0 entry.1) (entry.1 == count_by (same_reference entry.0) owed)
      (at entry has))

  counts : (reference : Reference) → amount reference told ≡ times_owed reference owed
  counts reference = elim (cases_Bool (list_any (λ (entry : Reference × ℕ). same_reference reference entry.0) told)) [
    | inl holds ↦
        let found = at_any (λ (entry : Reference × ℕ). same_reference reference entry.0) told holds in
        let count = eqb-true found.0.1 (count_by (same_reference found.0.0) owed)
        (and_second (nat_lt 0 found.0.1) (found.0.1 == count_by (same_reference found.0.0) owed)
        (at found.0 found.1)) in
        amount_at reference told found.0 found.1 found.2 (once reference) ∙ count
        ∙ ap (λ r. count_by (same_reference r) owed) (sym (same_reference_is reference found.0.0 found.2))
    | inr fails ↦
        amount_none reference told (count_none (λ (entry : Reference × ℕ). same_reference reference entry.0) told fails)
        ∙ sym (count_none (same_reference reference) owed (unowed reference fails))
  ] where
    unowed : (reference : Reference) → list_any (λ (entry : Reference × ℕ). same_reference reference entry.0) told
        ≡ false → list_any (same_reference reference) owed ≡ false
    unowed reference fails = elim (cases_Bool (list_any (same_reference reference) owed)) [
      | inl holds ↦
          let found = at_any (same_reference reference) owed holds in
          let there = all_at (λ r. list_any (λ (entry : Reference × ℕ). same_reference r entry.0) told) owed found.0
          (and_second (is_told_once told
          && list_all (λ entry. nat_lt 0 entry.1 && (entry.1 == count_by (same_reference entry.0) owed)) told)
          (list_all (λ reference. list_any (λ entry. same_reference reference entry.0) told) owed) h) found.1 in
          absurd (true≢false (sym (subst (λ r. list_any (λ (entry : Reference × ℕ). same_reference r entry.0) told
          ≡ true) (sym (same_reference_is reference found.0 found.2)) there) ∙ fails))
      | inr fails' ↦ fails'
    ]

pub if_owed : (told : List (Reference × ℕ)) (owed : List Reference) → AreOwed told owed
    → are_references told owed ≡ true
if_owed told owed are =
    and_both _ _
    (and_both _ _ (times_once told are.once)
    (all_by (λ (entry : Reference × ℕ). nat_lt 0 entry.1 && (entry.1 == count_by (same_reference entry.0) owed))
    told each))
    (all_by (λ r. list_any (λ (entry : Reference × ℕ). same_reference r entry.0) told) owed there)
  where
    each : (entry : Reference × ℕ) → Contains told entry
        → (nat_lt 0 entry.1 && (entry.1 == count_by (same_reference entry.0) owed)) ≡ true
    each entry has =
        and_both (nat_lt 0 entry.1) (entry.1 == count_by (same_reference entry.0) owed)
        (lt-ltb 0 entry.1 (are.some entry has))
        (eq-eqb entry.1 (count_by (same_reference entry.0) owed)
        (sym (amount_at entry.0 told entry has (same_itself entry.0) (are.once entry.0)) ∙ are.counts entry.0))

    there : (reference : Reference) → Contains owed reference
        → list_any (λ (entry : Reference × ℕ). same_reference reference entry.0) told ≡ true
    there reference has = elim (cases_Bool
        (list_any (λ (entry : Reference × ℕ). same_reference reference entry.0) told)) [
          | inl holds ↦ holds
          | inr fails ↦
              let none = amount_none reference told
              (count_none (λ (entry : Reference × ℕ). same_reference reference entry.0) told fails) in
              let some = count_some (same_reference reference) owed
              (any_at (same_reference reference) owed reference has (same_itself reference)) in
              absurd (omega (arith, none, some, are.counts reference))
        ]

-- two pairs of lists of which both or neither are so
pub same_answer : (told told' : List (Reference × ℕ)) (owed owed' : List Reference)
    → (AreOwed told owed → AreOwed told' owed') → (AreOwed told' owed' → AreOwed told owed)
    → are_references told owed ≡ are_references told' owed'
same_answer told told' owed owed' into back = elim (cases_Bool (are_references told owed)) [
  | inl holds ↦ holds ∙ sym (if_owed told' owed' (into (owed_if told owed holds)))
  | inr fails ↦ elim (cases_Bool (are_references told' owed')) [
    | inl holds ↦ absurd (true≢false (sym (if_owed told owed (back (owed_if told' owed' holds))) ∙ fails))
    | inr fails' ↦ fails ∙ sym fails'
  ]
]

-- ---- another order

moved : (told told' : List (Reference × ℕ)) (owed owed' : List Reference) → IsPermutation told told'
    → ((reference : Reference) → times_owed reference owed ≡ times_owed reference owed')
    → AreOwed told owed → AreOwed told' owed'
moved told told' owed owed' perm alike are = record {
  once = λ reference. omega (
    arith,
    are.once reference,
    sum_by-IsPermutation (λ (e : Reference × ℕ). cond (same_reference reference e.0) 1 0)
        told told' perm,
  );
  counts = λ reference. sum_by-IsPermutation (λ (e : Reference × ℕ). cond (same_reference reference e.0) e.1 0) told
      told' perm ∙ are.counts reference ∙ alike reference;
  some = λ entry has. are.some entry (Contains-permutation told' told entry (IsPermutation-sym told told' perm) has);
}

-- they are those owed in whatever order both stand
pub are_references_moved : (told told' : List (Reference × ℕ)) (owed owed' : List Reference) → IsPermutation told told'
    → ((reference : Reference) → times_owed reference owed ≡ times_owed reference owed')
    → are_references told owed ≡ are_references told' owed'
are_references_moved told told' owed owed' perm alike =
    same_answer told told' owed owed' (moved told told' owed owed' perm alike)
    (moved told' told owed' owed (IsPermutation-sym told told' perm) (λ reference. sym (alike reference)))
