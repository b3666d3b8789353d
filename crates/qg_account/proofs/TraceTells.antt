-- What a trace tells of the owners that have changed since the last commit.
use Rattle.std.proofs.Common.{◌≡◌, ℕ, Bool, true, false, List, [], ◌∷◌, Option, Some, None, refl, sym, ap, subst}
use Rattle.std.proofs.Common.{◌∙◌}
use Rattle.std.proofs.Common.{inl, inr, nat_lt, arith}
use Rattle.std.specs.Prelude.{◌==◌, ◌||◌, if◌then◌else◌, is_some}
use Rattle.std.specs.List.{AllByRecursion, Contains, IsDistinct, filter}
use Rattle.std.specs.List.Sorted.{IsStrictlySortedBy}
use Rattle.std.specs.Ordering.{nat_cmp}
use Rattle.std.specs.declared.cmp.Ordering.TheVariants.{Less}
use Rattle.std.proofs.lemmas.Bool.{cases_Bool, cases_eq, cond-false, cond-true, eq-eqb, eqb-true, ne_eqb, true≢false}
use Rattle.std.proofs.lemmas.Bool.Decides.{nat_tests}
use Rattle.std.proofs.lemmas.Map.Keys.{IsDistinct-cons, sorted_head, sorted_tail}
use Rattle.std.proofs.lemmas.Option.{same_Some}
use Rattle.qg_image.specs.Reach.{owners, reach, reaches}
use Rattle.qg_image.specs.State.{Layout}
use Rattle.qg_image.specs.Table.{has_key, keys_of, value_at, with_value}
use Rattle.qg_image.proofs.Contained.{contains_here, contains_later}
use Rattle.qg_reach.proofs.Members.{one_mapped}
use Rattle.qg_trace.specs.declared.trace.TraceEntry.{TraceEntry}
use Rattle.qg_account.specs.Laws.{IsRight, is_listed, list_alike}
use Rattle.qg_account.specs.Moves.{OwnerChange}
use Rattle.qg_account.specs.TraceLaws.{EditsChangeGainsAndLosses}
use Rattle.qg_account.specs.TraceLaws.{EditKeepsTrace, IsTraceOf, TouchKeepsTrace, TraceBegins, TraceCounts}
use Rattle.qg_account.specs.TraceLaws.{TraceTellsChanges, changes_of}
use Rattle.qg_account.proofs.CountsByOwners.{same-reach}
use Rattle.qg_account.proofs.GroupsAddUp.{groups-add-up}
use Rattle.qg_account.proofs.ListedOnce.{none-listed}
use Rattle.qg_account.proofs.MovedGroups.{value-of}

-- ---- a list with one value more

same-number : (n : ℕ) → (n == n) ≡ true
same-number n = eq-eqb n n refl

-- what with_value leaves where the number is greater than the first, or the same
abbrev behind : {A : Type 0} → ℕ → A → ℕ × A → List (ℕ × A) → Bool → List (ℕ × A)
behind n value e table b = if b then (n, value) ∷ table else e ∷ with_value n value table

value-here : {A : Type 0} (n : ℕ) (value : A) (table : List (ℕ × A))
    → value_at n (with_value n value table) ≡ Some value
value-here n value [] = cond-true (n == n) (Some value) None (same-number n)
value-here {A} n value (e ∷ table) = elim (cases_Bool (nat_lt n e.0)) [
  | inl less ↦
      ap (value_at n) (cond-true (nat_lt n e.0) ((n, value) ∷ e ∷ table) (behind n value e table (e.0 == n)) less)
      ∙ cond-true (n == n) (Some value) (value_at n (e ∷ table)) (same-number n)
  | inr not' ↦
      ap (value_at n) (cond-false (nat_lt n e.0) ((n, value) ∷ e ∷ table) (behind n value e table (e.0 == n)) not')
      ∙ by (e.0 == n) refl (value-here n value table)
] where
  by : (b : Bool) → (e.0 == n) ≡ b → value_at n (with_value n value table) ≡ Some value
      → value_at n (behind n value e table b) ≡ Some value
  by true is rest = cond-true (n == n) (Some value) (value_at n table) (same-number n)
  by false is rest = cond-false (e.0 == n) (Some e.1) (value_at n (with_value n value table)) is ∙ rest

value-other : {A : Type 0} (n other : ℕ) (value : A) (table : List (ℕ × A)) → (n == other) ≡ false
    → value_at other (with_value n value table) ≡ value_at other table
value-other n other value [] differ = cond-false (n == other) (Some value) None differ
value-other {A} n other value (e ∷ table) differ = elim (cases_Bool (nat_lt n e.0)) [
  | inl less ↦
      ap (value_at other) (cond-true (nat_lt n e.0) ((n, value) ∷ e ∷ table) (behind n value e table (e.0 == n)) less)
      ∙ cond-false (n == other) (Some value) (value_at other (e ∷ table)) differ
  | inr not' ↦
      ap (value_at other) (cond-false (nat_lt n e.0) ((n, value) ∷ e ∷ table) (behind n value e table (e.0 == n)) not')
      ∙ by (e.0 == n) refl (value-other n other value table differ)
] where
  by : (b : Bool) → (e.0 == n) ≡ b → value_at other (with_value n value table) ≡ value_at other table
      → value_at other (behind n value e table b) ≡ value_at other (e ∷ table)
  by true is rest =
      cond-false (n == other) (Some value) (value_at other table) differ
      ∙ sym (cond-false (e.0 == other) (Some e.1) (value_at other table)
      (ap (λ (m : ℕ). m == other) (eqb-true e.0 n is) ∙ differ))
  by false is rest = ap (λ (later : Option A). if e.0 == other then Some e.1 else later) rest

-- ---- a trace goes on

pub trace-begins : TraceBegins
trace-begins old = record { before = λ address entry is. absurd cc; rest = λ address none. refl }

pub touch-keeps : TouchKeepsTrace
touch-keeps old now trace at entry are right = elim (cases_Bool (has_key at trace)) [
  | inl again ↦ subst (IsTraceOf old now) (sym (cond-true (has_key at trace) trace (with_value at entry trace) again))
      are
  | inr first ↦
      subst (IsTraceOf old now) (sym (cond-false (has_key at trace) trace (with_value at entry trace) first))
      (record { before = noted first; rest = others })
] where
  noted : has_key at trace ≡ false → (address : ℕ) (one : TraceEntry)
      → value_at address (with_value at entry trace) ≡ Some one → one.owners ≡ owners old address
  noted first address one is = elim (cases_Bool (at == address)) [
    | inl here ↦
        let same = eqb-true at address here in
        let this : entry ≡ one = same_Some entry one
        (sym (ap (λ (n : ℕ). value_at n (with_value at entry trace)) (sym same) ∙ value-here at entry trace) ∙ is) in
        ap (λ (x : TraceEntry). x.owners) (sym this) ∙ right ∙ sym (are.rest at first) ∙ ap (owners old) same
    | inr other ↦ are.before address one (sym (value-other at address entry trace other) ∙ is)
  ]

  others : (address : ℕ) → has_key address (with_value at entry trace) ≡ false → owners old address ≡ owners now address
  others address none = elim (cases_Bool (at == address)) [
    | inl here ↦
        let same = eqb-true at address here in
        absurd (true≢false (sym (ap (λ (o : Option TraceEntry). is_some o)
        (ap (λ (n : ℕ). value_at n (with_value at entry trace)) (sym same) ∙ value-here at entry trace)) ∙ none))
    | inr other ↦
        are.rest address (ap (λ (o : Option TraceEntry). is_some o) (sym (value-other at address entry trace other)) ∙
        none)
  ]

pub edit-keeps : EditKeepsTrace
edit-keeps old now next trace are same = record {
  before = are.before;
  rest = λ address none. are.rest address none ∙ same address none;
}

-- ---- the changes that it tells

listed-is : (now : Layout) (bytes : ℕ → ℕ) (trace : List (ℕ × TraceEntry)) (address : ℕ)
    → is_listed address (changes_of now bytes trace) ≡ has_key address trace
listed-is now bytes [] address = refl
listed-is now bytes (e ∷ trace) address = elim (cases_eq e.0 address) [
  | inl same ↦
      ap (λ (b : Bool). b || is_listed address (changes_of now bytes trace)) (eq-eqb address e.0 (sym same))
      ∙ sym (ap (λ (o : Option TraceEntry). is_some o)
      (cond-true (e.0 == address) (Some e.1) (value_at address trace) (eq-eqb e.0 address same)))
  | inr differ ↦
      ap (λ (b : Bool). b || is_listed address (changes_of now bytes trace))
      (ne_eqb address e.0 (λ same. differ (sym same)))
      ∙ listed-is now bytes trace address
      ∙ sym (ap (λ (o : Option TraceEntry). is_some o)
      (cond-false (e.0 == address) (Some e.1) (value_at address trace) (ne_eqb e.0 address differ)))
]

less-differs : (a b : ℕ) → nat_cmp a b ≡ Less → (a == b) ≡ false
less-differs a b less = grind (arith, nat_tests)

listed-once : (now : Layout) (bytes : ℕ → ℕ) (trace : List (ℕ × TraceEntry))
    → IsStrictlySortedBy nat_cmp (keys_of trace)
    → IsDistinct list_alike (changes_of now bytes trace)
listed-once now bytes [] up = none-listed
listed-once now bytes (e ∷ trace) up =
    IsDistinct-cons list_alike (e.0, record { bytes = bytes e.0; before = e.1.owners; now = owners now e.0 })
    (changes_of now bytes trace) (each trace (sorted_head nat_cmp e.0 (keys_of trace) up))
    (listed-once now bytes trace (sorted_tail nat_cmp e.0 (keys_of trace) up))
  where
    each : (rest : List (ℕ × TraceEntry)) → AllByRecursion (λ n. nat_cmp e.0 n ≡ Less) (keys_of rest)
        → AllByRecursion (λ (y : ℕ × OwnerChange). (e.0 == y.0) ≡ false) (changes_of now bytes rest)
    each [] all = tt
    each (x ∷ rest) all = (less-differs e.0 x.0 all.0, each rest all.1)

pub trace-tells : TraceTellsChanges
trace-tells old now trace bytes sound are sizes right = record {
  once = listed-once now bytes trace sound.addresses;
  right = λ entry has.
      let one = one_mapped (λ (e : ℕ × TraceEntry). (
        e.0,
        record { bytes = bytes e.0; before = e.1.owners; now = owners now e.0 },
      )) trace entry has in
      subst (IsRight old now) one.2 (record {
        bytes = λ element there same. right one.0 element one.1 there same;
        before = are.before one.0.0 one.0.1 (value-of trace one.0 sound.addresses one.1);
        now = refl;
      });
  rest = λ address none. are.rest address (sym (listed-is now bytes trace address) ∙ none);
  sizes = sizes;
}

pub trace-counts : TraceCounts
trace-counts old now hierarchy trace bytes sound are sizes right =
    groups-add-up old now hierarchy (changes_of now bytes trace) (trace-tells old now trace bytes sound are sizes right)

-- ---- an edit of one subvolume

filter-same : (p q : ℕ → Bool) (xs : List ℕ) → ((x : ℕ) → Contains xs x → p x ≡ q x) → filter p xs ≡ filter q xs
filter-same p q [] same = refl
filter-same p q (x ∷ xs) same =
    let rest = filter-same p q xs (λ z has. same z (contains_later x xs z has)) in
    elim (cases_Bool (q x)) [
      | inl is ↦
          cond-true (p x) (x ∷ filter p xs) (filter p xs) (same x (contains_here x xs) ∙ is)
          ∙ ap (λ (ys : List ℕ). x ∷ ys) rest ∙ sym (cond-true (q x) (x ∷ filter q xs) (filter q xs) is)
      | inr isnt ↦
          cond-false (p x) (x ∷ filter p xs) (filter p xs) (same x (contains_here x xs) ∙ isnt)
          ∙ rest ∙ sym (cond-false (q x) (x ∷ filter q xs) (filter q xs) isnt)
    ]

pub edits-change : EditsChangeGainsAndLosses
unfolding owners
edits-change now next sub address is same =
    filter-same (λ other. reaches now other address) (λ other. reaches next other address) (keys_of now.roots) each
    ∙ sym (ap (filter (λ other. reaches next other address)) is.numbers)
  where
    each : (other : ℕ) → Contains (keys_of now.roots) other → reaches now other address ≡ reaches next other address
    each other has = elim (cases_eq other sub) [
      | inl this ↦ ap (λ (n : ℕ). reaches now n address) this ∙ same
          ∙ sym (ap (λ (n : ℕ). reaches next n address) this)
      | inr differs ↦ same-reach (reach next other) (reach now other) address (is.others other has differs)
    ]
