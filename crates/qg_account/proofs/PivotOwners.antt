-- Pivots: which groups a change of owners can move, and how they are found.
use Rattle.std.proofs.Common.{◌≡◌, ℕ, ◌+◌, ◌<◌, Bool, true, false, not, List, [], ◌∷◌, ◌++◌, length, get_or, take}
use Rattle.std.proofs.Common.{refl, sym, ap, subst, ◌∙◌, arith, inl, inr}
use Rattle.std.specs.Prelude.{◌==◌, ◌&&◌}
use Rattle.std.specs.List.{Contains, list_any}
use Rattle.std.proofs.lemmas.Bool.{and_left, eq-eqb, eqb-true, not_from_false, true≢false}
use Rattle.std.proofs.lemmas.List.{take_more}
use Rattle.std.proofs.lemmas.List.Elements.{Contains-get_or}
use Rattle.qg_image.specs.Members.{is_member}
use Rattle.qg_num.specs.declared.counters.Counters.{Counters}
use Rattle.qg_qgroups.specs.Groups.{has_number}
use Rattle.qg_qgroups.proofs.Order.{has_end, now_has, still_has}
use Rattle.qg_qgroup_counts.specs.Portions.{given}
use Rattle.qg_qgroup_counts.proofs.PortionBytes.{any-of, any-there, same-bool}
use Rattle.qg_qgroup_counts.proofs.SetWeights.{counters_same}
use Rattle.qg_account.specs.declared.pivots.Walk.{Walk}
use Rattle.qg_account.specs.Laws.{OthersKeepTheirs}
use Rattle.qg_account.specs.Moves.{CanMove, CanShift, OwnerChange, moved, shifted}
use Rattle.qg_account.specs.Pivots.{AreFirstPivots, ArePivots, HasOneThatStays, IsTold}
use Rattle.qg_account.specs.Standing.{has_others, lies_within, meets}

-- ---- numbers of lists

pub number-in : (n : ℕ) (xs : List ℕ) → Contains xs n → has_number n xs ≡ true
number-in n xs has = any-of (λ (m : ℕ). m == n) xs n has (eq-eqb n n refl)

in-number : (n : ℕ) (xs : List ℕ) → has_number n xs ≡ true → Contains xs n
in-number n xs is =
    let one = any-there (λ (m : ℕ). m == n) xs is in
    subst (λ (m : ℕ). Contains xs m) (eqb-true one.0 n one.2) one.1

passes-of : (test : ℕ → Bool) (xs : List ℕ) (n : ℕ) → has_number n xs ≡ true → test n ≡ true → list_any test xs ≡ true
passes-of test xs n has is = any-of test xs n (in-number n xs has) is

-- ---- a group that none of the pivots is a member of

module _ (member : ℕ → Bool) (before now subs : List ℕ) (are : ArePivots before now subs)
    (none : list_any member subs ≡ false) where
  apart : (sub : ℕ) → has_number sub subs ≡ true → member sub ≡ true → ⊥
  apart sub has is = true≢false (sym (passes-of member subs sub has is) ∙ none)

  met-later : meets member before ≡ true → meets member now ≡ true
  met-later met =
      let one = any-there member before met in
      by one.0 (number-in one.0 before one.1) one.2
    where
      by : (sub : ℕ) → has_number sub before ≡ true → member sub ≡ true → meets member now ≡ true
      by sub has is = elim (are.olds sub has) [
        | inl told ↦ absurd (apart sub told is)
        | inr stays ↦ passes-of member now sub stays.0 is
      ]

  met-earlier : meets member now ≡ true → meets member before ≡ true
  met-earlier met =
      let one = any-there member now met in
      by one.0 (number-in one.0 now one.1) one.2
    where
      by : (sub : ℕ) → has_number sub now ≡ true → member sub ≡ true → meets member before ≡ true
      by sub has is = elim (are.news sub has) [
        | inl told ↦ absurd (apart sub told is)
        | inr stays ↦ passes-of member before sub stays.0 is
      ]

  pub same-met : meets member before ≡ meets member now
  same-met = same-bool (meets member before) (meets member now) met-later met-earlier

  -- one that stays is no member, so owners among which it is don't all lie within
  not-all : (owners : List ℕ) (stays : HasOneThatStays before now subs) → has_number stays.sub owners ≡ true
      → has_others member owners ≡ true
  not-all owners stays has = by (member stays.sub) refl where
    by : (b : Bool) → member stays.sub ≡ b → has_others member owners ≡ true
    by true is = absurd (apart stays.sub stays.there is)
    by false is = passes-of (λ sub. not (member sub)) owners stays.sub has (not_from_false (member stays.sub) is)

  not-within : (owners : List ℕ) → (meets member owners ≡ true → has_others member owners ≡ true)
      → lies_within member owners ≡ false
  not-within owners others = by (meets member owners) refl where
    by : (b : Bool) → meets member owners ≡ b → lies_within member owners ≡ false
    by false is = and_left (meets member owners) (not (has_others member owners)) is
    by true is = ap (λ (b : Bool). b && not (has_others member owners)) is ∙ ap not (others is)

  within-before : lies_within member before ≡ false
  within-before = not-within before (λ met.
      let one = any-there member before met in by one.0 (number-in one.0 before one.1) one.2) where
        by : (sub : ℕ) → has_number sub before ≡ true → member sub ≡ true → has_others member before ≡ true
        by sub has is = elim (are.olds sub has) [
          | inl told ↦ absurd (apart sub told is)
          | inr stays ↦ not-all before stays.1 stays.1.was
        ]

  within-now : lies_within member now ≡ false
  within-now = not-within now (λ met.
      let one = any-there member now met in by one.0 (number-in one.0 now one.1) one.2) where
        by : (sub : ℕ) → has_number sub now ≡ true → member sub ≡ true → has_others member now ≡ true
        by sub has is = elim (are.news sub has) [
          | inl told ↦ absurd (apart sub told is)
          | inr stays ↦ not-all now stays.1 stays.1.is
        ]

  pub same-within : lies_within member before ≡ lies_within member now
  same-within = within-before ∙ sym within-now

-- ---- a counter of what is counted, or isn't, both times

stays-so : (was is : Bool) (bytes counter : ℕ) → was ≡ is → shifted was is bytes counter ≡ counter
stays-so was is bytes counter same = let alike = ap (λ (b : Bool). given b bytes) same in omega (arith, alike)

can-stay : (was is : Bool) (bytes counter : ℕ) → was ≡ is → CanShift was is bytes counter
can-stay was is bytes counter same = record {
  has = λ yes' no'. absurd (true≢false (sym yes' ∙ same ∙ no'));
  fits = λ no' yes'. absurd (true≢false (sym yes' ∙ sym same ∙ no'));
}

pub others-keep : (member : ℕ → Bool) (change : OwnerChange) (counters : Counters) (subs : List ℕ)
    → ArePivots change.before change.now subs → list_any member subs ≡ false → moved member change counters ≡ counters
others-keep member change counters subs are none =
    counters_same (moved member change counters) counters
    (stays-so (meets member change.before) (meets member change.now) change.bytes counters.rfer
    (same-met member change.before change.now subs are none))
    (stays-so (lies_within member change.before) (lies_within member change.now) change.bytes counters.excl
    (same-within member change.before change.now subs are none))

pub others-can : (member : ℕ → Bool) (change : OwnerChange) (counters : Counters) (subs : List ℕ)
    → ArePivots change.before change.now subs → list_any member subs ≡ false → CanMove member change counters
others-can member change counters subs are none = record {
  rfer =
      can-stay (meets member change.before) (meets member change.now) change.bytes counters.rfer
      (same-met member change.before change.now subs are none);
  excl =
      can-stay (lies_within member change.before) (lies_within member change.now) change.bytes counters.excl
      (same-within member change.before change.now subs are none);
}

pub others-keep-theirs : OthersKeepTheirs
others-keep-theirs hierarchy group change counters subs are none =
    others-keep (is_member hierarchy group) change counters subs are none

-- ---- the walk that finds pivots

module _ (before now : List ℕ) where
  stays-still : (subs : List ℕ) (x : ℕ) → HasOneThatStays before now subs → HasOneThatStays before now (subs ++ x ∷ [])
  stays-still subs x one = record {
    sub = one.sub;
    there = still_has one.sub x subs one.there;
    was = one.was;
    is = one.is;
  }

  told-still : (subs others : List ℕ) (x sub : ℕ) → IsTold before now subs others sub
      → IsTold before now (subs ++ x ∷ []) others sub
  told-still subs others x sub (inl there) = inl (still_has sub x subs there)
  told-still subs others x sub (inr stays) = inr (stays.0, stays-still subs x stays.1)

  -- of the first owners and the next one
  next-told : (subs owners others : List ℕ) (i : ℕ) → i < length owners
      → ((sub : ℕ) → has_number sub (take i owners) ≡ true → IsTold before now subs others sub)
      → IsTold before now subs others (get_or owners i 0)
      → (sub : ℕ) → has_number sub (take (i + 1) owners) ≡ true → IsTold before now subs others sub
  next-told subs owners others i short all here sub has =
      elim (has_end sub (get_or owners i 0) (take i owners)
      (subst (λ (xs : List ℕ). has_number sub xs ≡ true) (take_more owners i 0 short) has)) [
        | inl earlier ↦ all sub earlier
        | inr same ↦ subst (IsTold before now subs others) same here
      ]

  module _ (walk : Walk) (subs : List ℕ) (are : AreFirstPivots before now walk subs) where
    pivots-more : (x : ℕ) → AreFirstPivots before now walk (subs ++ x ∷ [])
    pivots-more x = record {
      old = are.old;
      new = are.new;
      stays = λ so. stays-still subs x (are.stays so);
      olds = λ sub has. told-still subs now x sub (are.olds sub has);
      news = λ sub has. told-still subs before x sub (are.news sub has);
    }

    in-before : walk.old < length before → has_number (get_or before walk.old 0) before ≡ true
    in-before short = number-in (get_or before walk.old 0) before (Contains-get_or before walk.old 0 short)

    in-now : walk.new < length now → get_or before walk.old 0 ≡ get_or now walk.new 0
        → has_number (get_or before walk.old 0) now ≡ true
    in-now short same =
        ap (λ (n : ℕ). has_number n now) same
        ∙ number-in (get_or now walk.new 0) now (Contains-get_or now walk.new 0 short)

    -- an owner that stays is told where one of those is
    both-next : (next : Walk) → walk.old < length before → walk.new < length now
        → get_or before walk.old 0 ≡ get_or now walk.new 0 → next.old ≡ walk.old + 1 → next.new ≡ walk.new + 1
        → HasOneThatStays before now subs → AreFirstPivots before now next subs
    both-next next short short' same old new one = record {
      old = omega (arith, short, old);
      new = omega (arith, short', new);
      stays = λ _. one;
      olds =
          subst (λ (n : ℕ). (sub : ℕ) → has_number sub (take n before) ≡ true → IsTold before now subs now sub)
          (sym old)
          (next-told subs before now walk.old short are.olds (inr (in-now short' same, one)));
      news =
          subst (λ (n : ℕ). (sub : ℕ) → has_number sub (take n now) ≡ true → IsTold before now subs before sub)
          (sym new)
          (next-told subs now before walk.new short' are.news
          (subst (IsTold before now subs before) same (inr (in-before short, one))));
    }

  module _ (walk : Walk) (subs : List ℕ) (are : AreFirstPivots before now walk subs) (next : Walk)
      (short : walk.old < length before) (short' : walk.new < length now)
      (same : get_or before walk.old 0 ≡ get_or now walk.new 0) (old : next.old ≡ walk.old + 1)
      (new : next.new ≡ walk.new + 1) where
    pub pivots-met : (made : List ℕ) → made ≡ subs ++ get_or before walk.old 0 ∷ []
        → AreFirstPivots before now next made
    pivots-met made is =
        let x = get_or before walk.old 0 in
        subst (AreFirstPivots before now next) (sym is)
        (both-next walk (subs ++ x ∷ []) (pivots-more walk subs are x) next short short' same old new (record {
          sub = x;
          there = now_has x subs;
          was = in-before walk subs are short;
          is = in-now walk subs are short' same;
        }))
