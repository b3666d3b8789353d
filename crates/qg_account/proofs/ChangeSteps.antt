-- The counters of a group, moved along changes one after the other.
use Rattle.std.proofs.Common.{◌≡◌, ℕ, ◌+◌, ◌≤◌, ◌<◌, ◌^◌, Bool, false, not, List, [], ◌∷◌, refl, sym, ap}
use Rattle.std.proofs.Common.{subst}
use Rattle.std.proofs.Common.{◌∙◌, arith, inl, inr}
use Rattle.std.specs.Prelude.{◌==◌, ◌||◌, if◌then◌else◌, ⊤}
use Rattle.std.specs.List.{AllByRecursion, Contains, IsDistinct, list_any}
use Rattle.std.proofs.lemmas.Bool.{cases_Bool, cond-true, cond-false, eq-eqb, ne_eqb, or_from, or_left, and_left}
use Rattle.std.proofs.lemmas.Map.Keys.{IsDistinct-head, IsDistinct-tail}
use Rattle.qg_num.specs.declared.counters.Counters.{Counters}
use Rattle.qg_image.specs.declared.element.Element.{Element}
use Rattle.qg_image.specs.State.{Layout}
use Rattle.qg_image.specs.Reach.{is_among, owners, distinct}
use Rattle.qg_image.specs.Members.{Hierarchy, is_member}
use Rattle.qg_image.specs.Counts.{bytes_of, direct_count}
use Rattle.qg_image.proofs.Contained.{contains_here, contains_later}
use Rattle.qg_reach.proofs.Distinct.{AreApart}
use Rattle.qg_qgroup_counts.specs.Portions.{given}
use Rattle.qg_qgroup_counts.proofs.SetWeights.{counters_same, given_is, given_not}
use Rattle.qg_account.specs.Standing.{meets, lies_within}
use Rattle.qg_account.specs.Moves.{CanMove, CanShift, OwnerChange, moved, moved_all, shifted}
use Rattle.qg_account.specs.Laws.{AreChanges, ChangesAddUp, HaveOneSize, IsRight, bytes_in_both, is_listed}
use Rattle.qg_account.specs.Laws.{list_alike}
use Rattle.qg_account.specs.Laws.{reached_in_both}
use Rattle.qg_account.proofs.Weighing.{weigh, weigh-same, weigh-one, weigh-has, weigh-most}
use Rattle.qg_account.proofs.CountsByOwners.{nobody, referenced-weighs, exclusive-weighs, old-reached, new-reached}
use Rattle.qg_account.proofs.CountsByOwners.{contained-once, distinct-apart}

-- ---- tests of addresses, of which some changes are still to come

-- what was so holds at addresses of changes to come, and elsewhere what is so
abbrev mixed : (ℕ → Bool) → (ℕ → Bool) → List (ℕ × OwnerChange) → ℕ → Bool
mixed was is changes address = if is_listed address changes then was address else is address

none-any : {A : Type 0} (test : A → Bool) (xs : List A) → AllByRecursion (λ x. test x ≡ false) xs
    → list_any test xs ≡ false
none-any test [] all = refl
none-any test (x ∷ xs) all = or_from (test x) (list_any test xs) all.0 (none-any test xs all.1)

unlisted : (entry : ℕ × OwnerChange) (changes : List (ℕ × OwnerChange)) → IsDistinct list_alike (entry ∷ changes)
    → is_listed entry.0 changes ≡ false
unlisted entry changes once =
    none-any (λ (next : ℕ × OwnerChange). entry.0 == next.0) changes (IsDistinct-head list_alike entry changes once)

module _ (xs : List Element) (apart : AreApart xs) (was is : ℕ → Bool) (entry : ℕ × OwnerChange)
    (changes : List (ℕ × OwnerChange))
    (once : IsDistinct list_alike (entry ∷ changes))
    (right : (x : Element) → Contains xs x → x.address ≡ entry.0 → x.bytes ≡ entry.1.bytes)
    (none : is_among entry.0 xs ≡ false → (was entry.0 ≡ false) × (is entry.0 ≡ false)) where
  was-here : mixed was is (entry ∷ changes) entry.0 ≡ was entry.0
  was-here =
      cond-true (is_listed entry.0 (entry ∷ changes)) (was entry.0) (is entry.0)
      (or_left (entry.0 == entry.0) (is_listed entry.0 changes) (eq-eqb entry.0 entry.0 refl))

  is-here : mixed was is changes entry.0 ≡ is entry.0
  is-here = cond-false (is_listed entry.0 changes) (was entry.0) (is entry.0) (unlisted entry changes once)

  elsewhere : (other : ℕ) → (other ≡ entry.0 → ⊥) → mixed was is (entry ∷ changes) other ≡ mixed was is changes other
  elsewhere other differs =
      ap (λ (b : Bool). if b || is_listed other changes then was other else is other)
      (ne_eqb other entry.0 differs)

  pub one-step : weigh (mixed was is changes) xs + given (was entry.0) entry.1.bytes
      ≡ weigh (mixed was is (entry ∷ changes)) xs + given (is entry.0) entry.1.bytes
  one-step =
      let step = weigh-one (mixed was is (entry ∷ changes)) (mixed was is changes) entry.0 entry.1.bytes xs apart
      elsewhere right
      (λ gone. (was-here ∙ (none gone).0, is-here ∙ (none gone).1)) in
      let first = ap (λ (b : Bool). given b entry.1.bytes) was-here in
      let second = ap (λ (b : Bool). given b entry.1.bytes) is-here in
      omega (arith, step, first, second)

  -- what is lost was there
  pub had-it : given (was entry.0) entry.1.bytes ≤ weigh (mixed was is (entry ∷ changes)) xs
  had-it =
      let has = weigh-has (mixed was is (entry ∷ changes)) entry.0 entry.1.bytes xs right
      (λ gone. was-here ∙ (none gone).0) in
      let first = ap (λ (b : Bool). given b entry.1.bytes) was-here in
      omega (arith, has, first)

  pub shifts : (before now : Bool) → before ≡ was entry.0 → now ≡ is entry.0
      → shifted before now entry.1.bytes (weigh (mixed was is (entry ∷ changes)) xs) ≡ weigh (mixed was is changes) xs
  shifts before now same same' =
      let first = ap (λ (b : Bool). given b entry.1.bytes) same in
      let second = ap (λ (b : Bool). given b entry.1.bytes) same' in
      omega (arith, one-step, first, second)

-- ---- a group, from one layout to another

-- counters have the bytes that they lose by a change, and have at most so many after it
pub record IsSafe (most : ℕ) (member : ℕ → Bool) (change : OwnerChange) (counters : Counters) : Type 0 where
  pub has_rfer : given (meets member change.before) change.bytes ≤ counters.rfer
  pub has_excl : given (lies_within member change.before) change.bytes ≤ counters.excl
  pub fits_rfer : (moved member change counters).rfer ≤ most
  pub fits_excl : (moved member change counters).excl ≤ most

-- so it is at each of some changes, one after the other
abbrev pub AreSafe : ℕ → (ℕ → Bool) → List (ℕ × OwnerChange) → Counters → Type 0
AreSafe most member [] counters = ⊤
AreSafe most member (entry ∷ changes) counters =
    IsSafe most member entry.1 counters × AreSafe most member changes (moved member entry.1 counters)

module _ (old new : Layout) (hierarchy : Hierarchy) (group : ℕ) (sizes : HaveOneSize (reached_in_both old new)) where
  abbrev elements : List Element
  elements = distinct (reached_in_both old new)

  abbrev member : ℕ → Bool
  member = is_member hierarchy group

  abbrev met_old : ℕ → Bool
  met_old address = meets member (owners old address)

  abbrev met_new : ℕ → Bool
  met_new address = meets member (owners new address)

  abbrev own_old : ℕ → Bool
  own_old address = lies_within member (owners old address)

  abbrev own_new : ℕ → Bool
  own_new address = lies_within member (owners new address)

  -- what is counted where some changes are still to come
  abbrev counted_so : List (ℕ × OwnerChange) → Counters
  counted_so changes = record {
    rfer = weigh (mixed met_old met_new changes) elements;
    excl = weigh (mixed own_old own_new changes) elements;
  }

  module _ (entry : ℕ × OwnerChange) (changes : List (ℕ × OwnerChange)) (once : IsDistinct list_alike (entry ∷ changes))
      (right : IsRight old new entry) where
    size : (x : Element) → Contains elements x → x.address ≡ entry.0 → x.bytes ≡ entry.1.bytes
    size x has same = right.bytes x (contained-once (reached_in_both old new) x has) same

    none-met : is_among entry.0 elements ≡ false → (met_old entry.0 ≡ false) × (met_new entry.0 ≡ false)
    none-met gone = (
      nobody old elements entry.0 (old-reached old new sizes) gone member,
      nobody new elements entry.0 (new-reached old new sizes) gone member,
    )

    none-own : is_among entry.0 elements ≡ false → (own_old entry.0 ≡ false) × (own_new entry.0 ≡ false)
    none-own gone =
        let met = none-met gone in (
          and_left (met_old entry.0) (not (list_any (λ sub. not (member sub)) (owners old entry.0))) met.0,
          and_left (met_new entry.0) (not (list_any (λ sub. not (member sub)) (owners new entry.0))) met.1,
        )

    step : moved member entry.1 (counted_so (entry ∷ changes)) ≡ counted_so changes
    step =
        counters_same (moved member entry.1 (counted_so (entry ∷ changes))) (counted_so changes)
        (shifts elements apart met_old met_new entry changes once size none-met (meets member entry.1.before)
        (meets member entry.1.now) (ap (meets member) right.before) (ap (meets member) right.now))
        (shifts elements apart own_old own_new entry changes once size none-own (lies_within member entry.1.before)
        (lies_within member entry.1.now) (ap (lies_within member) right.before) (ap (lies_within member) right.now))
      where
        apart : AreApart elements
        apart = distinct-apart (reached_in_both old new)

    safe-here : IsSafe (bytes_of elements) member entry.1 (counted_so (entry ∷ changes))
    safe-here = record {
      has_rfer =
          subst (λ (b : Bool). given b entry.1.bytes ≤ weigh (mixed met_old met_new (entry ∷ changes)) elements)
          (sym (ap (meets member) right.before))
          (had-it elements apart met_old met_new entry changes once size none-met);
      has_excl =
          subst (λ (b : Bool). given b entry.1.bytes ≤ weigh (mixed own_old own_new (entry ∷ changes)) elements)
          (sym (ap (lies_within member) right.before))
          (had-it elements apart own_old own_new entry changes once size none-own);
      fits_rfer =
          subst (λ (c : Counters). c.rfer ≤ bytes_of elements) (sym step)
          (weigh-most (mixed met_old met_new changes) elements);
      fits_excl =
          subst (λ (c : Counters). c.excl ≤ bytes_of elements) (sym step)
          (weigh-most (mixed own_old own_new changes) elements);
    } where
      apart : AreApart elements
      apart = distinct-apart (reached_in_both old new)

  abbrev AreRight : List (ℕ × OwnerChange) → Type 0
  AreRight changes = (entry : ℕ × OwnerChange) → Contains changes entry → IsRight old new entry

  all-steps : (changes : List (ℕ × OwnerChange)) → IsDistinct list_alike changes → AreRight changes
      → moved_all member changes (counted_so changes) ≡ counted_so []
  all-steps [] once right = refl
  all-steps (entry ∷ changes) once right =
      ap (moved_all member changes) (step entry changes once (right entry (contains_here entry changes)))
      ∙ all-steps changes (IsDistinct-tail list_alike entry changes once)
      (λ e has. right e (contains_later entry changes e has))

  all-safe : (changes : List (ℕ × OwnerChange)) → IsDistinct list_alike changes → AreRight changes
      → AreSafe (bytes_of elements) member changes (counted_so changes)
  all-safe [] once right = tt
  all-safe (entry ∷ changes) once right = (
    safe-here entry changes once (right entry (contains_here entry changes)),
    subst (AreSafe (bytes_of elements) member changes)
        (sym (step entry changes once (right entry (contains_here entry changes))))
        (all-safe changes (IsDistinct-tail list_alike entry changes once)
        (λ e has. right e (contains_later entry changes e has))),
  )

  -- at first it is the count before, where owners differ at listed addresses alone
  mixed-first : (first last : ℕ → Bool) (changes : List (ℕ × OwnerChange)) (address : ℕ)
      → (is_listed address changes ≡ false → first address ≡ last address)
      → mixed first last changes address ≡ first address
  mixed-first first last changes address rest = elim (cases_Bool (is_listed address changes)) [
    | inl listed ↦ cond-true (is_listed address changes) (first address) (last address) listed
    | inr not' ↦ cond-false (is_listed address changes) (first address) (last address) not' ∙ sym (rest not')
  ]

  at-first : (changes : List (ℕ × OwnerChange)) → AreChanges old new changes
      → counted_so changes ≡ direct_count old hierarchy group
  at-first changes are =
      counters_same (counted_so changes) (direct_count old hierarchy group)
      (weigh-same (mixed met_old met_new changes) met_old elements
      (λ x has. mixed-first met_old met_new changes x.address (λ none. ap (meets member) (are.rest x.address none)))
      ∙ sym (referenced-weighs old hierarchy elements group (old-reached old new sizes)))
      (weigh-same (mixed own_old own_new changes) own_old elements
      (λ x has. mixed-first own_old own_new changes x.address
      (λ none. ap (lies_within member) (are.rest x.address none)))
      ∙ sym (exclusive-weighs old hierarchy elements group (old-reached old new sizes)))

  -- and at last that now
  at-last : counted_so [] ≡ direct_count new hierarchy group
  at-last =
      counters_same (counted_so []) (direct_count new hierarchy group)
      (sym (referenced-weighs new hierarchy elements group (new-reached old new sizes)))
      (sym (exclusive-weighs new hierarchy elements group (new-reached old new sizes)))

  pub adds-up : (changes : List (ℕ × OwnerChange)) → AreChanges old new changes
      → moved_all member changes (direct_count old hierarchy group) ≡ direct_count new hierarchy group
  adds-up changes are =
      ap (moved_all member changes) (sym (at-first changes are)) ∙ all-steps changes are.once are.right ∙ at-last

  pub is-safe : (changes : List (ℕ × OwnerChange)) → AreChanges old new changes
      → AreSafe (bytes_in_both old new) member changes (direct_count old hierarchy group)
  is-safe changes are =
      subst (AreSafe (bytes_of elements) member changes) (at-first changes are)
      (all-safe changes are.once are.right)

pub changes-add-up : ChangesAddUp
changes-add-up old new hierarchy changes group are = adds-up old new hierarchy group are.sizes changes are

pub changes-safe : (old new : Layout) (hierarchy : Hierarchy) (changes : List (ℕ × OwnerChange)) (group : ℕ)
    → AreChanges old new changes
    → AreSafe (bytes_in_both old new) (is_member hierarchy group) changes (direct_count old hierarchy group)
changes-safe old new hierarchy changes group are = is-safe old new hierarchy group are.sizes changes are

-- ---- what is safe can be taken

can-shift : (was is : Bool) (bytes counter most : ℕ) → given was bytes ≤ counter
    → shifted was is bytes counter ≤ most → most < 2 ^ 64 → CanShift was is bytes counter
can-shift was is bytes counter most has fits small = record {
  has = λ yes' no'. omega (arith, has, given_is was bytes yes');
  fits = λ no' yes'. omega (arith, fits, small, given_not was bytes no', given_is is bytes yes');
}

pub can-move : (most : ℕ) (member : ℕ → Bool) (change : OwnerChange) (counters : Counters)
    → IsSafe most member change counters → most < 2 ^ 64 → CanMove member change counters
can-move most member change counters safe small = record {
  rfer =
      can-shift (meets member change.before) (meets member change.now) change.bytes counters.rfer most safe.has_rfer
      safe.fits_rfer small;
  excl =
      can-shift (lies_within member change.before) (lies_within member change.now) change.bytes counters.excl most
      safe.has_excl safe.fits_excl small;
}
