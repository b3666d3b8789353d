-- What a deletion changes.
use Rattle.std.proofs.Common.{◌≡◌, ℕ, Bool, true, false, not, List, [], ◌∷◌, map, refl, sym, ap, subst, ◌∙◌, inl, inr}
use Rattle.std.specs.Prelude.{◌==◌}
use Rattle.std.specs.List.{Contains, IsDistinct, filter}
use Rattle.std.proofs.lemmas.Bool.{cases_Bool, cond-true, cond-false, eq-eqb, eqb-true, not_from_false, or_left}
use Rattle.std.proofs.lemmas.Bool.{or_right, true≢false}
use Rattle.std.proofs.lemmas.List.Elements.{Contains-append_cases}
use Rattle.std.proofs.lemmas.Map.Keys.{IsDistinct-cons, IsDistinct-head, IsDistinct-tail}
use Rattle.qg_image.specs.Table.{keys_of}
use Rattle.qg_image.specs.declared.element.Element.{Element}
use Rattle.qg_image.specs.State.{Layout}
use Rattle.qg_image.specs.Reach.{reach, reaches, owners, is_among, distinct}
use Rattle.qg_image.proofs.Contained.{none_contained, contains_here, contains_later, contains_cases}
use Rattle.qg_reach.proofs.Distinct.{AreApart, begin_alike}
use Rattle.qg_reach.proofs.Members.{one_flat_mapped, one_mapped}
use Rattle.qg_qgroup_counts.proofs.Beginning.{there, found}
use Rattle.qg_qgroup_counts.proofs.PortionBytes.{same-bool}
use Rattle.qg_account.specs.Laws.{all_reached, reached_in_both, HaveOneSize, is_listed, list_alike, IsRight, AreChanges}
use Rattle.qg_account.specs.Deletions.{DeletionIsAChange, IsDeletion, deletion_changes, lost_change, without_number}
use Rattle.qg_account.proofs.CountsByOwners.{all-there, all-once, contained-once, distinct-apart}
use Rattle.qg_account.proofs.CountsByOwners.{owner-reaches}
use Rattle.qg_account.proofs.ListedOnce.{all-mapped, none-listed}

-- ---- lists

-- one test after another, in either order
filter-turned : (p q r : ℕ → Bool) (xs : List ℕ) → ((x : ℕ) → Contains (filter q xs) x → p x ≡ r x)
    → filter p (filter q xs) ≡ filter q (filter r xs)
filter-turned p q r [] same = refl
filter-turned p q r (x ∷ xs) same = elim (cases_Bool (q x)) [
  | inl is ↦
      let kept = cond-true (q x) (x ∷ filter q xs) (filter q xs) is in
      let rest = filter-turned p q r xs (λ z has. same z (subst (λ (ys : List ℕ). Contains ys z) (sym kept)
      (contains_later x (filter q xs) z has))) in
      ap (filter p) kept
      ∙ first is (r x) refl (same x (subst (λ (ys : List ℕ). Contains ys x) (sym kept)
      (contains_here x (filter q xs)))) rest
  | inr isnt ↦
      let gone = cond-false (q x) (x ∷ filter q xs) (filter q xs) isnt in
      let rest = filter-turned p q r xs (λ z has. same z (subst (λ (ys : List ℕ). Contains ys z) (sym gone) has)) in
      ap (filter p) gone ∙ rest ∙ later isnt (r x) refl
] where
  first : q x ≡ true → (b : Bool) → r x ≡ b → p x ≡ r x → filter p (filter q xs) ≡ filter q (filter r xs)
      → filter p (x ∷ filter q xs) ≡ filter q (filter r (x ∷ xs))
  first is true passes alike rest =
      cond-true (p x) (x ∷ filter p (filter q xs)) (filter p (filter q xs)) (alike ∙ passes)
      ∙ ap (λ (ys : List ℕ). x ∷ ys) rest
      ∙ sym (cond-true (q x) (x ∷ filter q (filter r xs)) (filter q (filter r xs)) is)
      ∙ sym (ap (filter q) (cond-true (r x) (x ∷ filter r xs) (filter r xs) passes))
  first is false fails alike rest =
      cond-false (p x) (x ∷ filter p (filter q xs)) (filter p (filter q xs)) (alike ∙ fails)
      ∙ rest
      ∙ sym (ap (filter q) (cond-false (r x) (x ∷ filter r xs) (filter r xs) fails))

  later : q x ≡ false → (b : Bool) → r x ≡ b → filter q (filter r xs) ≡ filter q (filter r (x ∷ xs))
  later isnt true passes =
      sym (cond-false (q x) (x ∷ filter q (filter r xs)) (filter q (filter r xs)) isnt)
      ∙ sym (ap (filter q) (cond-true (r x) (x ∷ filter r xs) (filter r xs) passes))
  later isnt false fails = sym (ap (filter q) (cond-false (r x) (x ∷ filter r xs) (filter r xs) fails))

filter-all : (p : ℕ → Bool) (xs : List ℕ) → ((x : ℕ) → Contains xs x → p x ≡ true) → filter p xs ≡ xs
filter-all p [] all = refl
filter-all p (x ∷ xs) all =
    cond-true (p x) (x ∷ filter p xs) (filter p xs) (all x (contains_here x xs))
    ∙ ap (λ (ys : List ℕ). x ∷ ys) (filter-all p xs (λ z has. all z (contains_later x xs z has)))

lost-once : (old : Layout) (gone : ℕ) (xs : List Element) → AreApart xs
    → IsDistinct list_alike (map (lost_change old gone) xs)
lost-once old gone [] apart = none-listed
lost-once old gone (x ∷ xs) apart =
    IsDistinct-cons list_alike (lost_change old gone x) (map (lost_change old gone) xs)
    (all-mapped (lost_change old gone) (λ y. list_alike (lost_change old gone x) y ≡ false) xs
    (IsDistinct-head begin_alike x xs apart))
    (lost-once old gone xs (IsDistinct-tail begin_alike x xs apart))

lost-listed : (old : Layout) (gone : ℕ) (xs : List Element) (e : Element) → Contains xs e
    → is_listed e.address (map (lost_change old gone) xs) ≡ true
lost-listed old gone [] e has = absurd (none_contained e has)
lost-listed old gone (x ∷ xs) e has = elim (contains_cases x xs e has) [
  | inl is ↦
      or_left (e.address == x.address) (is_listed e.address (map (lost_change old gone) xs))
      (eq-eqb e.address x.address (sym (ap (λ (z : Element). z.address) is)))
  | inr later ↦
      or_right (e.address == x.address) (is_listed e.address (map (lost_change old gone) xs))
      (lost-listed old gone xs e later)
]

-- ---- a deletion

module _ (old new : Layout) (gone : ℕ) (is : IsDeletion old new gone) (size : HaveOneSize (all_reached old)) where
  others-reach : (address sub : ℕ) → Contains (keys_of new.roots) sub
      → reaches new sub address ≡ reaches old sub address
  others-reach address sub has = same-bool (reaches new sub address) (reaches old sub address)
      (λ met. let one = found (reach new sub) address met in
      subst (λ (a : ℕ). is_among a (reach old sub) ≡ true) one.2 (there (reach old sub) one.0
      ((is.others sub has).into one.0 one.1)))
      (λ met. let one = found (reach old sub) address met in
      subst (λ (a : ℕ). is_among a (reach new sub) ≡ true) one.2 (there (reach new sub) one.0
      ((is.others sub has).back one.0 one.1)))

  owners-after : (address : ℕ) → without_number gone (owners old address) ≡ owners new address
  unfolding owners
  owners-after address =
      sym (filter-turned (λ sub. reaches new sub address) (λ sub. not (sub == gone)) (λ sub. reaches old sub address)
      (keys_of old.roots)
      (λ sub has. others-reach address sub (subst (λ (ns : List ℕ). Contains ns sub) (sym is.numbers) has)))
      ∙ sym (ap (filter (λ sub. reaches new sub address)) is.numbers)

  -- an address that isn't listed was not reached
  not-reached : (address : ℕ) → is_listed address (deletion_changes old gone) ≡ false → reaches old gone address ≡ false
  not-reached address unlisted = by (reaches old gone address) refl where
    by : (b : Bool) → reaches old gone address ≡ b → b ≡ false
    by false met = refl
    by true met =
        let one = found (reach old gone) address met in
        let has = all-once (reach old gone) one.0
        (λ a b in-a in-b same. size a b (all-there old gone a in-a) (all-there old gone b in-b) same) one.1 in
        absurd (true≢false (sym (lost-listed old gone (distinct (reach old gone)) one.0 has)
        ∙ ap (λ (a : ℕ). is_listed a (deletion_changes old gone)) one.2 ∙ unlisted))

  owners-stay : (address : ℕ) → is_listed address (deletion_changes old gone) ≡ false
      → owners old address ≡ owners new address
  owners-stay address unlisted =
      sym (filter-all (λ sub. not (sub == gone)) (owners old address) (λ sub has. by sub (sub == gone) refl has)) ∙
      owners-after address
    where
      by : (sub : ℕ) (b : Bool) → (sub == gone) ≡ b → Contains (owners old address) sub → not (sub == gone) ≡ true
      by sub false differs has = not_from_false (sub == gone) differs
      by sub true same has =
          absurd (true≢false (sym (owner-reaches old address sub has)
          ∙ ap (λ (n : ℕ). reaches old n address) (eqb-true sub gone same) ∙ not-reached address unlisted))

  was-there : (e : Element) → Contains (reached_in_both old new) e → Contains (all_reached old) e
  was-there e has = elim (Contains-append_cases (all_reached old) (all_reached new) e has) [
    | inl before ↦ before
    | inr after ↦
        let one = one_flat_mapped (reach new) (keys_of new.roots) e after in
        all-there old one.0 e ((is.others one.0 one.1).into e one.2)
  ]

  pub is-deletion : AreChanges old new (deletion_changes old gone)
  is-deletion = record {
    once = lost-once old gone (distinct (reach old gone)) (distinct-apart (reach old gone));
    right = λ entry has.
        let e = one_mapped (lost_change old gone) (distinct (reach old gone)) entry has in
        subst (IsRight old new) e.2 (record {
          bytes = λ x has' same. size x e.0 (was-there x has') (all-there old gone e.0
              (contained-once (reach old gone) e.0 e.1)) same;
          before = refl;
          now = owners-after e.0.address;
        });
    rest = owners-stay;
    sizes = λ a b in-a in-b same. size a b (was-there a in-a) (was-there b in-b) same;
  }

pub deletion-change : DeletionIsAChange
deletion-change old new gone is size = is-deletion old new gone is size
