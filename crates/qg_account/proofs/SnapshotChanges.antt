-- What a snapshot changes.
use Rattle.std.proofs.Common.{◌≡◌, ◌≢◌, ℕ, Bool, true, false, not, List, [], ◌∷◌, ◌++◌, map, refl, sym, ap, subst, ◌∙◌}
use Rattle.std.proofs.Common.{◌⊎◌, inl, inr}
use Rattle.std.specs.Prelude.{◌==◌}
use Rattle.std.specs.List.{AllByRecursion, Contains, IsDistinct, filter, list_any}
use Rattle.std.proofs.lemmas.Bool.{cond-true, cond-false, eq-eqb, eqb-true, ne_eqb, not-true, not_from_false, or_cases}
use Rattle.std.proofs.lemmas.Bool.{or_left, or_right, true≢false}
use Rattle.std.proofs.lemmas.List.{append-nil}
use Rattle.std.proofs.lemmas.List.Elements.{Contains-append_cases}
use Rattle.std.proofs.lemmas.Map.Keys.{IsDistinct-cons, IsDistinct-head, IsDistinct-tail}
use Rattle.qg_image.specs.Table.{keys_of}
use Rattle.qg_image.specs.declared.element.Element.{Element}
use Rattle.qg_image.specs.State.{Layout}
use Rattle.qg_image.specs.Reach.{reach, reaches, owners, is_among, distinct}
use Rattle.qg_image.proofs.Contained.{none_contained, contains_here, contains_later, contains_cases}
use Rattle.qg_reach.proofs.Distinct.{AreApart, begin_alike}
use Rattle.qg_reach.proofs.Members.{one_flat_mapped, one_mapped}
use Rattle.qg_qgroup_counts.proofs.Beginning.{there, found}
use Rattle.qg_qgroup_counts.proofs.Filtered.{passed, passes, apart-passed}
use Rattle.qg_qgroup_counts.proofs.PortionBytes.{same-bool}
use Rattle.qg_account.specs.Moves.{OwnerChange}
use Rattle.qg_account.specs.Laws.{all_reached, reached_in_both, HaveOneSize, is_listed, list_alike, IsRight, AreChanges}
use Rattle.qg_account.specs.Snapshots.{IsSnapshot, Snapshot, SnapshotIsAChange, below_top, root_change, shared_change}
use Rattle.qg_account.specs.Snapshots.{snapshot_changes}
use Rattle.qg_account.proofs.ListedOnce.{all-each, all-mapped, none-listed}
use Rattle.qg_account.proofs.CountsByOwners.{all-there, all-once, contained-once, distinct-apart, element}

-- ---- lists

-- of all but the last what passes is what passes another test
filter-more : (p q : ℕ → Bool) (xs : List ℕ) (y : ℕ) → ((x : ℕ) → Contains xs x → p x ≡ q x)
    → filter p (xs ++ y ∷ []) ≡ filter q xs ++ filter p (y ∷ [])
filter-more p q [] y same = refl
filter-more p q (x ∷ xs) y same =
    by (q x) refl (filter-more p q xs y (λ z has. same z (contains_later x xs z has)))
  where
    by : (b : Bool) → q x ≡ b → filter p (xs ++ y ∷ []) ≡ filter q xs ++ filter p (y ∷ [])
        → filter p (x ∷ xs ++ y ∷ []) ≡ filter q (x ∷ xs) ++ filter p (y ∷ [])
    by true is rest =
        cond-true (p x) (x ∷ filter p (xs ++ y ∷ [])) (filter p (xs ++ y ∷ [])) (same x (contains_here x xs) ∙ is)
        ∙ ap (λ (zs : List ℕ). x ∷ zs) rest
        ∙ sym (ap (λ (zs : List ℕ). zs ++ filter p (y ∷ [])) (cond-true (q x) (x ∷ filter q xs) (filter q xs) is))
    by false is rest =
        cond-false (p x) (x ∷ filter p (xs ++ y ∷ [])) (filter p (xs ++ y ∷ [])) (same x (contains_here x xs) ∙ is)
        ∙ rest
        ∙ sym (ap (λ (zs : List ℕ). zs ++ filter p (y ∷ [])) (cond-false (q x) (x ∷ filter q xs) (filter q xs) is))

filter-none : (p : ℕ → Bool) (xs : List ℕ) → ((x : ℕ) → Contains xs x → p x ≡ false) → [] ≡ filter p xs
filter-none p [] none = refl
filter-none p (x ∷ xs) none =
    filter-none p xs (λ z has. none z (contains_later x xs z has))
    ∙ sym (cond-false (p x) (x ∷ filter p xs) (filter p xs) (none x (contains_here x xs)))

-- elements that lie apart make changes of different addresses
shared-once : (old : Layout) (copy : ℕ) (xs : List Element) → AreApart xs
    → IsDistinct list_alike (map (shared_change old copy) xs)
shared-once old copy [] apart = none-listed
shared-once old copy (x ∷ xs) apart =
    IsDistinct-cons list_alike (shared_change old copy x) (map (shared_change old copy) xs)
    (all-mapped (shared_change old copy) (λ y. list_alike (shared_change old copy x) y ≡ false) xs
    (IsDistinct-head begin_alike x xs apart))
    (shared-once old copy xs (IsDistinct-tail begin_alike x xs apart))

-- ---- a snapshot

module _ (old new : Layout) (made : Snapshot) (is : IsSnapshot old new made) (size : HaveOneSize (all_reached old))
  where
    abbrev pub root-element : Element
    root-element = element made.root made.nodesize

    -- the source's elements have one size
    source-size : HaveOneSize (reach old made.source)
    source-size a b has has' same = size a b (all-there old made.source a has) (all-there old made.source b has') same

    -- what is reached begins elsewhere than the copy's root
    pub not-root : (sub : ℕ) (e : Element) → Contains (keys_of old.roots) sub → Contains (reach old sub) e
        → e.address ≡ made.root → ⊥
    not-root sub e among has same =
        true≢false (sym (there (reach old sub) e has) ∙ ap (λ (a : ℕ). is_among a (reach old sub)) same ∙ is.fresh sub
        among)

    others-reach : (address sub : ℕ) → Contains (keys_of old.roots) sub
        → reaches new sub address ≡ reaches old sub address
    others-reach address sub has = same-bool (reaches new sub address) (reaches old sub address) into back where
      into : reaches new sub address ≡ true → reaches old sub address ≡ true
      into met =
          let one = found (reach new sub) address met in
          subst (λ (a : ℕ). is_among a (reach old sub) ≡ true) one.2 (there (reach old sub) one.0
          ((is.others sub has).into one.0 one.1))

      back : reaches old sub address ≡ true → reaches new sub address ≡ true
      back met =
          let one = found (reach old sub) address met in
          subst (λ (a : ℕ). is_among a (reach new sub) ≡ true) one.2 (there (reach new sub) one.0
          ((is.others sub has).back one.0 one.1))

    -- the elements below the source's root
    pub below-has : (e : Element) → Contains (reach old made.source) e → e.address ≢ made.top
        → Contains (below_top old made) e
    below-has e has other =
        passes (λ one. not (one.address == made.top)) (distinct (reach old made.source)) e
        (all-once (reach old made.source) e source-size has)
        (not_from_false (e.address == made.top) (ne_eqb e.address made.top other))

    pub below-only : (e : Element) → Contains (below_top old made) e
        → Contains (reach old made.source) e × (e.address ≢ made.top)
    below-only e has =
        let one = passed (λ one. not (one.address == made.top)) (distinct (reach old made.source)) e has in (
          contained-once (reach old made.source) e one.0,
          λ same. true≢false (sym (eq-eqb e.address made.top same) ∙ not-true (e.address == made.top) one.1),
        )

    abbrev shared : List (ℕ × OwnerChange)
    shared = map (shared_change old made.copy) (below_top old made)

    -- the copy reaches exactly what is listed
    pub copy-reaches : (address : ℕ) → reaches new made.copy address ≡ is_listed address (snapshot_changes old made)
    copy-reaches address =
        same-bool (reaches new made.copy address) (is_listed address (snapshot_changes old made)) into back
      where
        listed : (e : Element) → e.address ≡ address
            → (root-element ≡ e) ⊎ (Contains (reach old made.source) e × (e.address ≢ made.top))
            → is_listed address (snapshot_changes old made) ≡ true
        listed e same (inl own) =
            or_left (address == made.root) (is_listed address shared)
            (eq-eqb address made.root (sym same ∙ sym (ap (λ (x : Element). x.address) own)))
        listed e same (inr below) =
            or_right (address == made.root) (is_listed address shared)
            (any-listed (below-has e below.0 below.1))
          where
            any-listed : Contains (below_top old made) e → list_any (λ entry. address == entry.0) shared ≡ true
            any-listed has = listed-there (below_top old made) has where
              listed-there : (xs : List Element) → Contains xs e
                  → list_any (λ entry. address == entry.0) (map (shared_change old made.copy) xs) ≡ true
              listed-there [] none = absurd (none_contained e none)
              listed-there (x ∷ xs) some = elim (contains_cases x xs e some) [
                | inl here ↦
                    or_left (address == x.address) (list_any (λ entry. address == entry.0)
                    (map (shared_change old made.copy) xs))
                    (eq-eqb address x.address (sym same ∙ sym (ap (λ (z : Element). z.address) here)))
                | inr later ↦
                    or_right (address == x.address) (list_any (λ entry. address == entry.0)
                    (map (shared_change old made.copy) xs))
                    (listed-there xs later)
              ]

        into : reaches new made.copy address ≡ true → is_listed address (snapshot_changes old made) ≡ true
        into met =
            let one = found (reach new made.copy) address met in
            listed one.0 one.2 ((is.own one.0).0 one.1)

        reached : (e : Element) → e.address ≡ address → Contains (reach new made.copy) e
            → reaches new made.copy address ≡ true
        reached e same has = subst (λ (a : ℕ). is_among a (reach new made.copy) ≡ true) same
            (there (reach new made.copy) e has)

        one-listed : (xs : List Element)
            → list_any (λ entry. address == entry.0) (map (shared_change old made.copy) xs) ≡ true
            → (e : Element) × Contains xs e × (e.address ≡ address)
        one-listed [] none = absurd cc
        one-listed (x ∷ xs) some = elim (or_cases (address == x.address) (list_any (λ entry. address == entry.0)
            (map (shared_change old made.copy) xs)) some) [
              | inl here ↦ (x, contains_here x xs, sym (eqb-true address x.address here))
              | inr later ↦ let e = one-listed xs later in (e.0, contains_later x xs e.0 e.1, e.2)
            ]

        back : is_listed address (snapshot_changes old made) ≡ true → reaches new made.copy address ≡ true
        back some = elim (or_cases (address == made.root) (is_listed address shared) some) [
          | inl here ↦ reached root-element (sym (eqb-true address made.root here)) ((is.own root-element).1 (inl refl))
          | inr later ↦
              let e = one-listed (below_top old made) later in
              reached e.0 e.2 ((is.own e.0).1 (inr (below-only e.0 e.1)))
        ]

    owners-after : (address : ℕ)
        → owners new address ≡ owners old address ++ filter (λ sub. reaches new sub address) (made.copy ∷ [])
    unfolding owners
    owners-after address =
        ap (filter (λ sub. reaches new sub address)) is.numbers
        ∙ filter-more (λ sub. reaches new sub address) (λ sub. reaches old sub address) (keys_of old.roots) made.copy
        (others-reach address)

    pub owners-more : (address : ℕ) → reaches new made.copy address ≡ true
        → owners old address ++ made.copy ∷ [] ≡ owners new address
    owners-more address met =
        sym (owners-after address ∙ ap (λ (ns : List ℕ). owners old address ++ ns)
        (cond-true (reaches new made.copy address) (made.copy ∷ []) [] met))

    pub owners-stay : (address : ℕ) → reaches new made.copy address ≡ false → owners old address ≡ owners new address
    owners-stay address met =
        sym (owners-after address ∙ ap (λ (ns : List ℕ). owners old address ++ ns)
        (cond-false (reaches new made.copy address) (made.copy ∷ []) [] met)
        ∙ append-nil (owners old address))

    pub nobody-before : [] ≡ owners old made.root
    unfolding owners
    nobody-before = filter-none (λ sub. reaches old sub made.root) (keys_of old.roots) is.fresh

    -- what is reached in the new layout was reached, or is the copy's root
    was-there : (e : Element) → Contains (reached_in_both old new) e → Contains (all_reached old) e ⊎ (root-element ≡ e)
    was-there e has = elim (Contains-append_cases (all_reached old) (all_reached new) e has) [
      | inl before ↦ inl before
      | inr after ↦ by (one_flat_mapped (reach new) (keys_of new.roots) e after)
    ] where
      from-copy : Contains (reach new made.copy) e → Contains (all_reached old) e ⊎ (root-element ≡ e)
      from-copy has' = elim ((is.own e).0 has') [
        | inl own ↦ inr own
        | inr below ↦ inl (all-there old made.source e below.0)
      ]

      by : (sub : ℕ) × Contains (keys_of new.roots) sub × Contains (reach new sub) e
          → Contains (all_reached old) e ⊎ (root-element ≡ e)
      by one = elim (Contains-append_cases (keys_of old.roots) (made.copy ∷ []) one.0
          (subst (λ (ns : List ℕ). Contains ns one.0) is.numbers one.1)) [
            | inl earlier ↦ inl (all-there old one.0 e ((is.others one.0 earlier).into e one.2))
            | inr last ↦ elim (contains_cases made.copy [] one.0 last) [
              | inl same ↦ from-copy (subst (λ (n : ℕ). Contains (reach new n) e) (sym same) one.2)
              | inr none ↦ absurd (none_contained one.0 none)
            ]
          ]

    old-not-root : (e : Element) → Contains (all_reached old) e → e.address ≡ made.root → ⊥
    old-not-root e has same =
        let one = one_flat_mapped (reach old) (keys_of old.roots) e has in not-root one.0 e one.1 one.2 same

    pub root-size : (e : Element) → Contains (reached_in_both old new) e → e.address ≡ made.root
        → e.bytes ≡ made.nodesize
    root-size e has same = elim (was-there e has) [
      | inl before ↦ absurd (old-not-root e before same)
      | inr own ↦ sym (ap (λ (x : Element). x.bytes) own)
    ]

    pub old-size : (e x : Element) → Contains (reached_in_both old new) e → Contains (all_reached old) x
        → e.address ≡ x.address → e.bytes ≡ x.bytes
    old-size e x has has' same = elim (was-there e has) [
      | inl before ↦ size e x before has' same
      | inr own ↦ absurd (old-not-root x has' (sym same ∙ sym (ap (λ (z : Element). z.address) own)))
    ]

    pub one-size : HaveOneSize (reached_in_both old new)
    one-size a b has has' same = elim (was-there b has') [
      | inl before ↦ old-size a b has before same
      | inr own ↦
          root-size a has (same ∙ sym (ap (λ (z : Element). z.address) own)) ∙ ap (λ (z : Element). z.bytes) own
    ]

    root-right : IsRight old new (root_change made)
    root-right = record {
      bytes = root-size;
      before = nobody-before;
      now =
          ap (λ (ns : List ℕ). ns ++ made.copy ∷ []) nobody-before
          ∙ owners-more made.root
          (copy-reaches made.root ∙ or_left (made.root == made.root) (is_listed made.root shared)
          (eq-eqb made.root made.root refl));
    }

    shared-right : (e : Element) → Contains (below_top old made) e → IsRight old new (shared_change old made.copy e)
    shared-right e has =
        let below = below-only e has in
        record {
          bytes = λ x has' same. old-size x e has' (all-there old made.source e below.0) same;
          before = refl;
          now = owners-more e.address (there (reach new made.copy) e ((is.own e).1 (inr below)));
        }

    root-apart : AllByRecursion (λ y. list_alike (root_change made) y ≡ false) shared
    root-apart =
        all-mapped (shared_change old made.copy)
        (λ y. list_alike (root_change made) y ≡ false) (below_top old made)
        (all-each (λ (e : Element). (made.root == e.address) ≡ false) (below_top old made)
        (λ e has. ne_eqb made.root e.address
        (λ same. not-root made.source e is.source (below-only e has).0 (sym same))))

    pub is-change : AreChanges old new (snapshot_changes old made)
    is-change = record {
      once =
          IsDistinct-cons list_alike (root_change made) shared root-apart
          (shared-once old made.copy (below_top old made)
          (apart-passed (λ one. not (one.address == made.top)) (distinct (reach old made.source))
          (distinct-apart (reach old made.source))));
      right = λ entry has. each entry has;
      rest = λ address unlisted. owners-stay address (copy-reaches address ∙ unlisted);
      sizes = one-size;
    } where
      each : (entry : ℕ × OwnerChange) → Contains (snapshot_changes old made) entry → IsRight old new entry
      each entry has =
          elim (contains_cases (root_change made) shared entry has) [
            | inl first ↦ subst (IsRight old new) first root-right
            | inr later ↦
                let e = one_mapped (shared_change old made.copy) (below_top old made) entry later in
                subst (IsRight old new) e.2 (shared-right e.0 e.1)
          ]

pub snapshot-change : SnapshotIsAChange
snapshot-change old new made is size = is-change old new made is size
