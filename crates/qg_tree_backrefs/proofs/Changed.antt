-- Which records a book has besides, once references came and went.
use Rattle.std.proofs.Common.{◌≡◌, ℕ, ◌+◌, ◌<◌, ◌≤◌, Bool, true, false, List, [], ◌∷◌, ◌++◌, map, Option, Some, None}
use Rattle.std.proofs.Common.{arith, refl, sym, ap, subst, ◌∙◌, inl, inr}
use Rattle.std.specs.Prelude.{◌||◌, ◌==◌, if◌then◌else◌, is_some, nat_lt}
use Rattle.std.specs.List.{sum_by}
use Rattle.std.specs.Option.{option_or}
use Rattle.std.proofs.lemmas.Bool.{and_from, and_parts, cases_Bool, cond-false, cond-true, eq-eqb, eqb-true}
use Rattle.std.proofs.lemmas.Bool.{ltb-false, ltb-true, or_cases, or_left, or_right, true≢false}
use Rattle.std.proofs.lemmas.Bool.Decides.{eqb_tells}
use Rattle.std.proofs.lemmas.List.Folds.{list_any-append}
use Rattle.std.proofs.lemmas.List.Sums.{sum_by-append, sum_by-cons}
use Rattle.qg_items.specs.declared.extent.Reference.{Reference}
use Rattle.qg_image.specs.Record.{Record, RootOf, ExtentOf, NodeOf, ReferenceTo, Status, InfoOf, LimitOf, RelationOf}
use Rattle.qg_image.specs.Record.{record_bytes, same_record, same_reference}
use Rattle.qg_image.specs.Owed.{Owing}
use Rattle.qg_refs.specs.declared.counted.Counted.{Counted}
use Rattle.qg_refs.specs.declared.kept.What.{What}
use Rattle.qg_refs.specs.declared.kept.Kept.{Kept}
use Rattle.qg_refs.specs.Book.{Book, count_at, references_in, what_in}
use Rattle.qg_refs.specs.Counts.{count_of}
use Rattle.qg_weighed.specs.Laws.{is_among}
use Rattle.qg_weighed.specs.Weight.{extent_record_bytes, record_known, reference_bytes}
use Rattle.qg_weighed.proofs.Distinct.{record_itself, same_record_is}
use Rattle.qg_weighed.proofs.Recorded.{Grows, grown, known-place, place_of, recorded, recorded_in}
use Rattle.qg_weighed.proofs.Recorded.{referenced}
use Rattle.qg_weighed.proofs.Weights.{known-bytes, reference-there}
use Rattle.qg_tree_backrefs.specs.Exchange.{times}
use Rattle.qg_tree_backrefs.proofs.Owings.{times-cons}
use Rattle.qg_tree_backrefs.proofs.Times.{one_of, times-nil, times_here, times_there}
use Rattle.qg_tree_backrefs.specs.Heavier.{owings_bytes}
use Rattle.qg_tree_backrefs.proofs.Besides.{HasBesides}

-- ---- one reference more, or fewer

-- what is known of what is kept is recorded
known_recorded : (at : ℕ) (kept : Option Kept) (what : What) → is_some kept ≡ true → what_in kept ≡ Some what
    → recorded_in at kept (record_known at what) ≡ true
known_recorded at None what some known = absurd (true≢false (sym some))
known_recorded at (Some kept) what some known =
    let is : kept.what ≡ what = cc in
    or_left (same_record (record_known at what) (record_known at kept.what)) _
    (subst (λ (w : What). same_record (record_known at what) (record_known at w) ≡ true) (sym is)
    (record_itself (record_known at what)))

-- what comes with a reference: the record too, where nothing was there
abbrev pub records_added : ℕ → Option Kept → What → Reference → List Record
records_added at here what reference =
    ReferenceTo at reference ∷ (if is_some here then [] else record_known at what ∷ [])

added_old : (r k o : Bool) → (k ≡ true → o ≡ true) → (r || (k || o)) ≡ true → (o || (r || false)) ≡ true
added_old r k true within some = refl
added_old true k false within some = refl
added_old false true false within some = let wrong : false ≡ true = within refl in cc
added_old false false false within some = let wrong : false ≡ true = some in cc

added_new : (r k o : Bool) → (r || (k || o)) ≡ true → (o || (r || (k || false))) ≡ true
added_new r k true some = refl
added_new true k false some = refl
added_new false true false some = refl
added_new false false false some = let wrong : false ≡ true = some in cc

module _ (old new : Book) (at : ℕ) (what : What) (reference : Reference) (grows : Grows old new at what reference) where
  -- the record is there where something is
  there_before : is_some (old at) ≡ true → (one : Record) → same_record one (record_known at what) ≡ true
      → recorded old one ≡ true
  there_before some one same =
      let is : one ≡ record_known at what = same_record_is one (record_known at what) same in
      subst (λ (r : Record). recorded old r ≡ true) (sym is)
      (ap (λ (q : ℕ). recorded_in q (old q) (record_known at what)) (known-place at what)
      ∙ known_recorded at (old at) what some (grows.before some))

  pub HasBesides-grown : HasBesides old new (records_added at (old at) what reference)
  HasBesides-grown = record {
    each = λ one there.
        let r = same_record one (ReferenceTo at reference) in
        let k = same_record one (record_known at what) in
        let o = recorded old one in
        let some : (r || (k || o)) ≡ true = sym (grown old new at what reference one grows) ∙ there in
        elim (cases_Bool (is_some (old at))) [
          | inl is ↦ ap (λ (b : Bool). o || (r || is_among (if b then [] else record_known at what ∷ []) one)) is
              ∙ added_old r k o (there_before is one) some
          | inr none ↦ ap (λ (b : Bool). o || (r || is_among (if b then [] else record_known at what ∷ []) one)) none
              ∙ added_new r k o some
        ];
  }

  -- and none is left out
  pub HasBesides-shrunk : HasBesides new old []
  HasBesides-shrunk = record {
    each = λ one there.
        or_left (recorded new one) false
        (grown old new at what reference one grows
        ∙ or_right (same_record one (ReferenceTo at reference)) (same_record one (record_known at what)
        || recorded old one)
        (or_right (same_record one (record_known at what)) (recorded old one) there));
  }

pub added-bytes : (at : ℕ) (here : Option Kept) (what : What) (reference : Reference)
    → sum_by record_bytes (records_added at here what reference)
    ≡ reference_bytes reference + (if is_some here then 0 else extent_record_bytes)
added-bytes at None what reference =
    let first = sum_by-cons record_bytes (ReferenceTo at reference) (record_known at what ∷ []) in
    let second = sum_by-cons record_bytes (record_known at what) [] in
    omega (arith, first, second, known-bytes at what)
added-bytes at (Some kept) what reference =
    let first = sum_by-cons record_bytes (ReferenceTo at reference) [] in
    omega (arith, first)

-- ---- an exchange

abbrev pub record_owed : Owing → Record
record_owed owing = ReferenceTo owing.address owing.reference

-- what is known at its address of a node that comes, if one does
abbrev pub told_at : Option (ℕ × What) → ℕ → Option What
told_at None at = None
told_at (Some come) at = if at == come.0 then Some come.1 else None

abbrev pub records_coming : Option (ℕ × What) → List Record
records_coming None = []
records_coming (Some come) = record_known come.0 come.1 ∷ []

abbrev pub records_gained : Option (ℕ × What) → List Owing → List Record
records_gained come owed = records_coming come ++ map record_owed owed

-- a reference that a list has is among what it records
listed : (owings : List Owing) (at : ℕ) (reference : Reference) → 0 < times owings at reference
    → is_among (map record_owed owings) (ReferenceTo at reference) ≡ true
listed [] at reference some = absurd (omega (arith, some, times-nil at reference))
listed (owing ∷ owings) at reference some =
    let here = same_record (ReferenceTo at reference) (record_owed owing) in
    let split = times-cons owing owings at reference in
    elim (eqb_tells owing.address at) [
      | inl (equal, same) ↦ elim (cases_Bool (same_reference reference owing.reference)) [
        | inl alike ↦
            or_left here (is_among (map record_owed owings) (ReferenceTo at reference))
            (and_from (at == owing.address) (same_reference reference owing.reference)
            (eq-eqb at owing.address (sym same)) alike)
        | inr apart ↦
            let none : one_of reference owing.reference ≡ 0 = cond-false _ _ _ apart in
            let one = times_here owing at reference same in
            or_right here (is_among (map record_owed owings) (ReferenceTo at reference))
            (listed owings at reference (omega (arith, some, split, one, none)))
      ]
      | inr (unequal, differ) ↦
          let none = times_there owing at reference differ in
          or_right here (is_among (map record_owed owings) (ReferenceTo at reference))
          (listed owings at reference (omega (arith, some, split, none)))
    ]

some_what : (kept other : Kept) → ◌≡◌ {A = Option What} (Some kept.what) (Some other.what) → kept.what ≡ other.what
some_what kept other is = cc

known_come : (at : ℕ) (here : Option Kept) (come : Option (ℕ × What)) (kept : Kept) (one : Record)
    → option_or (what_in here) (told_at come at) ≡ Some kept.what
    → same_record one (record_known at kept.what) ≡ true
    → (recorded_in at here one || is_among (records_coming come) one) ≡ true
known_come at (Some old) come kept one known same =
    let is : old.what ≡ kept.what = some_what old kept known in
    or_left (recorded_in at (Some old) one) (is_among (records_coming come) one)
    (or_left (same_record one (record_known at old.what)) _
    (subst (λ (w : What). same_record one (record_known at w) ≡ true) (sym is) same))
known_come at None None kept one known same =
    let wrong : ◌≡◌ {A = Option What} None (Some kept.what) = known in absurd cc
known_come at None (Some come) kept one known same = elim (cases_Bool (at == come.0)) [
  | inl equal ↦
      let place : at ≡ come.0 = eqb-true at come.0 equal in
      let what : ◌≡◌ {A = Option What} (Some come.1) (Some kept.what) = sym (cond-true _ _ _ equal) ∙ known in
      let is : come.1 ≡ kept.what = cc in
      or_left (same_record one (record_known come.0 come.1)) false
      (subst (λ (w : What). same_record one (record_known come.0 w) ≡ true) (sym is)
      (subst (λ (q : ℕ). same_record one (record_known q kept.what) ≡ true) place same))
  | inr unequal ↦
      let wrong : ◌≡◌ {A = Option What} None (Some kept.what) = sym (cond-false _ _ _ unequal) ∙ known in
      absurd cc
]

-- a record that is a reference is one
reference_is : (at : ℕ) (references : List Counted) (one : Record) → referenced at references one ≡ true
    → (reference : Reference) × (one ≡ ReferenceTo at reference) × (0 < count_of references reference)
reference_is at references (ReferenceTo address reference) is =
    let parts = and_parts (address == at) (nat_lt 0 (count_of references reference)) is in
    (reference, ap (λ (q : ℕ). ReferenceTo q reference) (eqb-true address at parts.0), ltb-true 0 _ parts.1)
reference_is at references (ExtentOf address bytes) is = absurd (true≢false (sym is))
reference_is at references (NodeOf address level) is = absurd (true≢false (sym is))
reference_is at references (RootOf tree) is = absurd (true≢false (sym is))
reference_is at references Status is = absurd (true≢false (sym is))
reference_is at references (InfoOf group) is = absurd (true≢false (sym is))
reference_is at references (LimitOf group) is = absurd (true≢false (sym is))
reference_is at references (RelationOf group other) is = absurd (true≢false (sym is))

wider : (o a b : Bool) → (o || a) ≡ true → (o || (a || b)) ≡ true
wider true a b some = refl
wider false true b some = refl
wider false false b some = let wrong : false ≡ true = some in cc

module _ (old new : Book) (owed losses : List Owing) (come : Option (ℕ × What))
    (counts : (at : ℕ) (reference : Reference) → count_at new at reference + times losses at reference
    ≡ count_at old at reference + times owed at reference)
    (known : (at : ℕ) (kept : Kept) → new at ≡ Some kept → option_or (what_in (old at)) (told_at come at)
    ≡ Some kept.what) where
  reference_case : (at : ℕ) (reference : Reference) → 0 < count_at new at reference
      → (recorded old (ReferenceTo at reference) || is_among (records_gained come owed) (ReferenceTo at reference))
      ≡ true
  reference_case at reference some = elim (cases_Bool (nat_lt 0 (count_at old at reference))) [
    | inl there ↦
        or_left (recorded old (ReferenceTo at reference)) _ (reference-there at (old at) reference ∙ there)
    | inr none ↦
        let count = counts at reference in
        let zero : count_at old at reference ≤ 0 = ltb-false 0 (count_at old at reference) none in
        let gained : 0 < times owed at reference = omega (arith, count, some, zero) in
        or_right (recorded old (ReferenceTo at reference)) _
        (list_any-append (same_record (ReferenceTo at reference)) (records_coming come) (map record_owed owed)
        ∙ or_right (is_among (records_coming come) (ReferenceTo at reference)) _ (listed owed at reference gained))
  ]

  each_in : (one : Record) (kept : Option Kept) → new (place_of one) ≡ kept → recorded_in (place_of one) kept one ≡ true
      → (recorded old one || is_among (records_gained come owed) one) ≡ true
  each_in one None here is = absurd (true≢false (sym is))
  each_in one (Some kept) here is =
      let at = place_of one in
      elim (or_cases (same_record one (record_known at kept.what)) (referenced at kept.references one) is) [
        | inl same ↦
            ap (λ (b : Bool). recorded old one || b)
            (list_any-append (same_record one) (records_coming come) (map record_owed owed))
            ∙ wider (recorded old one) (is_among (records_coming come) one) (is_among (map record_owed owed) one)
            (known_come at (old at) come kept one (known at kept here) same)
        | inr there ↦
            let found = reference_is at kept.references one there in
            let count : 0 < count_at new at found.0 =
            subst (λ (k : Option Kept). 0 < count_of (references_in k) found.0) (sym here) found.2 in
            subst (λ (r : Record). (recorded old r || is_among (records_gained come owed) r) ≡ true)
            (sym found.1) (reference_case at found.0 count)
      ]

  pub HasBesides-exchanged : HasBesides old new (records_gained come owed)
  HasBesides-exchanged = record { each = λ one there. each_in one (new (place_of one)) refl there }

owed-records : (owings : List Owing) → sum_by record_bytes (map record_owed owings) ≡ owings_bytes owings
owed-records [] = refl
owed-records (owing ∷ owings) =
    let rest = owed-records owings in
    omega (
      arith,
      rest,
      sum_by-cons record_bytes (record_owed owing) (map record_owed owings),
      sum_by-cons (λ (o : Owing). reference_bytes o.reference) owing owings,
    )

-- what the record of a node takes that comes, if one does
abbrev pub come_bytes : Option (ℕ × What) → ℕ
come_bytes None = 0
come_bytes (Some come) = extent_record_bytes

coming-records : (come : Option (ℕ × What)) → sum_by record_bytes (records_coming come) ≡ come_bytes come
coming-records None = omega arith
coming-records (Some come) =
    let first = sum_by-cons record_bytes (record_known come.0 come.1) [] in
    omega (arith, first, known-bytes come.0 come.1)

pub gained-bytes : (come : Option (ℕ × What)) (ways gains : List Owing)
    → sum_by record_bytes (records_gained come (ways ++ gains))
    ≡ come_bytes come + (owings_bytes ways + owings_bytes gains)
gained-bytes come ways gains =
    let all = sum_by-append record_bytes (records_coming come) (map record_owed (ways ++ gains)) in
    let both = sum_by-append (λ (o : Owing). reference_bytes o.reference) ways gains in
    omega (arith, all, both, owed-records (ways ++ gains), coming-records come)
