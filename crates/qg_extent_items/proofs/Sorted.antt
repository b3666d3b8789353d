-- The references that are told, in their order: the one list of references with these counts.
use Rattle.std.proofs.Common.{◌≡◌, suc, ◌+◌, ◌<◌, Bool, true, false, List, [], ◌∷◌}
use Rattle.std.proofs.Common.{refl, sym, ap, ◌∙◌, arith, cond}
use Rattle.std.specs.Prelude.{not}
use Rattle.std.specs.List.{AllByRecursion, list_all, list_any}
use Rattle.std.proofs.lemmas.Bool.{and_parts, not-true, or_parts}
use Rattle.std.proofs.lemmas.List.Elements.{All-from_recursion, recursion_from_All}
use Rattle.std.proofs.lemmas.List.Kept.{AllPairs-cons}
use Rattle.qg_items.specs.declared.extent.Reference.{Reference}
use Rattle.qg_tree_items.specs.Owed.{is_told_once}
use Rattle.qg_tree_items.specs.Record.{same_reference}
use Rattle.qg_refs.specs.declared.counted.Counted.{Counted}
use Rattle.qg_refs.specs.Counts.{Ascend, IsRefList, count_of, counted}
use Rattle.qg_refs.specs.Order.{precedes}
use Rattle.qg_refs.proofs.Counting.{count-cons as counted-cons, count-nil, counted-other, counted-own}
use Rattle.qg_refs.proofs.RankOrder.{precedes_chain, precedes_differs, precedes_if_not}
use Rattle.qg_refs.proofs.RankOrder.{precedes_or_same}
use Rattle.qg_extents.specs.BookRecords.{is_count, told_count}
use Rattle.qg_extents.proofs.Telling.{Told}
use Rattle.qg_extent_items.specs.Told.{references_told, with_counted}
use Rattle.qg_extent_items.proofs.CountsTold.{IsClean, count-cons, count-some}

-- a reference comes before each of some
abbrev IsBefore : Reference → List Counted → Type 0
IsBefore x entries = AllByRecursion (λ entry. precedes x entry.reference ≡ true) entries

-- each comes before those behind it
abbrev Rise : List Counted → Type 0
Rise [] = Unit {0}
Rise (entry ∷ entries) = IsBefore entry.reference entries × Rise entries

rise_ascend : (entries : List Counted) → Rise entries → Ascend entries
rise_ascend [] rise = λ i j d below inside. absurd (omega (arith, inside))
rise_ascend (entry ∷ entries) rise =
    AllPairs-cons (λ (a b : Counted). precedes a.reference b.reference ≡ true) entry entries
    (All-from_recursion (λ (b : Counted). precedes entry.reference b.reference ≡ true) entries rise.0)
    (rise_ascend entries rise.1)

later_ascend : (entry : Counted) (entries : List Counted) → Ascend (entry ∷ entries) → Ascend entries
later_ascend entry entries up = λ i j d below inside. up (suc i) (suc j) d (omega arith) (omega arith)

ascend_rise : (entries : List Counted) → Ascend entries → Rise entries
ascend_rise [] up = tt
ascend_rise (entry ∷ entries) up = (
  recursion_from_All (λ (b : Counted). precedes entry.reference b.reference ≡ true) entries
      (λ k d inside. up 0 (suc k) d (omega arith) (omega (arith, inside))),
  ascend_rise entries (later_ascend entry entries up),
)

-- ---- one reference more

with_all : (P : Counted → Type 0) (new : Counted) (entries : List Counted) → P new → AllByRecursion P entries
    → AllByRecursion P (with_counted new entries)
with_all P new [] own all = (own, tt)
with_all P new (entry ∷ entries) own all =
    let rest = with_all P new entries own all.1 in
    by (precedes new.reference entry.reference) rest
  where
    by : (b : Bool) → AllByRecursion P (with_counted new entries)
        → AllByRecursion P (cond b (new ∷ entry ∷ entries) (entry ∷ with_counted new entries))
    by true rest = (own, all)
    by false rest = (all.0, rest)

before_chain : (x y : Reference) (entries : List Counted) → precedes x y ≡ true → IsBefore y entries
    → IsBefore x entries
before_chain x y [] first all = tt
before_chain x y (entry ∷ entries) first all =
    (precedes_chain x y entry.reference first all.0, before_chain x y entries first all.1)

with_rise : (new : Counted) (entries : List Counted) → Rise entries
    → AllByRecursion (λ entry. same_reference new.reference entry.reference ≡ false) entries
    → Rise (with_counted new entries)
with_rise new [] rise apart = (tt, tt)
with_rise new (entry ∷ entries) rise apart =
    let rest = with_rise new entries rise.1 apart.1 in
    by (precedes new.reference entry.reference) refl rest
  where
    by : (b : Bool) → precedes new.reference entry.reference ≡ b → Rise (with_counted new entries)
        → Rise (cond b (new ∷ entry ∷ entries) (entry ∷ with_counted new entries))
    by true first rest = ((first, before_chain new.reference entry.reference entries first rise.0), rise)
    by false not' rest = (
      with_all (λ (later : Counted). precedes entry.reference later.reference ≡ true) new entries
          (precedes_if_not entry.reference new.reference not' apart.0) rise.0,
      rest,
    )

with_count : (new : Counted) (entries : List Counted) (x : Reference)
    → count_of (with_counted new entries) x ≡ counted x new + count_of entries x
with_count new [] x = counted-cons new [] x
with_count new (entry ∷ entries) x =
    let rest = with_count new entries x in
    by (precedes new.reference entry.reference) rest
  where
    by : (b : Bool) → count_of (with_counted new entries) x ≡ counted x new + count_of entries x
        → count_of (cond b (new ∷ entry ∷ entries) (entry ∷ with_counted new entries)) x
        ≡ counted x new + count_of (entry ∷ entries) x
    by true rest = counted-cons new (entry ∷ entries) x
    by false rest =
        omega (
          arith,
          counted-cons entry (with_counted new entries) x,
          counted-cons entry entries x,
          rest,
        )

-- ---- all that are told

told_apart : (x : Reference) (told : Told) → list_any (λ other. same_reference x other.0) told ≡ false
    → AllByRecursion (λ entry. same_reference x entry.reference ≡ false) (references_told told)
told_apart x [] none = tt
told_apart x (entry ∷ told) none =
    let parts = or_parts (same_reference x entry.0) (list_any (λ other. same_reference x other.0) told) none in
    with_all (λ (e : Counted). same_reference x e.reference ≡ false)
    (record { reference = entry.0; count = entry.1 }) (references_told told) parts.0 (told_apart x told parts.1)

told_rise : (told : Told) → is_told_once told ≡ true → Rise (references_told told)
told_rise [] once = tt
told_rise (entry ∷ told) once =
    let parts = and_parts (not (list_any (λ other. same_reference entry.0 other.0) told)) (is_told_once told) once in
    with_rise (record { reference = entry.0; count = entry.1 }) (references_told told) (told_rise told parts.1)
    (told_apart entry.0 told (not-true (list_any (λ other. same_reference entry.0 other.0) told) parts.0))

told_counted : (told : Told) → list_all is_count told ≡ true
    → AllByRecursion (λ entry. 0 < entry.count) (references_told told)
told_counted [] counts = tt
told_counted (entry ∷ told) counts =
    let parts = and_parts (is_count entry) (list_all is_count told) counts in
    with_all (λ (e : Counted). 0 < e.count) (record { reference = entry.0; count = entry.1 }) (references_told told)
    (count-some entry parts.0) (told_counted told parts.1)

-- they are a list of references
pub told-list : (told : Told) → IsClean told → IsRefList (references_told told)
told-list told clean = record {
  ascend = rise_ascend (references_told told) (told_rise told clean.once);
  some = All-from_recursion (λ (e : Counted). 0 < e.count) (references_told told) (told_counted told clean.counts);
}

-- with the counts that are told
pub told-count : (told : Told) (x : Reference) → count_of (references_told told) x ≡ told_count told x
told-count [] x = count-nil x
told-count (entry ∷ told) x =
    omega (
      arith,
      with_count (record { reference = entry.0; count = entry.1 }) (references_told told) x,
      count-cons entry told x,
      told-count told x,
    )

-- none only where none is told
pub told-empty : (told : Told) → references_told told ≡ [] → told ≡ []
told-empty [] none = refl
told-empty (entry ∷ told) none =
    absurd (never (record { reference = entry.0; count = entry.1 }) (references_told told) none)
  where
    never : (new : Counted) (entries : List Counted) → with_counted new entries ≡ [] → ⊥
    never new [] h = cc
    never new (first ∷ entries) h = by (precedes new.reference first.reference) h
      where
        by : (b : Bool) → cond b (new ∷ first ∷ entries) (first ∷ with_counted new entries) ≡ [] → ⊥
        by true h = cc
        by false h = cc

-- ---- one list alone

-- one that comes before all is not there
past_none : (x : Reference) (entries : List Counted) → IsBefore x entries → count_of entries x ≡ 0
past_none x [] all = count-nil x
past_none x (entry ∷ entries) all =
    let own = counted-other x entry (precedes_differs x entry.reference all.0) in
    omega (arith, counted-cons entry entries x, own, past_none x entries all.1)

-- the first one has its own count
first_count : (entry : Counted) (entries : List Counted) → IsBefore entry.reference entries
    → count_of (entry ∷ entries) entry.reference ≡ entry.count
first_count entry entries all =
    omega (
      arith,
      counted-cons entry entries entry.reference,
      counted-own entry.reference entry refl,
      past_none entry.reference entries all,
    )

-- and comes before none that is there
first_first : (a b : Counted) (xs ys : List Counted) → IsBefore a.reference xs → IsBefore b.reference ys
    → 0 < a.count → ((x : Reference) → count_of (a ∷ xs) x ≡ count_of (b ∷ ys) x)
    → precedes a.reference b.reference ≡ true → ⊥
first_first a b xs ys all others some same first =
    omega (
      arith,
      first_count a xs all,
      same a.reference,
      some,
      past_none a.reference (b ∷ ys) (first, before_chain a.reference b.reference ys first others),
    )

unless : (b : Bool) → (b ≡ true → ⊥) → b ≡ false
unless true h = absurd (h refl)
unless false h = refl

same_lists : (xs ys : List Counted) → Rise xs → Rise ys → AllByRecursion (λ e. 0 < e.count) xs
    → AllByRecursion (λ e. 0 < e.count) ys → ((x : Reference) → count_of xs x ≡ count_of ys x) → xs ≡ ys
same_lists [] [] rise rise' some some' same = refl
same_lists [] (b ∷ ys) rise rise' some some' same =
    absurd (omega (arith, first_count b ys rise'.0, same b.reference, count-nil b.reference, some'.0))
same_lists (a ∷ xs) [] rise rise' some some' same =
    absurd (omega (arith, first_count a xs rise.0, same a.reference, count-nil a.reference, some.0))
same_lists (a ∷ xs) (b ∷ ys) rise rise' some some' same =
    let reference : a.reference ≡ b.reference =
    precedes_or_same a.reference b.reference
    (unless (precedes a.reference b.reference)
    (λ first. first_first a b xs ys rise.0 rise'.0 some.0 same first))
    (unless (precedes b.reference a.reference)
    (λ first. first_first b a ys xs rise'.0 rise.0 some'.0 (λ x. sym (same x)) first)) in
    let count : a.count ≡ b.count =
    omega (
      arith,
      first_count a xs rise.0,
      first_count b ys rise'.0,
      same a.reference,
      ap (λ (x : Reference). count_of (b ∷ ys) x) reference,
    ) in
    let entry : a ≡ b = (λ i. record { reference = reference i; count = count i }) in
    let rest : (x : Reference) → count_of xs x ≡ count_of ys x =
    λ x. omega (
      arith,
      same x,
      counted-cons a xs x,
      counted-cons b ys x,
      ap (λ (e : Counted). counted x e) entry,
    ) in
    ap (λ (e : Counted). e ∷ xs) entry
    ∙ ap (λ (l : List Counted). b ∷ l) (same_lists xs ys rise.1 rise'.1 some.1 some'.1 rest)

-- two lists of references with the same counts are the same
pub one-list : (xs ys : List Counted) → IsRefList xs → IsRefList ys
    → ((x : Reference) → count_of xs x ≡ count_of ys x) → xs ≡ ys
one-list xs ys is is' same =
    same_lists xs ys (ascend_rise xs is.ascend) (ascend_rise ys is'.ascend)
    (recursion_from_All (λ (e : Counted). 0 < e.count) xs is.some)
    (recursion_from_All (λ (e : Counted). 0 < e.count) ys is'.some) same
