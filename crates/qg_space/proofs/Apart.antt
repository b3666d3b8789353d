-- Runs that lie apart, ascending, and lists of those of them that pass a test. Addresses and lengths are in bytes.
use Rattle.std.proofs.Common.{◌≡◌, ℕ, zero, suc, ◌+◌, ◌<◌, ◌≤◌, Bool, true, false, List, [], ◌∷◌, length, get_or, refl}
use Rattle.std.proofs.Common.{sym, ap, subst, ◌∙◌, arith, ◌⊎◌, inl, inr}
use Rattle.std.specs.Prelude.{◌==◌, ◌&&◌, ◌||◌, nat_le, IsTrue, if◌then◌else◌}
use Rattle.std.specs.List.{AllWithin, filter, list_any, insert}
use Rattle.std.proofs.lemmas.Bool.{and_parts, and_left, and_right, or_parts, cases_Bool, cases_lt, cond-true}
use Rattle.std.proofs.lemmas.Bool.{cond-false, cond_both, eqb-true, ne_eqb, le-leb, lt-leb, leb-true, leb-false}
use Rattle.std.proofs.lemmas.Bool.{true≢false}
use Rattle.qg_super.specs.declared.sizes.Sizes.{Sizes}
use Rattle.qg_super.specs.Places.{is_run}
use Rattle.qg_super.proofs.Runs.{WholeRun-is_run}
use Rattle.qg_image.specs.declared.element.Element.{Element}
use Rattle.qg_image.specs.Space.{overlaps}
use Rattle.qg_space.specs.Run.{Run}
use Rattle.qg_space.specs.Holding.{with_run, is_that_run}
use Rattle.qg_space.specs.Lying.{extents_of, present_of, end_of, LieApart}
use Rattle.qg_space.proofs.Places.{apart_cases}

-- ---- runs in order

pub apart_sooner : (sizes : Sizes) (from sooner : ℕ) (runs : List Run) → sooner ≤ from → LieApart sizes from runs
    → LieApart sizes sooner runs
apart_sooner sizes from sooner [] low apart = tt
apart_sooner sizes from sooner (run ∷ runs) low apart = (apart.0, omega (arith, apart.1), apart.2, apart.3)

pub address_from : (sizes : Sizes) (from : ℕ) (runs : List Run) → LieApart sizes from runs → (k : ℕ) (d : Run)
    → k < length runs → from ≤ (get_or runs k d).extent.address
address_from sizes from [] apart k d short = absurd (omega (arith, short))
address_from sizes from (run ∷ runs) apart zero d short = apart.1
address_from sizes from (run ∷ runs) apart (suc k) d short =
    let later = address_from sizes (end_of run.extent) runs apart.3 k d (omega (arith, short)) in
    omega (arith, later, apart.1)

pub addresses_rise : (sizes : Sizes) (from : ℕ) (runs : List Run) → LieApart sizes from runs → (i j : ℕ) (d : Run)
    → i ≤ j → j < length runs
    → (get_or runs i d).extent.address ≤ (get_or runs j d).extent.address
addresses_rise sizes from [] apart i j d order short = absurd (omega (arith, short))
addresses_rise sizes from (run ∷ runs) apart zero zero d order short = omega arith
addresses_rise sizes from (run ∷ runs) apart zero (suc j) d order short =
    let later = address_from sizes (end_of run.extent) runs apart.3 j d (omega (arith, short)) in
    omega (arith, later)
addresses_rise sizes from (run ∷ runs) apart (suc i) zero d order short = absurd (omega (arith, order))
addresses_rise sizes from (run ∷ runs) apart (suc i) (suc j) d order short =
    addresses_rise sizes (end_of run.extent) runs apart.3 i j d (omega (arith, order)) (omega (arith, short))

-- ---- the extents of those that pass a test

abbrev pub extents_where : (Run → Bool) → List Run → List Element
extents_where test runs = extents_of (filter test runs)

-- each of some extents begins at an address or later
abbrev pub AreFrom : ℕ → List Element → Type 0
AreFrom from [] = Unit {0}
AreFrom from (extent ∷ extents) = (from ≤ extent.address) × AreFrom from extents

pub where_first : (test : Run → Bool) (run : Run) (runs : List Run) → test run ≡ true
    → extents_where test (run ∷ runs) ≡ run.extent ∷ extents_where test runs
where_first test run runs passes =
    ap extents_of (cond-true (test run) (run ∷ filter test runs) (filter test runs) passes)

pub where_skips : (test : Run → Bool) (run : Run) (runs : List Run) → test run ≡ false
    → extents_where test (run ∷ runs) ≡ extents_where test runs
where_skips test run runs fails =
    ap extents_of (cond-false (test run) (run ∷ filter test runs) (filter test runs) fails)

are_sooner : (from sooner : ℕ) (extents : List Element) → sooner ≤ from → AreFrom from extents → AreFrom sooner extents
are_sooner from sooner [] low are = tt
are_sooner from sooner (extent ∷ extents) low are = (omega (arith, are.0), are_sooner from sooner extents low are.1)

pub where_from : (sizes : Sizes) (from : ℕ) (test : Run → Bool) (runs : List Run) → LieApart sizes from runs
    → AreFrom from (extents_where test runs)
where_from sizes from test [] apart = tt
where_from sizes from test (run ∷ runs) apart =
    let later = are_sooner (end_of run.extent) from (extents_where test runs) (omega (arith, apart.1))
    (where_from sizes (end_of run.extent) test runs apart.3) in
    elim (cases_Bool (test run)) [
      | inl passes ↦ subst (AreFrom from) (sym (where_first test run runs passes)) (apart.1, later)
      | inr fails ↦ subst (AreFrom from) (sym (where_skips test run runs fails)) later
    ]

-- ---- a run is put in

-- runs with another one, before the first that does not begin before it
abbrev pub put : Run → List Run → List Run
put new [] = new ∷ []
put new (run ∷ runs) = if nat_le new.extent.address run.extent.address then new ∷ run ∷ runs else run ∷ put new runs

pub put_at : (new : Run) (runs : List Run) (i : ℕ) → i ≤ length runs
    → AllWithin (λ run. run.extent.address < new.extent.address) runs 0 i
    → AllWithin (λ run. new.extent.address ≤ run.extent.address) runs i (length runs) → insert runs i new ≡ put new runs
put_at new [] zero bound before others = refl
put_at new [] (suc i) bound before others = absurd (omega (arith, bound))
put_at new (run ∷ runs) zero bound before others =
    sym (cond-true _ (new ∷ run ∷ runs) (run ∷ put new runs)
    (le-leb new.extent.address run.extent.address (others 0 run (omega arith) (omega arith))))
put_at new (run ∷ runs) (suc i) bound before others =
    ap (λ later. run ∷ later)
    (put_at new runs i (omega (arith, bound)) (λ k d low high. before (suc k) d (omega arith) (omega (arith, high)))
    (λ k d low high. others (suc k) d (omega (arith, low)) (omega (arith, high))))
    ∙ sym (cond-false _ (new ∷ run ∷ runs) (run ∷ put new runs)
    (lt-leb new.extent.address run.extent.address (before 0 run (omega arith) (omega arith))))

-- a run that may be put in
pub record Fits (sizes : Sizes) (new : Run) : Type 0 where
  pub run : IsTrue (is_run sizes new.extent.address new.extent.bytes)
  pub used : IsTrue (new.present || new.held)

pub put_apart : (sizes : Sizes) (from : ℕ) (new : Run) (runs : List Run) → Fits sizes new → from ≤ new.extent.address
    → list_any (overlaps new.extent.address new.extent.bytes) (extents_of runs) ≡ false → LieApart sizes from runs
    → LieApart sizes from (put new runs)
put_apart sizes from new [] fits low clear apart = (fits.run, low, fits.used, tt)
put_apart sizes from new (run ∷ runs) fits low clear apart =
    let parts = or_parts (overlaps new.extent.address new.extent.bytes run.extent)
    (list_any (overlaps new.extent.address new.extent.bytes) (extents_of runs)) clear in
    let whole = WholeRun-is_run sizes new.extent.address new.extent.bytes fits.run in
    let whole' = WholeRun-is_run sizes run.extent.address run.extent.bytes apart.0 in
    let beside = apart_cases new.extent.address new.extent.bytes run.extent parts.0 in
    cond_both (nat_le new.extent.address run.extent.address) (new ∷ run ∷ runs) (run ∷ put new runs)
    (LieApart sizes from)
    (λ first. (
      fits.run,
      low,
      fits.used,
      (apart.0, ends beside (leb-true new.extent.address run.extent.address first) whole'.some, apart.2, apart.3),
    ))
    (λ later. (
      apart.0,
      apart.1,
      apart.2,
      put_apart sizes (end_of run.extent) new runs fits
          (begins beside (leb-false new.extent.address run.extent.address later) whole.some) parts.1 apart.3,
    ))
  where
    ends : (end_of run.extent ≤ new.extent.address) ⊎ (new.extent.address + new.extent.bytes ≤ run.extent.address)
        → new.extent.address ≤ run.extent.address → 0 < run.extent.bytes
        → end_of new.extent ≤ run.extent.address
    ends (inl after) order some = absurd (omega (arith, after, order, some))
    ends (inr before) order some = before

    begins : (end_of run.extent ≤ new.extent.address) ⊎ (new.extent.address + new.extent.bytes ≤ run.extent.address)
        → run.extent.address < new.extent.address → 0 < new.extent.bytes
        → end_of run.extent ≤ new.extent.address
    begins (inl after) order some = after
    begins (inr before) order some = absurd (omega (arith, before, order, some))

with_run_first : (extent : Element) (extents : List Element) → AreFrom extent.address extents
    → with_run extent extents ≡ extent ∷ extents
with_run_first extent [] are = refl
with_run_first extent (first ∷ later) are = cond-true _ (extent ∷ first ∷ later) (first ∷ with_run extent later)
    (le-leb extent.address first.address are.0)

with_run_later : (extent first : Element) (later : List Element) → first.address < extent.address
    → with_run extent (first ∷ later) ≡ first ∷ with_run extent later
with_run_later extent first later order = cond-false _ (extent ∷ first ∷ later) (first ∷ with_run extent later)
    (lt-leb extent.address first.address order)

-- a run that passes a test is put among those that pass it
pub where_put : (sizes : Sizes) (from : ℕ) (test : Run → Bool) (new : Run) (runs : List Run) → LieApart sizes from runs
    → test new ≡ true
    → extents_where test (put new runs) ≡ with_run new.extent (extents_where test runs)
where_put sizes from test new [] apart passes = where_first test new [] passes
where_put sizes from test new (run ∷ runs) apart passes =
    cond_both (nat_le new.extent.address run.extent.address) (new ∷ run ∷ runs) (run ∷ put new runs)
    (λ given. extents_where test given ≡ with_run new.extent (extents_where test (run ∷ runs)))
    (λ first.
    where_first test new (run ∷ runs) passes
    ∙ sym (with_run_first new.extent (extents_where test (run ∷ runs))
    (where_from sizes new.extent.address test (run ∷ runs)
    (apart.0, leb-true new.extent.address run.extent.address first, apart.2, apart.3))))
    (λ later.
    let rest = where_put sizes (end_of run.extent) test new runs apart.3 passes in
    elim (cases_Bool (test run)) [
      | inl also ↦
          where_first test run (put new runs) also ∙ ap (λ given. run.extent ∷ given) rest
          ∙ sym (ap (with_run new.extent) (where_first test run runs also)
          ∙ with_run_later new.extent run.extent (extents_where test runs)
          (leb-false new.extent.address run.extent.address later))
      | inr fails ↦ where_skips test run (put new runs) fails ∙ rest
          ∙ sym (ap (with_run new.extent) (where_skips test run runs fails))
    ])

-- a run that fails a test changes nothing of those that pass it
pub where_put_fails : (test : Run → Bool) (new : Run) (runs : List Run) → test new ≡ false
    → extents_where test (put new runs) ≡ extents_where test runs
where_put_fails test new [] fails = where_skips test new [] fails
where_put_fails test new (run ∷ runs) fails =
    cond_both (nat_le new.extent.address run.extent.address) (new ∷ run ∷ runs) (run ∷ put new runs)
    (λ given. extents_where test given ≡ extents_where test (run ∷ runs))
    (λ first. where_skips test new (run ∷ runs) fails)
    (λ later. elim (cases_Bool (test run)) [
      | inl also ↦ where_first test run (put new runs) also
          ∙ ap (λ given. run.extent ∷ given) (where_put_fails test new runs fails)
          ∙ sym (where_first test run runs also)
      | inr skips ↦ where_skips test run (put new runs) skips ∙ where_put_fails test new runs fails
          ∙ sym (where_skips test run runs skips)
    ])

-- ---- a run is found

none_there : (address bytes from : ℕ) (extents : List Element) → address < from → AreFrom from extents
    → list_any (is_that_run address bytes) extents ≡ false
none_there address bytes from [] short are = refl
none_there address bytes from (extent ∷ extents) short are =
    ap (λ b. b || list_any (is_that_run address bytes) extents)
    (and_left (extent.address == address) (extent.bytes == bytes)
    (ne_eqb extent.address address (λ same. omega (arith, same, short, are.0))))
    ∙ none_there address bytes from extents short are.1

not_that : (address bytes : ℕ) (extent : Element) → extent.address < address → is_that_run address bytes extent ≡ false
not_that address bytes extent less = and_left (extent.address == address) (extent.bytes == bytes)
    (ne_eqb extent.address address (λ same. omega (arith, same, less)))

-- a run that begins before an address is not the one there
has_later : (address bytes : ℕ) (run : Run) (runs : List Run) → run.extent.address < address
    → list_any (is_that_run address bytes) (present_of (run ∷ runs)) ≡ list_any (is_that_run address bytes)
    (present_of runs)
has_later address bytes run runs less = elim (cases_Bool run.present) [
  | inl present ↦
      ap (list_any (is_that_run address bytes)) (where_first (λ run. run.present) run runs present)
      ∙ ap (λ b. b || list_any (is_that_run address bytes) (present_of runs)) (not_that address bytes run.extent less)
  | inr absent ↦ ap (list_any (is_that_run address bytes)) (where_skips (λ run. run.present) run runs absent)
]

-- where all runs begin before an address, none is there
pub has_none : (runs : List Run) (i address bytes : ℕ) → length runs ≤ i
    → AllWithin (λ run. run.extent.address < address) runs 0 i
    → list_any (is_that_run address bytes) (present_of runs) ≡ false
has_none [] i address bytes long before = refl
has_none (run ∷ runs) zero address bytes long before = absurd (omega (arith, long))
has_none (run ∷ runs) (suc i) address bytes long before =
    has_later address bytes run runs (before 0 run (omega arith) (omega arith))
    ∙ has_none runs i address bytes (omega (arith, long))
    (λ k d low high. before (suc k) d (omega arith) (omega (arith, high)))

-- the first that does not begin before an address is the only one that may be there
pub has_at : (sizes : Sizes) (from : ℕ) (runs : List Run) (i address bytes : ℕ) (d : Run) → LieApart sizes from runs
    → i < length runs → AllWithin (λ run. run.extent.address < address) runs 0 i
    → address ≤ (get_or runs i d).extent.address
    → list_any (is_that_run address bytes) (present_of runs) ≡ (is_that_run address bytes (get_or runs i d).extent
    && (get_or runs i d).present)
has_at sizes from [] i address bytes d apart short before low = absurd (omega (arith, short))
has_at sizes from (run ∷ runs) zero address bytes d apart short before low =
    let whole = WholeRun-is_run sizes run.extent.address run.extent.bytes apart.0 in
    let none = none_there address bytes (end_of run.extent) (present_of runs) (omega (arith, low, whole.some))
    (where_from sizes (end_of run.extent) (λ run. run.present) runs apart.3) in
    let is = is_that_run address bytes run.extent in
    elim (cases_Bool run.present) [
      | inl present ↦
          ap (list_any (is_that_run address bytes)) (where_first (λ run. run.present) run runs present)
          ∙ ap (λ b. is || b) none ∙ or_none is ∙ sym (ap (λ b. is && b) present ∙ and_all is)
      | inr absent ↦ ap (list_any (is_that_run address bytes)) (where_skips (λ run. run.present) run runs absent) ∙ none
          ∙ sym (and_right is run.present absent)
    ]
  where
    or_none : (b : Bool) → (b || false) ≡ b
    or_none true = refl
    or_none false = refl

    and_all : (b : Bool) → (b && true) ≡ b
    and_all true = refl
    and_all false = refl
has_at sizes from (run ∷ runs) (suc i) address bytes d apart short before low =
    has_later address bytes run runs (before 0 run (omega arith) (omega arith))
    ∙ has_at sizes (end_of run.extent) runs i address bytes d apart.3 (omega (arith, short))
    (λ k d low high. before (suc k) d (omega arith) (omega (arith, high))) low

-- the present run at an index is that one
pub record IsAt (runs : List Run) (i address bytes : ℕ) : Type 0 where
  pub within : i < length runs
  pub begin : (d : Run) → (get_or runs i d).extent.address ≡ address
  pub long : (d : Run) → (get_or runs i d).extent.bytes ≡ bytes
  pub present : (d : Run) → (get_or runs i d).present ≡ true

-- where no run before an index begins at an address or later, and none from it on before it, a present run of that
-- address is there
pub found_at : (sizes : Sizes) (from : ℕ) (runs : List Run) (i address bytes : ℕ) → LieApart sizes from runs
    → AllWithin (λ run. run.extent.address < address) runs 0 i
    → AllWithin (λ run. address ≤ run.extent.address) runs i (length runs)
    → list_any (is_that_run address bytes) (present_of runs) ≡ true → IsAt runs i address bytes
found_at sizes from runs i address bytes apart before others has = elim (cases_lt i (length runs)) [
  | inl short ↦
      let parts : (d : Run) → (is_that_run address bytes (get_or runs i d).extent ≡ true)
      × ((get_or runs i d).present ≡ true) = λ d.
      and_parts (is_that_run address bytes (get_or runs i d).extent) (get_or runs i d).present
      (sym (has_at sizes from runs i address bytes d apart short before (others i d (omega arith) short)) ∙ has) in
      let same : (d : Run) → (((get_or runs i d).extent.address == address) ≡ true)
      × (((get_or runs i d).extent.bytes == bytes) ≡ true) = λ d.
      and_parts ((get_or runs i d).extent.address == address) ((get_or runs i d).extent.bytes == bytes) (parts d).0 in
      record {
        within = short;
        begin = λ d. eqb-true (get_or runs i d).extent.address address (same d).0;
        long = λ d. eqb-true (get_or runs i d).extent.bytes bytes (same d).1;
        present = λ d. (parts d).1;
      }
  | inr long ↦ absurd (true≢false (sym has ∙ has_none runs i address bytes long before))
]
