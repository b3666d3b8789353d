-- A run in the middle of others is changed or taken out, and a commit. Addresses and lengths are in bytes.
use Rattle.std.proofs.Common.{◌≡◌, ℕ, suc, ◌<◌, ◌≤◌, Bool, true, false, List, [], ◌∷◌, ◌++◌, length, get_or, take, drop}
use Rattle.std.proofs.Common.{map, refl, sym, ap, subst, ◌∙◌, arith, inl, inr}
use Rattle.std.specs.Prelude.{◌==◌, ◌||◌, not, IsTrue}
use Rattle.std.specs.List.{AllWithin, filter, insert, remove, list_any}
use Rattle.std.proofs.Math.ListN.{set}
use Rattle.std.proofs.lemmas.Bool.{and_left, and_from, and_parts, not-true, or_right, cases_Bool, cond-true, cond-false}
use Rattle.std.proofs.lemmas.Bool.{ne_eqb, eq-eqb}
use Rattle.std.proofs.lemmas.List.{map-append, set-get_or, set_split}
use Rattle.std.proofs.lemmas.List.Elements.{filter-append}
use Rattle.qg_super.specs.declared.sizes.Sizes.{Sizes}
use Rattle.qg_super.specs.Places.{data_begin, is_run, is_served}
use Rattle.qg_super.proofs.Runs.{WholeRun-is_run}
use Rattle.qg_image.specs.declared.element.Element.{Element}
use Rattle.qg_image.specs.Space.{overlaps}
use Rattle.qg_space.specs.Run.{Run, FitsRun}
use Rattle.qg_space.specs.Holding.{is_clear, with_run, without_run, is_that_run}
use Rattle.qg_space.specs.Lying.{extents_of, present_of, held_of, end_of, with_held, LieApart}
use Rattle.qg_space.proofs.Places.{fits_run}
use Rattle.qg_space.proofs.Apart.{apart_sooner, extents_where, AreFrom, where_from, where_first, where_skips, where_put}
use Rattle.qg_space.proofs.Apart.{where_put_fails, put, put_at, put_apart, IsAt, found_at}

-- ---- the lists around a run

pub where_middle : (test : Run → Bool) (before : List Run) (after : List Run)
    → extents_where test (before ++ after) ≡ extents_where test before ++ extents_where test after
where_middle test before after = ap extents_of (filter-append test before after)
    ∙ map-append (λ (run : Run). run.extent) (filter test before) (filter test after)

-- a run that fails a test may be left out
pub where_without : (test : Run → Bool) (before : List Run) (run : Run) (after : List Run) → test run ≡ false
    → extents_where test (before ++ run ∷ after) ≡ extents_where test (before ++ after)
where_without test before run after fails =
    where_middle test before (run ∷ after)
    ∙ ap (λ later. extents_where test before ++ later) (where_skips test run after fails)
    ∙ sym (where_middle test before after)

-- a run that passes a test as another one of the same extent does may stand for it
pub where_same : (test : Run → Bool) (before : List Run) (run other : Run) (after : List Run)
    → other.extent ≡ run.extent → test run ≡ true → test other ≡ true
    → extents_where test (before ++ other ∷ after) ≡ extents_where test (before ++ run ∷ after)
where_same test before run other after same passes also =
    where_middle test before (other ∷ after)
    ∙ ap (λ later. extents_where test before ++ later) (where_first test other after also
    ∙ ap (λ extent. extent ∷ extents_where test after) same ∙ sym (where_first test run after passes))
    ∙ sym (where_middle test before (run ∷ after))

-- ---- the order

pub swap_apart : (sizes : Sizes) (from : ℕ) (before : List Run) (run other : Run) (after : List Run)
    → other.extent ≡ run.extent → IsTrue (other.present || other.held)
    → LieApart sizes from (before ++ run ∷ after) → LieApart sizes from (before ++ other ∷ after)
swap_apart sizes from [] run other after same used apart =
    subst (λ (extent : Element). LieApart sizes from (record {
      extent = extent;
      present = other.present;
      held = other.held;
    } ∷ after)) (sym same) (apart.0, apart.1, used, apart.3)
swap_apart sizes from (first ∷ before) run other after same used apart =
    (apart.0, apart.1, apart.2, swap_apart sizes (end_of first.extent) before run other after same used apart.3)

pub drop_apart : (sizes : Sizes) (from : ℕ) (before : List Run) (run : Run) (after : List Run)
    → LieApart sizes from (before ++ run ∷ after) → LieApart sizes from (before ++ after)
drop_apart sizes from [] run after apart =
    apart_sooner sizes (end_of run.extent) from after (omega (arith, apart.1)) apart.3
drop_apart sizes from (first ∷ before) run after apart =
    (apart.0, apart.1, apart.2, drop_apart sizes (end_of first.extent) before run after apart.3)

middle_from : (sizes : Sizes) (from : ℕ) (before : List Run) (run : Run) (after : List Run)
    → LieApart sizes from (before ++ run ∷ after) → from ≤ run.extent.address
middle_from sizes from [] run after apart = apart.1
middle_from sizes from (first ∷ before) run after apart =
    omega (arith, apart.1, middle_from sizes (end_of first.extent) before run after apart.3)

-- ---- a present run is taken out

none_taken : (address bytes from : ℕ) (extents : List Element) → address < from → AreFrom from extents
    → without_run address bytes extents ≡ extents
none_taken address bytes from [] short are = refl
none_taken address bytes from (extent ∷ extents) short are =
    let other = and_left (extent.address == address) (extent.bytes == bytes)
    (ne_eqb extent.address address (λ same. omega (arith, same, short, are.0))) in
    cond-true _ (extent ∷ without_run address bytes extents) (without_run address bytes extents) (ap not other)
    ∙ ap (λ later. extent ∷ later) (none_taken address bytes from extents short are.1)

pub taken_out : (sizes : Sizes) (from : ℕ) (before : List Run) (run : Run) (after : List Run)
    → LieApart sizes from (before ++ run ∷ after) → run.present ≡ true
    → present_of (before ++ after) ≡ without_run run.extent.address run.extent.bytes
    (present_of (before ++ run ∷ after))
taken_out sizes from [] run after apart present =
    let whole = WholeRun-is_run sizes run.extent.address run.extent.bytes apart.0 in
    let is = and_from (run.extent.address == run.extent.address) (run.extent.bytes == run.extent.bytes)
    (eq-eqb run.extent.address run.extent.address refl) (eq-eqb run.extent.bytes run.extent.bytes refl) in
    let without = without_run run.extent.address run.extent.bytes (present_of after) in
    sym (ap (without_run run.extent.address run.extent.bytes) (where_first (λ run. run.present) run after present)
    ∙ cond-false _ (run.extent ∷ without) without (ap not is)
    ∙ none_taken run.extent.address run.extent.bytes (end_of run.extent) (present_of after) (omega (arith, whole.some))
    (where_from sizes (end_of run.extent) (λ run. run.present) after apart.3))
taken_out sizes from (first ∷ before) run after apart present =
    let whole = WholeRun-is_run sizes first.extent.address first.extent.bytes apart.0 in
    let later = middle_from sizes (end_of first.extent) before run after apart.3 in
    let other = and_left (first.extent.address == run.extent.address) (first.extent.bytes == run.extent.bytes)
    (ne_eqb first.extent.address run.extent.address (λ same. omega (arith, same, later, whole.some))) in
    let rest = taken_out sizes (end_of first.extent) before run after apart.3 present in
    let present_later = present_of (before ++ run ∷ after) in
    let without = without_run run.extent.address run.extent.bytes present_later in
    elim (cases_Bool first.present) [
      | inl also ↦
          where_first (λ run. run.present) first (before ++ after) also ∙ ap (λ given. first.extent ∷ given) rest
          ∙ sym (ap (without_run run.extent.address run.extent.bytes)
          (where_first (λ run. run.present) first (before ++ run ∷ after) also)
          ∙ cond-true _ (first.extent ∷ without) without (ap not other))
      | inr absent ↦
          where_skips (λ run. run.present) first (before ++ after) absent ∙ rest
          ∙ sym (ap (without_run run.extent.address run.extent.bytes)
          (where_skips (λ run. run.present) first (before ++ run ∷ after) absent))
    ]

-- ---- what edits leave

-- a run is put in, held by the present state
pub record IsPut (sizes : Sizes) (runs edited : List Run) (extent : Element) : Type 0 where
  pub apart : LieApart sizes data_begin edited
  pub present : present_of edited ≡ with_run extent (present_of runs)
  pub held : held_of edited ≡ held_of runs

-- such a run fits, in an image of sizes that are served
pub clear_fits : (sizes : Sizes) (runs : List Run) (extent : Element) → is_served sizes ≡ true
    → is_clear sizes (extents_of runs) extent.address extent.bytes ≡ true → FitsRun extent
unfolding is_clear
clear_fits sizes runs extent served clear =
    fits_run sizes extent served
    (and_parts (is_run sizes extent.address extent.bytes)
    (not (list_any (overlaps extent.address extent.bytes) (extents_of runs))) clear).0

pub put_kept : (sizes : Sizes) (runs seen edited : List Run) (i : ℕ) (extent : Element) → LieApart sizes data_begin runs
    → is_clear sizes (extents_of runs) extent.address extent.bytes ≡ true
    → seen ≡ runs → i ≤ length seen → AllWithin (λ run. run.extent.address < extent.address) seen 0 i
    → AllWithin (λ run. extent.address ≤ run.extent.address) seen i (length seen)
    → edited ≡ insert runs i (record { extent = extent; present = true; held = false }) → IsPut sizes runs edited extent
unfolding is_clear
put_kept sizes runs seen edited i extent apart clear same bound before others is =
    let new : Run = record { extent = extent; present = true; held = false } in
    let put' = is ∙ ap (λ (xs : List Run). insert xs i new) (sym same) ∙ put_at new seen i bound before others
    ∙ ap (put new) same in
    let parts = and_parts (is_run sizes extent.address extent.bytes)
    (not (list_any (overlaps extent.address extent.bytes) (extents_of runs))) clear in
    let whole = WholeRun-is_run sizes extent.address extent.bytes parts.0 in
    record {
      apart = subst (LieApart sizes data_begin) (sym put')
          (put_apart sizes data_begin new runs (record { run = parts.0; used = refl }) whole.begin
          (not-true _ parts.1) apart);
      present = ap present_of put' ∙ where_put sizes data_begin (λ run. run.present) new runs apart refl;
      held = ap held_of put' ∙ where_put_fails (λ run. run.held) new runs refl;
    }

-- a run is taken from the present state
pub record IsTakenOut (sizes : Sizes) (runs edited : List Run) (address bytes : ℕ) : Type 0 where
  pub apart : LieApart sizes data_begin edited
  pub present : present_of edited ≡ without_run address bytes (present_of runs)
  pub held : held_of edited ≡ held_of runs

pub found_in : (sizes : Sizes) (runs seen : List Run) (i address bytes : ℕ) → LieApart sizes data_begin runs
    → list_any (is_that_run address bytes) (present_of runs) ≡ true
    → seen ≡ runs → AllWithin (λ run. run.extent.address < address) seen 0 i
    → AllWithin (λ run. address ≤ run.extent.address) seen i (length seen) → IsAt runs i address bytes
found_in sizes runs seen i address bytes apart has same before others =
    let At : List Run → Type 0 = λ xs. IsAt xs i address bytes in
    subst At same
    (found_at sizes data_begin seen i address bytes (subst (LieApart sizes data_begin) (sym same) apart) before others
    (ap (λ (xs : List Run). list_any (is_that_run address bytes) (present_of xs)) same ∙ has))

split_at : (runs : List Run) (i : ℕ) (run : Run) → i < length runs → run ≡ get_or runs i run
    → runs ≡ take i runs ++ run ∷ drop (suc i) runs
split_at runs i run short is =
    sym (set-get_or runs i run) ∙ set_split runs i (get_or runs i run) short
    ∙ ap (λ (r : Run). take i runs ++ r ∷ drop (suc i) runs) (sym is)

without_there : (sizes : Sizes) (runs : List Run) (i address bytes : ℕ) (run : Run) → LieApart sizes data_begin runs
    → IsAt runs i address bytes → run ≡ get_or runs i run
    → present_of (take i runs ++ drop (suc i) runs) ≡ without_run address bytes (present_of runs)
without_there sizes runs i address bytes run apart at is =
    let split = split_at runs i run at.within is in
    taken_out sizes data_begin (take i runs) run (drop (suc i) runs) (subst (LieApart sizes data_begin) split apart)
    (ap (λ (r : Run). r.present) is ∙ at.present run)
    ∙ ap (λ n. without_run n run.extent.bytes (present_of (take i runs ++ run ∷ drop (suc i) runs)))
    (ap (λ (r : Run). r.extent.address) is ∙ at.begin run)
    ∙ ap (λ n. without_run address n (present_of (take i runs ++ run ∷ drop (suc i) runs)))
    (ap (λ (r : Run). r.extent.bytes) is ∙ at.long run)
    ∙ ap (λ (xs : List Run). without_run address bytes (present_of xs)) (sym split)

-- it stays while the last commit holds it
pub taken_by_mark : (sizes : Sizes) (runs edited : List Run) (i address bytes : ℕ) (run marked : Run)
    → LieApart sizes data_begin runs → IsAt runs i address bytes
    → run ≡ get_or runs i run → run.held ≡ true → marked ≡ record {
      extent = run.extent;
      present = false;
      held = run.held;
    } → edited ≡ set runs i marked → IsTakenOut sizes runs edited address bytes
taken_by_mark sizes runs edited i address bytes run marked apart at is held mark changed =
    let split = split_at runs i run at.within is in
    let is_edited = changed ∙ set_split runs i marked at.within in
    let absent = ap (λ (r : Run). r.present) mark in
    let still = ap (λ (r : Run). r.held) mark ∙ held in
    let same = ap (λ (r : Run). r.extent) mark in
    record {
      apart = subst (LieApart sizes data_begin) (sym is_edited)
          (swap_apart sizes data_begin (take i runs) run marked (drop (suc i) runs) same
          (or_right marked.present marked.held still) (subst (LieApart sizes data_begin) split apart));
      present = ap present_of is_edited ∙ where_without (λ run. run.present) (take i runs) marked
          (drop (suc i) runs) absent ∙ without_there sizes runs i address bytes run apart at is;
      held = ap held_of is_edited ∙ where_same (λ run. run.held) (take i runs) run marked (drop (suc i) runs) same held
          still ∙ ap held_of (sym split);
    }

-- it goes where the last commit does not hold it
pub taken_by_removal : (sizes : Sizes) (runs edited : List Run) (i address bytes : ℕ) (run : Run)
    → LieApart sizes data_begin runs → IsAt runs i address bytes
    → run ≡ get_or runs i run → run.held ≡ false → edited ≡ remove runs i → IsTakenOut sizes runs edited address bytes
taken_by_removal sizes runs edited i address bytes run apart at is free changed =
    let split = split_at runs i run at.within is in
    record {
      apart = subst (LieApart sizes data_begin) (sym changed)
          (drop_apart sizes data_begin (take i runs) run (drop (suc i) runs)
          (subst (LieApart sizes data_begin) split apart));
      present = ap present_of changed ∙ without_there sizes runs i address bytes run apart at is;
      held = ap held_of changed ∙ sym (where_without (λ run. run.held) (take i runs) run (drop (suc i) runs) free)
          ∙ ap held_of (sym split);
    }

-- ---- a commit

-- the runs that are held after a commit
abbrev pub committed_runs : List Run → List Run
committed_runs runs = map with_held (filter (λ run. run.present) runs)

committed_first : (run : Run) (runs : List Run) → run.present ≡ true
    → committed_runs (run ∷ runs) ≡ with_held run ∷ committed_runs runs
committed_first run runs present =
    ap (map with_held) (cond-true run.present (run ∷ filter (λ run. run.present) runs)
    (filter (λ run. run.present) runs) present)

committed_skips : (run : Run) (runs : List Run) → run.present ≡ false
    → committed_runs (run ∷ runs) ≡ committed_runs runs
committed_skips run runs absent =
    ap (map with_held) (cond-false run.present (run ∷ filter (λ run. run.present) runs)
    (filter (λ run. run.present) runs) absent)

pub committed_apart : (sizes : Sizes) (from : ℕ) (runs : List Run) → LieApart sizes from runs
    → LieApart sizes from (committed_runs runs)
committed_apart sizes from [] apart = tt
committed_apart sizes from (run ∷ runs) apart =
    let later = committed_apart sizes (end_of run.extent) runs apart.3 in
    elim (cases_Bool run.present) [
      | inl present ↦ subst (LieApart sizes from) (sym (committed_first run runs present))
          (apart.0, apart.1, or_right run.present true refl, later)
      | inr absent ↦ subst (LieApart sizes from) (sym (committed_skips run runs absent))
          (apart_sooner sizes (end_of run.extent) from (committed_runs runs) (omega (arith, apart.1)) later)
    ]

pub present_committed : (runs : List Run) → present_of (committed_runs runs) ≡ present_of runs
present_committed [] = refl
present_committed (run ∷ runs) = elim (cases_Bool run.present) [
  | inl present ↦
      ap present_of (committed_first run runs present)
      ∙ where_first (λ run. run.present) (with_held run) (committed_runs runs) present
      ∙ ap (λ later. run.extent ∷ later) (present_committed runs)
      ∙ sym (where_first (λ run. run.present) run runs present)
  | inr absent ↦ ap present_of (committed_skips run runs absent) ∙ present_committed runs
      ∙ sym (where_skips (λ run. run.present) run runs absent)
]

pub held_committed : (runs : List Run) → held_of (committed_runs runs) ≡ present_of runs
held_committed [] = refl
held_committed (run ∷ runs) = elim (cases_Bool run.present) [
  | inl present ↦
      ap held_of (committed_first run runs present)
      ∙ ap (λ later. run.extent ∷ later) (held_committed runs) ∙ sym (where_first (λ run. run.present) run runs present)
  | inr absent ↦ ap held_of (committed_skips run runs absent) ∙ held_committed runs
      ∙ sym (where_skips (λ run. run.present) run runs absent)
]

-- ---- a commit's edit

-- only the present runs are left, and the last commit holds them
pub record IsCommitted (runs edited : List Run) : Type 0 where
  pub apart : (sizes : Sizes) (from : ℕ) → LieApart sizes from runs → LieApart sizes from edited
  pub present : present_of edited ≡ present_of runs
  pub held : held_of edited ≡ present_of runs

pub runs_committed : (runs kept edited : List Run) → kept ≡ filter (λ run. run.present) runs
    → edited ≡ map with_held kept → IsCommitted runs edited
runs_committed runs kept edited keeps holds =
    let is = holds ∙ ap (map with_held) keeps in
    record {
      apart = λ sizes from apart. subst (LieApart sizes from) (sym is) (committed_apart sizes from runs apart);
      present = ap present_of is ∙ present_committed runs;
      held = ap held_of is ∙ held_committed runs;
    }
