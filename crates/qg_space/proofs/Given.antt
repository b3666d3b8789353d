-- Some runs are taken from the present state at once. Addresses and lengths are in bytes.
use Rattle.std.proofs.Common.{◌≡◌, ℕ, zero, suc, ◌+◌, ◌<◌, ◌≤◌, Bool, true, false, List, [], ◌∷◌, ◌++◌, length, get_or}
use Rattle.std.proofs.Common.{take, map, refl, sym, ap, subst, ◌∙◌, arith, inl, inr}
use Rattle.std.specs.Prelude.{◌==◌, ◌&&◌, ◌||◌, not}
use Rattle.std.specs.List.{AllWithin, Contains, filter}
use Rattle.std.specs.List.Sorted.{IsNonDecreasingBy}
use Rattle.std.proofs.Math.ListN.{set}
use Rattle.std.proofs.lemmas.Bool.{and_left, and_right, and_from, or_right, cases_Bool, cond-true, cond-false}
use Rattle.std.proofs.lemmas.Bool.{cond_both, ne_eqb, eq-eqb}
use Rattle.std.proofs.lemmas.List.{get_or-map, length-map, take_more}
use Rattle.std.proofs.lemmas.List.Folds.{list_any-append}
use Rattle.qg_super.specs.declared.sizes.Sizes.{Sizes}
use Rattle.qg_super.specs.Places.{data_begin}
use Rattle.qg_super.proofs.Runs.{WholeRun-is_run}
use Rattle.qg_image.specs.declared.element.Element.{Element}
use Rattle.qg_space.specs.Run.{Run}
use Rattle.qg_space.specs.Holding.{is_one_of, is_that_run, without_runs}
use Rattle.qg_space.specs.Lying.{present_of, held_of, end_of, given_back, is_used, LieApart}
use Rattle.qg_space.proofs.Apart.{apart_sooner, address_from, addresses_rise, extents_where, where_first, where_skips}
use Rattle.qg_space.proofs.Apart.{IsAt, found_at}
use Rattle.qg_space.proofs.Members.{passes_one, is_that}

-- ---- none

-- without none they are the same
pub without_none : (none runs : List Element) → length none < 1 → without_runs none runs ≡ runs
without_none [] [] few = refl
without_none [] (run ∷ runs) few = ap (λ (later : List Element). run ∷ later) (without_none [] runs few)
without_none (extent ∷ extents) runs few = absurd (omega (arith, few))

-- ---- none and one more are marked

or_none : (b : Bool) → (b || false) ≡ b
or_none true = refl
or_none false = refl

back_always : (b : Bool) → (b && true) ≡ b
back_always true = refl
back_always false = refl

-- of none all runs stay as they are
pub given_none : (runs : List Run) → runs ≡ map (given_back []) runs
given_none [] = refl
given_none (run ∷ runs) =
    let With : Bool → Run = λ b. record { extent = run.extent; present = b; held = run.held } in
    ap (λ b. With b ∷ runs) (sym (back_always run.present)) ∙ ap (λ (later : List Run). given_back [] run ∷ later)
    (given_none runs)

-- another run stays as it is with one extent more
given_other : (given : List Element) (extent : Element) (run : Run)
    → is_that_run extent.address extent.bytes run.extent ≡ false
    → given_back given run ≡ given_back (given ++ extent ∷ []) run
given_other given extent run other =
    let that : Element → Bool = λ (e : Element). is_that_run e.address e.bytes run.extent in
    let same : is_one_of (given ++ extent ∷ []) run.extent ≡ is_one_of given run.extent =
    list_any-append that given (extent ∷ []) ∙ ap (λ b. is_one_of given run.extent || (b || false)) other
    ∙ or_none (is_one_of given run.extent) in
    let With : Bool → Run = λ b. record { extent = run.extent; present = run.present && not b; held = run.held } in
    ap With (sym same)

others_later : (sizes : Sizes) (from : ℕ) (given : List Element) (extent : Element) (runs : List Run)
    → LieApart sizes from runs → extent.address < from
    → map (given_back given) runs ≡ map (given_back (given ++ extent ∷ [])) runs
others_later sizes from given extent [] apart before = refl
others_later sizes from given extent (run ∷ runs) apart before =
    let other = and_left (run.extent.address == extent.address) (run.extent.bytes == extent.bytes)
    (ne_eqb run.extent.address extent.address (λ same. omega (arith, same, before, apart.1))) in
    ap (λ (r : Run). r ∷ map (given_back given) runs) (given_other given extent run other)
    ∙ ap (λ (later : List Run). given_back (given ++ extent ∷ []) run ∷ later)
    (others_later sizes (end_of run.extent) given extent runs apart.3 (omega (arith, before, apart.1)))

-- the run of an extent is one of those that it is among
among_last : (given : List Element) (extent : Element) (run : Run)
    → is_that_run extent.address extent.bytes run.extent ≡ true → is_one_of (given ++ extent ∷ []) run.extent ≡ true
among_last given extent run is =
    let that : Element → Bool = λ (e : Element). is_that_run e.address e.bytes run.extent in
    list_any-append that given (extent ∷ []) ∙ or_right (is_one_of given run.extent) (that extent || false)
    (ap (λ b. b || false) is)

-- a run that the present state doesn't hold
abbrev pub not_present : Run → Run
not_present run = record { extent = run.extent; present = false; held = run.held }

-- the run of the next extent is marked, and no other
given_more : (sizes : Sizes) (from : ℕ) (given : List Element) (extent : Element) (runs : List Run) (i : ℕ) (read : Run)
    → LieApart sizes from runs → IsAt runs i extent.address extent.bytes
    → read ≡ get_or (map (given_back given) runs) i read → set (map (given_back given) runs) i (not_present read)
    ≡ map (given_back (given ++ extent ∷ [])) runs
given_more sizes from given extent [] i read apart at is = absurd (omega (arith, at.within))
given_more sizes from given extent (run ∷ runs) zero read apart at is =
    let whole = WholeRun-is_run sizes run.extent.address run.extent.bytes apart.0 in
    let begin : run.extent.address ≡ extent.address = at.begin run in
    let that = and_from (run.extent.address == extent.address) (run.extent.bytes == extent.bytes)
    (eq-eqb run.extent.address extent.address begin) (eq-eqb run.extent.bytes extent.bytes (at.long run)) in
    let goes : (run.present && not (is_one_of (given ++ extent ∷ []) run.extent)) ≡ false =
    and_right run.present (not (is_one_of (given ++ extent ∷ []) run.extent))
    (ap not (among_last given extent run that)) in
    let With : Bool → Run = λ b. record { extent = run.extent; present = b; held = run.held } in
    ap (λ (r : Run). r ∷ map (given_back given) runs) (ap not_present is ∙ ap With (sym goes))
    ∙ ap (λ (later : List Run). given_back (given ++ extent ∷ []) run ∷ later)
    (others_later sizes (end_of run.extent) given extent runs apart.3 (omega (arith, begin, whole.some)))
given_more sizes from given extent (run ∷ runs) (suc i) read apart at is =
    let whole = WholeRun-is_run sizes run.extent.address run.extent.bytes apart.0 in
    let later : IsAt runs i extent.address extent.bytes = record {
      within = omega (arith, at.within);
      begin = at.begin;
      long = at.long;
      present = at.present;
    } in
    let after = address_from sizes (end_of run.extent) runs apart.3 i run later.within in
    let other = and_left (run.extent.address == extent.address) (run.extent.bytes == extent.bytes)
    (ne_eqb run.extent.address extent.address (λ same. omega (arith, same, after, at.begin run, whole.some))) in
    ap (λ (r : Run). r ∷ set (map (given_back given) runs) i (not_present read)) (given_other given extent run other)
    ∙ ap (λ (rest : List Run). given_back (given ++ extent ∷ []) run ∷ rest)
    (given_more sizes (end_of run.extent) given extent runs i read apart.3 later is)

-- so it is with the first extents, as they are read
pub given_next : (sizes : Sizes) (runs marked : List Run) (extents : List Element) (n : ℕ) (extent : Element) (i : ℕ)
    (read new : Run) → LieApart sizes data_begin runs → n < length extents
    → extent ≡ get_or extents n extent → marked ≡ map (given_back (take n extents)) runs
    → IsAt runs i extent.address extent.bytes → read ≡ get_or marked i read → new ≡ not_present read
    → set marked i new ≡ map (given_back (take (n + 1) extents)) runs
given_next sizes runs marked extents n extent i read new apart short there marks at is changed =
    let more = take_more extents n extent short ∙ ap (λ (e : Element). take n extents ++ e ∷ []) (sym there) in
    ap (set marked i) changed ∙ ap (λ (xs : List Run). set xs i (not_present read)) marks
    ∙ given_more sizes data_begin (take n extents) extent runs i read apart at (is
    ∙ ap (λ (xs : List Run). get_or xs i read) marks)
    ∙ sym (ap (λ (given : List Element). map (given_back given) runs) more)

-- ---- a run is found among those of which some are marked

-- an address is said of a run where it is said of it marked
marked_within : (P : ℕ → Type 0) (given : List Element) (runs : List Run) (low high : ℕ) → high ≤ length runs
    → AllWithin (λ (run : Run). P run.extent.address) (map (given_back given) runs) low high
    → AllWithin (λ (run : Run). P run.extent.address) runs low high
marked_within P given runs low high bound all k d above below =
    subst P (ap (λ (r : Run). r.extent.address)
    (get_or-map (given_back given) runs k d d (omega (arith, bound, below)))) (all k d above below)

-- marked runs ascend
pub marked_rise : (sizes : Sizes) (from : ℕ) (given : List Element) (runs : List Run) → LieApart sizes from runs
    → IsNonDecreasingBy (λ (run : Run). run.extent.address) (map (given_back given) runs)
marked_rise sizes from given runs apart i j d order short =
    let few : j < length runs = omega (arith, short, length-map runs (given_back given)) in
    let first = ap (λ (r : Run). r.extent.address)
    (get_or-map (given_back given) runs i d d (omega (arith, order, few))) in
    let second = ap (λ (r : Run). r.extent.address) (get_or-map (given_back given) runs j d d few) in
    omega (arith, first, second, addresses_rise sizes from runs apart i j d order few)

-- the run of an extent is found where the search for its address ends
pub found_marked : (sizes : Sizes) (given : List Element) (runs marked : List Run) (i : ℕ) (extent : Element)
    → LieApart sizes data_begin runs → Contains (present_of runs) extent
    → marked ≡ map (given_back given) runs → i ≤ length marked
    → AllWithin (λ (run : Run). run.extent.address < extent.address) marked 0 i
    → AllWithin (λ (run : Run). extent.address ≤ run.extent.address) marked i (length marked)
    → IsAt runs i extent.address extent.bytes
found_marked sizes given runs marked i extent apart has is bound before others =
    let long : length marked ≡ length runs = ap length is ∙ length-map runs (given_back given) in
    let Before : List Run → Type 0 = λ xs. AllWithin (λ (run : Run). run.extent.address < extent.address) xs 0 i in
    let Others : List Run → Type 0 = λ xs. AllWithin (λ (run : Run). extent.address ≤ run.extent.address) xs i
    (length runs) in
    let OthersTo : ℕ → Type 0 = λ n. AllWithin (λ (run : Run). extent.address ≤ run.extent.address) marked i n in
    found_at sizes data_begin runs i extent.address extent.bytes apart
    (marked_within (λ n. n < extent.address) given runs 0 i (omega (arith, bound, long)) (subst Before is before))
    (marked_within (λ n. extent.address ≤ n) given runs i (length runs) (omega arith)
    (subst Others is (subst OthersTo long others)))
    (passes_one (is_that_run extent.address extent.bytes) (present_of runs) extent has
    (is_that extent.address extent.bytes))

-- ---- those that nothing holds go

-- where all that pass a test are used, the others' going changes nothing of them
where_used : (test : Run → Bool) → ((run : Run) → test run ≡ true → is_used run ≡ true) → (runs : List Run)
    → extents_where test (filter is_used runs) ≡ extents_where test runs
where_used test uses [] = refl
where_used test uses (run ∷ runs) = elim (cases_Bool (test run)) [
  | inl passes ↦
      ap (extents_where test) (cond-true (is_used run) (run ∷ filter is_used runs) (filter is_used runs)
      (uses run passes))
      ∙ where_first test run (filter is_used runs) passes
      ∙ ap (λ (later : List Element). run.extent ∷ later) (where_used test uses runs)
      ∙ sym (where_first test run runs passes)
  | inr fails ↦
      cond_both (is_used run) (run ∷ filter is_used runs) (filter is_used runs)
      (λ (left : List Run). extents_where test left ≡ extents_where test runs)
      (λ used. where_skips test run (filter is_used runs) fails ∙ where_used test uses runs)
      (λ unused. where_used test uses runs)
      ∙ sym (where_skips test run runs fails)
]

held_marked : (given : List Element) (runs : List Run) → held_of (map (given_back given) runs) ≡ held_of runs
held_marked given [] = refl
held_marked given (run ∷ runs) = elim (cases_Bool run.held) [
  | inl held ↦
      where_first (λ run. run.held) (given_back given run) (map (given_back given) runs) held
      ∙ ap (λ (later : List Element). run.extent ∷ later) (held_marked given runs)
      ∙ sym (where_first (λ run. run.held) run runs held)
  | inr free ↦ where_skips (λ run. run.held) (given_back given run) (map (given_back given) runs) free
      ∙ held_marked given runs ∙ sym (where_skips (λ run. run.held) run runs free)
]

present_marked : (given : List Element) (runs : List Run)
    → present_of (map (given_back given) runs) ≡ without_runs given (present_of runs)
present_marked given [] = refl
present_marked given (run ∷ runs) =
    let marked = map (given_back given) runs in
    let without = without_runs given (present_of runs) in
    elim (cases_Bool run.present) [
      | inl present ↦ elim (cases_Bool (is_one_of given run.extent)) [
        | inl among ↦
            where_skips (λ run. run.present) (given_back given run) marked
            (and_right run.present (not (is_one_of given run.extent)) (ap not among)) ∙ present_marked given runs
            ∙ sym (ap (without_runs given) (where_first (λ run. run.present) run runs present)
            ∙ cond-false _ (run.extent ∷ without) without (ap not among))
        | inr other ↦
            where_first (λ run. run.present) (given_back given run) marked
            (and_from run.present (not (is_one_of given run.extent)) present (ap not other))
            ∙ ap (λ (later : List Element). run.extent ∷ later) (present_marked given runs)
            ∙ sym (ap (without_runs given) (where_first (λ run. run.present) run runs present)
            ∙ cond-true _ (run.extent ∷ without) without (ap not other))
      ]
      | inr absent ↦
          where_skips (λ run. run.present) (given_back given run) marked
          (and_left run.present (not (is_one_of given run.extent)) absent) ∙ present_marked given runs
          ∙ sym (ap (without_runs given) (where_skips (λ run. run.present) run runs absent))
    ]

left_apart : (sizes : Sizes) (from : ℕ) (given : List Element) (runs : List Run) → LieApart sizes from runs
    → LieApart sizes from (filter is_used (map (given_back given) runs))
left_apart sizes from given [] apart = tt
left_apart sizes from given (run ∷ runs) apart =
    let left = filter is_used (map (given_back given) runs) in
    let rest = left_apart sizes (end_of run.extent) given runs apart.3 in
    cond_both (is_used (given_back given run)) (given_back given run ∷ left) left (LieApart sizes from)
    (λ used. (apart.0, apart.1, used, rest))
    (λ unused. apart_sooner sizes (end_of run.extent) from left (omega (arith, apart.1)) rest)

-- what is left of runs once some are given back
pub record AreTakenOut (sizes : Sizes) (runs edited : List Run) (given : List Element) : Type 0 where
  pub apart : LieApart sizes data_begin edited
  pub present : present_of edited ≡ without_runs given (present_of runs)
  pub held : held_of edited ≡ held_of runs

pub taken_out_all : (sizes : Sizes) (runs marked edited : List Run) (given : List Element)
    → LieApart sizes data_begin runs → marked ≡ map (given_back given) runs → edited ≡ filter is_used marked
    → AreTakenOut sizes runs edited given
taken_out_all sizes runs marked edited given apart marks keeps =
    let is = keeps ∙ ap (filter is_used) marks in
    record {
      apart = subst (LieApart sizes data_begin) (sym is) (left_apart sizes data_begin given runs apart);
      present = ap present_of is ∙ where_used (λ run. run.present) (λ run present. ap (λ b. b || run.held) present)
          (map (given_back given) runs) ∙ present_marked given runs;
      held = ap held_of is ∙ where_used (λ run. run.held) (λ run held. or_right run.present run.held held)
          (map (given_back given) runs) ∙ held_marked given runs;
    }
