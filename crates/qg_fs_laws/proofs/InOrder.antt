-- Runs of a space in order: they ascend, begin at different addresses, and keep the rule `space` where none is too
-- long.
use Rattle.std.proofs.Common.{◌≡◌, ℕ, ◌+◌, ◌≤◌, true, List, [], ◌∷◌, None, refl, ap, ◌∙◌, arith, inl, inr}
use Rattle.std.specs.Prelude.{nat_le, nat_lt}
use Rattle.std.specs.List.{Contains}
use Rattle.std.proofs.lemmas.Bool.{and_from, le-leb, lt-ltb, or_left}
use Rattle.qg_super.specs.declared.sizes.Sizes.{Sizes}
use Rattle.qg_super.specs.Places.{data_begin, is_run}
use Rattle.qg_super.proofs.Runs.{WholeRun-is_run}
use Rattle.qg_image.specs.declared.element.Element.{Element}
use Rattle.qg_image.proofs.Contained.{contains_cases, contains_here, contains_later, none_contained}
use Rattle.qg_image.specs.Verdict.{extent_set, is_extent, longest_extent, space_failure}
use Rattle.qg_reach.specs.Fits.{first_fits}
use Rattle.qg_reach.specs.Sets.{HaveSame}
use Rattle.qg_reach.proofs.Distinct.{apart_none, apart_with}
use Rattle.qg_reach.proofs.ExtentSets.{Ascends, extent_set_ascends, extent_set_of_same, extent_set_same, same_ascending}
use Rattle.qg_reach.proofs.SpaceRule.{space_passes}
use Rattle.qg_space.specs.Holding.{AscendApart, Holding}
use Rattle.qg_fs_laws.specs.Keeping.{LieApart}
use Rattle.qg_fs_laws.specs.Committing.{IsInOrder}

module _ (sizes : Sizes) where
  begins_later : (from : ℕ) (runs : List Element) (y : Element) → AscendApart sizes from runs → Contains runs y
      → from ≤ y.address
  begins_later from [] y up has = absurd (none_contained y has)
  begins_later from (run ∷ later) y up has =
      let low = up.1 in
      elim (contains_cases run later y has) [
        | inl same ↦
            let at : run.address ≡ y.address = ap (λ (e : Element). e.address) same in
            omega (arith, low, at)
        | inr behind ↦
            let rest = begins_later (run.address + run.bytes) later y up.2 behind in
            omega (arith, low, rest)
      ]

  -- each run ends before the later ones begin
  ends_before : (from : ℕ) (run : Element) (later : List Element) (y : Element)
      → AscendApart sizes from (run ∷ later) → Contains later y → run.address + 1 ≤ y.address
  ends_before from run later y up has =
      let some = (WholeRun-is_run sizes run.address run.bytes up.0).some in
      let behind = begins_later (run.address + run.bytes) later y up.2 has in
      omega (arith, some, behind)

  runs_ascend : (from : ℕ) (runs : List Element) → AscendApart sizes from runs → Ascends runs
  runs_ascend from [] up = tt
  runs_ascend from (run ∷ later) up = (
    λ y has.
        let behind = ends_before from run later y up has in
        or_left (nat_lt run.address y.address) _ (lt-ltb run.address y.address (omega (arith, behind))),
    runs_ascend (run.address + run.bytes) later up.2,
  )

  runs_differ : (from : ℕ) (runs : List Element) → AscendApart sizes from runs → LieApart runs
  runs_differ from [] up = apart_none
  runs_differ from (run ∷ later) up =
      apart_with run later
      (λ y has same. let behind = ends_before from run later y up has in omega (arith, behind, same))
      (runs_differ (run.address + run.bytes) later up.2)

  -- ---- the rule

  run_fits : (run : Element) → is_run sizes run.address run.bytes ≡ true → run.bytes ≤ longest_extent
      → is_extent sizes run ≡ true
  run_fits run is short =
      and_from (is_run sizes run.address run.bytes) (nat_le run.bytes longest_extent) is
      (le-leb run.bytes longest_extent short)

  fits_first : (from : ℕ) (run : Element) (later : List Element) → AscendApart sizes from (run ∷ later)
      → run.bytes ≤ longest_extent → first_fits sizes (run ∷ later) ≡ true
  fits_first from run [] up short = run_fits run up.0 short
  fits_first from run (next ∷ later) up short =
      and_from (is_extent sizes run) (nat_le (run.address + run.bytes) next.address) (run_fits run up.0 short)
      (le-leb (run.address + run.bytes) next.address up.2.1)

  runs_keep : (from : ℕ) (runs : List Element) → AscendApart sizes from runs
      → ((run : Element) → Contains runs run → run.bytes ≤ longest_extent) → space_failure sizes runs ≡ None
  unfolding space_failure
  runs_keep from [] up short = refl
  runs_keep from (run ∷ later) up short =
      space_passes sizes run later (fits_first from run later up (short run (contains_here run later)))
      ∙ runs_keep (run.address + run.bytes) later up.2 (λ y has. short y (contains_later run later y has))

  -- extents that are those of runs that lie apart, in whatever order
  pub space-kept : (runs extents : List Element) → AscendApart sizes data_begin runs → HaveSame extents runs
      → ((run : Element) → Contains runs run → run.bytes ≤ longest_extent)
      → space_failure sizes (extent_set extents) ≡ None
  space-kept runs extents up same short =
      let one : extent_set extents ≡ runs =
      extent_set_of_same extents runs same
      ∙ same_ascending (extent_set runs) runs (extent_set_ascends runs) (runs_ascend data_begin runs up)
      (extent_set_same runs) in
      ap (space_failure sizes) one ∙ runs_keep data_begin runs up short

pub runs-apart : (space : Holding) → IsInOrder space → LieApart space.runs
runs-apart space order = runs_differ space.sizes data_begin space.runs order.runs
