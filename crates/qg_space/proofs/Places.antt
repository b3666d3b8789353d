-- Runs of whole sectors, and whether two overlap. Addresses and lengths are in bytes.
use Rattle.std.proofs.Common.{◌≡◌, ℕ, ◌+◌, ◌-◌, ◌<◌, ◌≤◌, true, false, arith, ◌⊎◌, inl, inr}
use Rattle.std.specs.Prelude.{nat_lt, ◌%◌}
use Rattle.std.proofs.lemmas.Bool.{and_from, and_cases, and_left, and_right, ltb-false, lt-ltb, le-ltb}
use Rattle.qg_super.specs.declared.sizes.Sizes.{Sizes}
use Rattle.qg_super.specs.Places.{data_begin, is_run, is_served, sector}
use Rattle.qg_super.proofs.Runs.{WholeRun-is_run}
use Rattle.qg_super.proofs.Served.{SizesFit-is_served}
use Rattle.qg_space.specs.Run.{FitsRun}
use Rattle.qg_image.specs.declared.element.Element.{Element}
use Rattle.qg_image.specs.Space.{overlaps}
use Rattle.qg_space.specs.Lying.{end_of}

-- a run ends at a sector's begin
pub end_aligned : (address bytes : ℕ) → data_begin ≤ address → (address - data_begin) % sector ≡ 0 → bytes % sector ≡ 0
    → (address + bytes - data_begin) % sector ≡ 0
end_aligned address bytes begin aligned whole = omega arith

-- in an image of sizes that are served the numbers of its sectors have 32 bits
pub fits_run : (sizes : Sizes) (extent : Element) → is_served sizes ≡ true
    → is_run sizes extent.address extent.bytes ≡ true → FitsRun extent
fits_run sizes extent served is =
    let fit = SizesFit-is_served sizes served in
    let run = WholeRun-is_run sizes extent.address extent.bytes is in
    record {
      begin = run.begin;
      aligned = run.aligned;
      whole = run.whole;
      first = omega (arith, fit.sectors, run.within);
      sectors = omega (arith, fit.sectors, run.within, run.begin);
    }

-- ---- overlaps

pub apart_cases : (address bytes : ℕ) (extent : Element) → overlaps address bytes extent ≡ false
    → (end_of extent ≤ address) ⊎ (address + bytes ≤ extent.address)
apart_cases address bytes extent not =
    elim (and_cases (nat_lt address (extent.address + extent.bytes)) (nat_lt extent.address (address + bytes)) not) [
      | inl ends ↦ inl (ltb-false address (extent.address + extent.bytes) ends)
      | inr begins ↦ inr (ltb-false extent.address (address + bytes) begins)
    ]

pub apart_after : (address bytes : ℕ) (extent : Element) → end_of extent ≤ address
    → overlaps address bytes extent ≡ false
apart_after address bytes extent ends = and_left _ _ (le-ltb address (extent.address + extent.bytes) ends)

pub apart_before : (address bytes : ℕ) (extent : Element) → address + bytes ≤ extent.address
    → overlaps address bytes extent ≡ false
apart_before address bytes extent begins = and_right _ _ (le-ltb extent.address (address + bytes) begins)

pub overlaps_both : (address bytes : ℕ) (extent : Element) → address < end_of extent → extent.address < address + bytes
    → overlaps address bytes extent ≡ true
overlaps_both address bytes extent ends begins = and_from _ _ (lt-ltb address (extent.address + extent.bytes) ends)
    (lt-ltb extent.address (address + bytes) begins)
