-- Extents that keep the rule `space` ascend and lie apart. Addresses and lengths are in bytes.
use Rattle.std.proofs.Common.{◌≡◌, ℕ, ◌+◌, ◌≤◌, true, List, [], ◌∷◌, None}
use Rattle.std.specs.Prelude.{nat_le}
use Rattle.std.specs.List.{Contains}
use Rattle.std.proofs.lemmas.Bool.{and_parts}
use Rattle.qg_super.specs.declared.sizes.Sizes.{Sizes}
use Rattle.qg_super.specs.Places.{data_begin, is_run}
use Rattle.qg_image.specs.declared.element.Element.{Element}
use Rattle.qg_image.proofs.Contained.{contains_here}
use Rattle.qg_image.specs.Verdict.{is_extent, longest_extent, space_failure}
use Rattle.qg_reach.specs.Fits.{first_fits}
use Rattle.qg_reach.proofs.SpaceRule.{Keeps-space, ends_by_later, member_fits}
use Rattle.qg_space.specs.Holding.{AscendApart}

first_is : (sizes : Sizes) (x : Element) (later : List Element) → first_fits sizes (x ∷ later) ≡ true
    → is_extent sizes x ≡ true
first_is sizes x [] fits = fits
first_is sizes x (next ∷ later) fits =
    (and_parts (is_extent sizes x) (nat_le (x.address + x.bytes) next.address) fits).0

-- from an address on that none begins before
apart_from : (sizes : Sizes) (from : ℕ) (extents : List Element) → space_failure sizes extents ≡ None
    → ((y : Element) → Contains extents y → from ≤ y.address) → AscendApart sizes from extents
apart_from sizes from [] none low = tt
apart_from sizes from (x ∷ later) none low =
    let keeps = Keeps-space sizes x later none in
    let run = (and_parts (is_run sizes x.address x.bytes) (nat_le x.bytes longest_extent)
    (first_is sizes x later keeps.fits)).0 in (
      run,
      low x (contains_here x later),
      apart_from sizes (x.address + x.bytes) later keeps.rest
          (λ y has. ends_by_later sizes x later y none has),
    )

-- in the data area
pub extents-apart : (sizes : Sizes) (extents : List Element) → space_failure sizes extents ≡ None
    → AscendApart sizes data_begin extents
extents-apart sizes extents none =
    apart_from sizes data_begin extents none (λ y has. (member_fits sizes extents y none has).begin)
