-- What the rule `space` says of extents. Addresses and lengths are in bytes.
use Rattle.std.proofs.Common.{◌≡◌, ℕ, ◌+◌, ◌-◌, ◌<◌, ◌≤◌, Bool, true, false, List, [], ◌∷◌, length, get_or, take, drop}
use Rattle.std.proofs.Common.{Option, Some, None, refl, sym, ap, subst, ◌∙◌, arith, inl, inr}
use Rattle.std.specs.Prelude.{nat_le}
use Rattle.std.specs.List.{Contains}
use Rattle.std.proofs.lemmas.Bool.{and_parts, leb-true, cond-true, cond-false, cases_Bool}
use Rattle.std.proofs.lemmas.Option.{none-some}
use Rattle.std.proofs.lemmas.List.{drop_more, drop_all, take_rest}
use Rattle.std.proofs.lemmas.List.Sums.{sum_by-cons}
use Rattle.qg_num.specs.declared.rule.Rule.TheVariants as rule
use Rattle.qg_super.specs.declared.sizes.Sizes.{Sizes}
use Rattle.qg_super.specs.Places.{total_bytes, is_run}
use Rattle.qg_super.proofs.Runs.{WholeRun, WholeRun-is_run}
use Rattle.qg_image.specs.declared.element.Element.{Element}
use Rattle.qg_image.specs.Counts.{bytes_of}
use Rattle.qg_image.proofs.Contained.{none_contained, contains_cases}
use Rattle.qg_image.specs.declared.failure.Failure.{Failure}
use Rattle.qg_image.specs.declared.failure.Failure.TheVariants.{Broken}
use Rattle.qg_image.specs.Failure.{unless, first_failure}
use Rattle.qg_image.specs.Verdict.{is_extent, longest_extent, space_failure}
use Rattle.qg_reach.specs.Fits.{first_fits}
use Rattle.qg_reach.proofs.Distinct.{AreApart, apart_none, apart_with}

-- ---- one run

pub WholeRun-is_extent : (sizes : Sizes) (extent : Element) → is_extent sizes extent ≡ true
    → WholeRun sizes extent.address extent.bytes
WholeRun-is_extent sizes extent is =
    WholeRun-is_run sizes extent.address extent.bytes
    (and_parts (is_run sizes extent.address extent.bytes) (nat_le extent.bytes longest_extent) is).0

-- ---- one failure after the other

first_of : (f : Option Failure) → first_failure (f ∷ []) ≡ f
first_of None = refl
first_of (Some failure) = refl

passes : (test : Bool) (address : ℕ) (f : Option Failure) → test ≡ true
    → first_failure (unless test rule.Space address ∷ f ∷ []) ≡ f
passes test address f h =
    ap (λ first. first_failure (first ∷ f ∷ [])) (cond-true test None (Some (Broken rule.Space address)) h) ∙ first_of f

stops : (test : Bool) (address : ℕ) (f : Option Failure) → test ≡ false
    → first_failure (unless test rule.Space address ∷ f ∷ []) ≡ Some (Broken rule.Space address)
stops test address f h =
    ap (λ first. first_failure (first ∷ f ∷ [])) (cond-false test None (Some (Broken rule.Space address)) h)

-- an extent that fits: the failure is the first of the others
pub space_passes : (sizes : Sizes) (extent : Element) (later : List Element) → first_fits sizes (extent ∷ later) ≡ true
    → space_failure sizes (extent ∷ later) ≡ space_failure sizes later
unfolding space_failure
space_passes sizes extent [] fits = cond-true _ _ _ fits
space_passes sizes extent (next ∷ later) fits = passes _ extent.address (space_failure sizes (next ∷ later)) fits

-- an extent that does not
pub space_stops : (sizes : Sizes) (extent : Element) (later : List Element) → first_fits sizes (extent ∷ later) ≡ false
    → space_failure sizes (extent ∷ later) ≡ Some (Broken rule.Space extent.address)
unfolding space_failure
space_stops sizes extent [] fits = cond-false _ _ _ fits
space_stops sizes extent (next ∷ later) fits = stops _ extent.address (space_failure sizes (next ∷ later)) fits

-- ---- from an index on

pub rest_passes : (sizes : Sizes) (extents : List Element) (i : ℕ) (x : Element) → i < length extents
    → first_fits sizes (take (length extents - i) (drop i extents)) ≡ true
    → space_failure sizes (drop i extents) ≡ space_failure sizes (drop (i + 1) extents)
rest_passes sizes extents i x short fits =
    let here = drop_more extents i x short in
    ap (space_failure sizes) here
    ∙ space_passes sizes (get_or extents i x) (drop (i + 1) extents)
    (subst (λ rest. first_fits sizes rest ≡ true) (take_rest extents i ∙ here) fits)

pub rest_stops : (sizes : Sizes) (extents : List Element) (i : ℕ) (x : Element) → i < length extents
    → x ≡ get_or extents i x
    → first_fits sizes (take (length extents - i) (drop i extents)) ≡ false
    → space_failure sizes (drop i extents) ≡ Some (Broken rule.Space x.address)
rest_stops sizes extents i x short is fits =
    let here = drop_more extents i x short in
    ap (space_failure sizes) here
    ∙ space_stops sizes (get_or extents i x) (drop (i + 1) extents)
    (subst (λ rest. first_fits sizes rest ≡ false) (take_rest extents i ∙ here) fits)
    ∙ ap (λ (e : Element). Some (Broken rule.Space e.address)) (sym is)

pub rest_ends : (sizes : Sizes) (extents : List Element) (i : ℕ) → length extents ≤ i
    → space_failure sizes (drop i extents) ≡ None
unfolding space_failure
rest_ends sizes extents i long = ap (space_failure sizes) (drop_all i extents long)

-- ---- extents that keep the rule

-- the rule is kept by the first and by the others
pub record Keeps (sizes : Sizes) (extent : Element) (later : List Element) : Type 0 where
  pub fits : first_fits sizes (extent ∷ later) ≡ true
  pub rest : space_failure sizes later ≡ None

pub Keeps-space : (sizes : Sizes) (extent : Element) (later : List Element)
    → space_failure sizes (extent ∷ later) ≡ None → Keeps sizes extent later
Keeps-space sizes extent later none = elim (cases_Bool (first_fits sizes (extent ∷ later))) [
  | inl fits ↦ record { fits = fits; rest = sym (space_passes sizes extent later fits) ∙ none }
  | inr fails ↦ absurd (none-some _ (sym none ∙ space_stops sizes extent later fails))
]

pub first_run_fits : (sizes : Sizes) (extent : Element) (later : List Element)
    → first_fits sizes (extent ∷ later) ≡ true → WholeRun sizes extent.address extent.bytes
first_run_fits sizes extent [] fits = WholeRun-is_extent sizes extent fits
first_run_fits sizes extent (next ∷ later) fits =
    WholeRun-is_extent sizes extent
    (and_parts (is_extent sizes extent) (nat_le (extent.address + extent.bytes) next.address) fits).0

-- nothing of a list begins before an address
abbrev pub IsFrom : ℕ → List Element → Type 0
IsFrom from [] = Unit {0}
IsFrom from (extent ∷ later) = from ≤ extent.address

ends_by_next : (sizes : Sizes) (extent : Element) (later : List Element) → first_fits sizes (extent ∷ later) ≡ true
    → IsFrom (extent.address + extent.bytes) later
ends_by_next sizes extent [] fits = tt
ends_by_next sizes extent (next ∷ later) fits =
    leb-true (extent.address + extent.bytes) next.address
    (and_parts (is_extent sizes extent) (nat_le (extent.address + extent.bytes) next.address) fits).1

from_member : (sizes : Sizes) (from : ℕ) (extents : List Element) (y : Element) → space_failure sizes extents ≡ None
    → IsFrom from extents → Contains extents y → from ≤ y.address
from_member sizes from [] y none low has = absurd (none_contained y has)
from_member sizes from (extent ∷ later) y none low has = elim (contains_cases extent later y has) [
  | inl is ↦ omega (arith, low, ap (λ (e : Element). e.address) is)
  | inr has' ↦
      let keeps = Keeps-space sizes extent later none in
      omega (
        arith,
        low,
        from_member sizes (extent.address + extent.bytes) later y keeps.rest
            (ends_by_next sizes extent later keeps.fits) has',
      )
]

-- each extent ends by the next one
pub ends_by_later : (sizes : Sizes) (extent : Element) (later : List Element) (y : Element)
    → space_failure sizes (extent ∷ later) ≡ None → Contains later y → extent.address + extent.bytes ≤ y.address
ends_by_later sizes extent later y none has =
    let keeps = Keeps-space sizes extent later none in
    from_member sizes (extent.address + extent.bytes) later y keeps.rest (ends_by_next sizes extent later keeps.fits)
    has

-- each of them lies in the data area
pub member_fits : (sizes : Sizes) (extents : List Element) (y : Element) → space_failure sizes extents ≡ None
    → Contains extents y → WholeRun sizes y.address y.bytes
member_fits sizes [] y none has = absurd (none_contained y has)
member_fits sizes (extent ∷ later) y none has =
    let keeps = Keeps-space sizes extent later none in
    elim (contains_cases extent later y has) [
      | inl is ↦ subst (λ (e : Element). WholeRun sizes e.address e.bytes) is
          (first_run_fits sizes extent later keeps.fits)
      | inr has' ↦ member_fits sizes later y keeps.rest has'
    ]

-- ---- their bytes

bytes_from : (sizes : Sizes) (from : ℕ) (extents : List Element) → space_failure sizes extents ≡ None
    → IsFrom from extents → from ≤ total_bytes sizes → from + bytes_of extents ≤ total_bytes sizes
bytes_from sizes from [] none low short = omega arith
bytes_from sizes from (extent ∷ later) none low short =
    let keeps = Keeps-space sizes extent later none in
    let run = first_run_fits sizes extent later keeps.fits in
    let rest = bytes_from sizes (extent.address + extent.bytes) later keeps.rest
    (ends_by_next sizes extent later keeps.fits) run.within in
    omega (arith, rest, low, sum_by-cons (λ (e : Element). e.bytes) extent later)

any_from : (extents : List Element) → IsFrom 0 extents
any_from [] = tt
any_from (extent ∷ later) = omega arith

-- the extents fit in the image together
pub bytes_fit : (sizes : Sizes) (extents : List Element) → space_failure sizes extents ≡ None
    → bytes_of extents ≤ total_bytes sizes
bytes_fit sizes extents none = omega (arith, bytes_from sizes 0 extents none (any_from extents) (omega arith))

-- no two of them begin at one address
pub AreApart-space : (sizes : Sizes) (extents : List Element) → space_failure sizes extents ≡ None → AreApart extents
AreApart-space sizes [] none = apart_none
AreApart-space sizes (extent ∷ later) none =
    let keeps = Keeps-space sizes extent later none in
    let run = first_run_fits sizes extent later keeps.fits in
    apart_with extent later (λ y has same. omega (arith, run.some, ends_by_later sizes extent later y none has, same))
    (AreApart-space sizes later keeps.rest)
