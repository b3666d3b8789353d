-- Runs that both the present state and the last commit hold.
use Rattle.std.proofs.Common.{◌≡◌, ℕ, zero, suc, true, ◌+◌, ◌<◌, List, [], ◌∷◌, map, length, get_or, arith, refl, sym}
use Rattle.std.proofs.Common.{ap, subst, ◌∙◌}
use Rattle.qg_super.specs.declared.sizes.Sizes.{Sizes}
use Rattle.qg_super.specs.Places.{data_begin, is_run, is_served}
use Rattle.qg_image.specs.declared.element.Element.{Element}
use Rattle.qg_space.specs.Run.{Run, FitsRun}
use Rattle.qg_space.specs.declared.slots.Slot.{Slot}
use Rattle.qg_space.specs.Holding.{Holding, AscendApart}
use Rattle.qg_space.specs.Lying.{LieApart, run_of_both, present_of, held_of, holding_of}
use Rattle.qg_space.proofs.Places.{fits_run}

-- they lie apart where their extents do
both_apart : (sizes : Sizes) (from : ℕ) (extents : List Element) → AscendApart sizes from extents
    → LieApart sizes from (map run_of_both extents)
both_apart sizes from [] apart = tt
both_apart sizes from (extent ∷ extents) apart =
    (apart.0, apart.1, refl, both_apart sizes (extent.address + extent.bytes) extents apart.2)

-- so those do that are made of such extents
pub new_apart : (sizes : Sizes) (now : Holding) (new : List Run) (extents : List Element) → sizes ≡ now.sizes
    → new ≡ map run_of_both extents → AscendApart now.sizes data_begin extents
    → LieApart sizes data_begin new
new_apart sizes now new extents same is apart =
    subst (LieApart sizes data_begin) (sym is)
    (both_apart sizes data_begin extents (subst (λ (s : Sizes). AscendApart s data_begin extents) (sym same) apart))

-- each of them fits, in an image of sizes that are served
pub run_at : (sizes : Sizes) (from : ℕ) (extents : List Element) (k : ℕ) (d : Element) → AscendApart sizes from extents
    → k < length extents
    → is_run sizes (get_or extents k d).address (get_or extents k d).bytes ≡ true
run_at sizes from [] k d apart short = absurd (omega (arith, short))
run_at sizes from (extent ∷ extents) zero d apart short = apart.0
run_at sizes from (extent ∷ extents) (suc k) d apart short =
    run_at sizes (extent.address + extent.bytes) extents k d apart.2 (omega (arith, short))

pub fits_at : (sizes : Sizes) (from : ℕ) (extents : List Element) (k : ℕ) (extent : Element) → is_served sizes ≡ true
    → AscendApart sizes from extents → k < length extents
    → extent ≡ get_or extents k extent → FitsRun extent
fits_at sizes from extents k extent served apart short is =
    fits_run sizes extent served (ap (λ (e : Element). is_run sizes e.address e.bytes) is
    ∙ run_at sizes from extents k extent apart short)

-- each of the two holds all of them
present_both : (extents : List Element) → present_of (map run_of_both extents) ≡ extents
present_both [] = refl
present_both (extent ∷ extents) = ap (λ (later : List Element). extent ∷ later) (present_both extents)

held_both : (extents : List Element) → held_of (map run_of_both extents) ≡ extents
held_both [] = refl
held_both (extent ∷ extents) = ap (λ (later : List Element). extent ∷ later) (held_both extents)

-- nothing else of what is held is another for them
pub holding_both : (sizes : Sizes) (old new : List Run) (slots : List Slot) (extents : List Element)
    → new ≡ map run_of_both extents
    → holding_of sizes new slots ≡ record (holding_of sizes old slots) { runs = extents; held_runs = extents }
holding_both sizes old new slots extents is =
    let rest = holding_of sizes old slots in
    ap (λ (runs : List Element). record rest { runs = runs; held_runs = held_of new }) (ap present_of is
    ∙ present_both extents)
    ∙ ap (λ (runs : List Element). record rest { runs = extents; held_runs = runs }) (ap held_of is ∙ held_both extents)
