use Rattle.std.proofs.Common.{sym, subst, ap, ◌∙◌, take, arith}
use Rattle.std.specs.List.{Contains}
use Rattle.std.specs.List.Sorted.{IsNonDecreasingBy}
use Rattle.qg_super.specs.Places.{data_begin}
use Rattle.qg_space.specs.Run.{Run}
use Rattle.qg_space.specs.Lying.{present_of}
use Rattle.qg_space.proofs.Apart.{IsAt}
use Rattle.qg_space.proofs.Given.{given_none, given_next, marked_rise, found_marked, not_present}
use Rattle.qg_space.proofs.runs.give_back.Goals as goal
use Rattle.qg_space.proofs.runs.give_back.Goals.{After-runs_before-place}

pub loop-extent-init : goal.loop-extent-init
loop-extent-init c = given_none c.args.runs.now

pub runs_before-place-requires : goal.runs_before-place-requires
runs_before-place-requires c =
    subst (IsNonDecreasingBy (λ (run : Run). run.extent.address)) (sym c.loop-extent.invariant)
    (marked_rise c.args.sizes.now data_begin (take c.loop-extent.extent-index c.args.extents.now) c.args.runs.now
    c.requires.apart)

-- the run of an extent is found
found : (c : After-runs_before-place)
    → IsAt c.args.runs.now c.runs_before-place.result c.extent-item.result.address c.extent-item.result.bytes
found c =
    let n = c.loop-extent.extent-index in
    let extents = c.args.extents.now in
    let extent = c.extent-item.result in
    let point = c.runs_before-place in
    let has = subst (Contains (present_of c.args.runs.now)) (sym c.extent-item.is)
    (c.requires.there n extent c.loop-extent-test.true) in
    found_marked c.args.sizes.now (take n extents) c.args.runs.now c.loop-extent.runs point.result extent
    c.requires.apart has c.loop-extent.invariant point.ensures.bound point.ensures.before point.ensures.others

pub bounds-runs-place : goal.bounds-runs-place
bounds-runs-place c = omega
    (arith, (found (goal.at.bounds-runs-place c).After-runs_before-place).within, c.loop-extent.auto.runs)

pub loop-extent-preserved : goal.loop-extent-preserved
loop-extent-preserved c =
    given_next c.args.sizes.now c.args.runs.now c.loop-extent.runs c.args.extents.now c.loop-extent.extent-index
    c.extent-item.result c.runs_before-place.result c.index-runs-place.result
    c.set_present.new.self c.requires.apart c.loop-extent-test.true c.extent-item.is c.loop-extent.invariant
    (found (goal.at.loop-extent-preserved c).After-runs_before-place) c.index-runs-place.is
    (c.set_present.ensures ∙ ap not_present (sym c.index-runs-place.is))
