use Rattle.std.proofs.Common.{sym, ◌∙◌}
use Rattle.qg_reach.proofs.SpaceRule.{rest_passes, rest_stops, rest_ends}
use Rattle.qg_reach.proofs.space.space_failure.Goals as goal

pub returns-then-not-first_fits : goal.returns-then-not-first_fits
returns-then-not-first_fits c =
    let x = c.index-extents-i.result in
    sym (c.loop-i.invariant ∙ rest_stops c.args.sizes.now c.args.extents.now c.loop-i.i x c.loop-i-test.true
    c.index-extents-i.is (sym c.if-not-first_fits.ensures))

pub loop-i-preserved : goal.loop-i-preserved
loop-i-preserved c =
    c.loop-i.invariant
    ∙ rest_passes c.args.sizes.now c.args.extents.now c.loop-i.i c.index-extents-i.result c.loop-i-test.true
    (sym c.if-not-first_fits.ensures)

pub returns : goal.returns
returns c = sym (c.loop-i.invariant ∙ rest_ends c.args.sizes.now c.args.extents.now c.loop-i.i c.loop-i-test.false)
