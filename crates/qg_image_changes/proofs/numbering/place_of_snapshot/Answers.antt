use Rattle.std.proofs.Common.{ℕ, ap, sym, ◌∙◌, arith}
use Rattle.std.specs.Prelude.{◌==◌}
use Rattle.qg_image_changes.proofs.Numbered.{none-there}
use Rattle.qg_image_changes.proofs.numbering.place_of_snapshot.Goals as goal
use Rattle.qg_open_image.specs.declared.open_image.KeptSubvolume.{KeptSubvolume}

pub loop-i-init : goal.loop-i-init
loop-i-init c k d less same = omega (arith, less)

pub loop-i-preserved : goal.loop-i-preserved
loop-i-preserved c =
    none-there c.args.snapshots.now c.args.sub c.loop-i.i c.index-snapshots-i.result c.loop-i-test.true
    c.index-snapshots-i.is
    (ap (λ (e : ℕ × KeptSubvolume). e.0 == c.args.sub) c.index-snapshots-i.is ∙ sym c.eq.ensures ∙ c.if-eq.false)
    c.loop-i.invariant

pub returns-clause-none : goal.returns-clause-none
returns-clause-none c k d inside = c.loop-i.invariant k d (omega (arith, inside, c.loop-i-test.false))
