use Rattle.std.proofs.Common.{ap, sym, ◌∙◌}
use Rattle.std.proofs.Math.ListN.{set}
use Rattle.std.proofs.lemmas.List.Edits.{map_over_more}
use Rattle.qg_space.specs.Run.{Run}
use Rattle.qg_space.specs.Lying.{with_held}
use Rattle.qg_space.proofs.runs.hold_all.Goals as goal

pub loop-run-preserved : goal.loop-run-preserved
loop-run-preserved c =
    ap (λ (run : Run). set c.loop-run.runs c.loop-run.run-index run) (c.set_held.ensures
    ∙ ap with_held (sym c.run-item.is))
    ∙ map_over_more with_held c.args.runs.now c.loop-run.runs c.loop-run.run-index c.run-item.result
    c.loop-run-test.true c.loop-run.invariant c.run-item.is
