use Rattle.std.proofs.Common.{◌∙◌}
use Rattle.qg_program.proofs.Said.{says-ended, says-no-sink}
use Rattle.qg_program.proofs.check.say.Goals as goal

pub returns-clause-says : goal.returns-clause-says
returns-clause-says g c =
    let told = rw c.new-text.ensures at c.in-Ok.ensures.ok in
    says-ended c.args.report.now c.end_of.result c.put_and_end.result _ _ c.as_slice.result.now (c.as_slice.ensures
    ∙ told) c.end_of.ensures c.put_and_end.ensures.put

pub returns-clause-sink_fault : goal.returns-clause-sink_fault
returns-clause-sink_fault g c =
    c.put_and_end.ensures.cause (says-no-sink c.args.report.now c.end_of.result c.end_of.ensures)
