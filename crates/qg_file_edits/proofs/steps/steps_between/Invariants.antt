use Rattle.std.proofs.Common.{◌+◌, length}
use Rattle.qg_file_edits.proofs.Between.{Between}
use Rattle.qg_file_edits.proofs.steps.steps_between.Given as goal

abbrev pub invariant-loop-step : goal.invariant-loop-step
invariant-loop-step l = Between l.gone l.put l.steps.items l.gone_left l.put_left

abbrev pub decreases-loop-step : goal.decreases-loop-step
decreases-loop-step l = length l.gone_left + length l.put_left
