use Rattle.std.proofs.Common.{take}
use Rattle.qg_delayed.proofs.Joining.{HasChanges}
use Rattle.qg_delayed.proofs.merging.changed.Given as goal

abbrev pub invariant-loop-change : goal.invariant-loop-change
invariant-loop-change l = HasChanges l.list (take l.change-index l.changes)
