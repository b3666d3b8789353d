use Rattle.std.proofs.Common.{take}
use Rattle.qg_delayed.proofs.Joining.{HasOthers}
use Rattle.qg_delayed.proofs.merging.put_unchanged.Given as goal

abbrev pub invariant-loop-counted : goal.invariant-loop-counted
invariant-loop-counted l = HasOthers l.list (take l.counted-index l.below) l.changes
