use Rattle.std.proofs.Common.{◌+◌, ◌-◌, length}
use Rattle.qg_account.specs.Pivots.{AreFirstPivots}
use Rattle.qg_account.proofs.pivots.pivots.Given as goal

abbrev pub invariant-loop-found : goal.invariant-loop-found
invariant-loop-found l = AreFirstPivots l.before l.now l.walk l.found

abbrev pub decreases-loop-found : goal.decreases-loop-found
decreases-loop-found l = (length l.before + length l.now) - (l.walk.old + l.walk.new)
