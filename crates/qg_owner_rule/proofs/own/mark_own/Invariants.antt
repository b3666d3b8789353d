use Rattle.qg_owner_rule.specs.Housed.{AreOwn}
use Rattle.qg_owner_rule.proofs.own.mark_own.Given as goal

abbrev pub invariant-loop-depth : goal.invariant-loop-depth
invariant-loop-depth l = AreOwn l.nodes l.roots l.own
