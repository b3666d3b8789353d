use Rattle.qg_owner_rule.specs.Housed.{AreOwn}
use Rattle.qg_owner_rule.proofs.own.mark_roots.Given as goal

abbrev pub invariant-loop-i : goal.invariant-loop-i
invariant-loop-i l = AreOwn l.nodes l.roots l.own
