use Rattle.qg_owner_rule.specs.Housed.{StayOwn}
use Rattle.qg_owner_rule.proofs.own.give_level.Given as goal

abbrev pub invariant-loop-i : goal.invariant-loop-i
invariant-loop-i l = StayOwn l.nodes l.initial.own l.own
