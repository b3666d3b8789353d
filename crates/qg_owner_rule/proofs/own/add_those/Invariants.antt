use Rattle.std.proofs.Common.{take}
use Rattle.qg_owner_rule.specs.Housed.{HaveThose}
use Rattle.qg_owner_rule.proofs.own.add_those.Given as goal

abbrev pub invariant-loop-i : goal.invariant-loop-i
invariant-loop-i l = HaveThose (take l.i l.own) l.initial.housed l.housed
