use Rattle.std.proofs.Common.{take}
use Rattle.qg_owner_rule.specs.Housed.{OwnNone}
use Rattle.qg_owner_rule.proofs.housed.own_any.Given as goal

abbrev pub invariant-loop-i : goal.invariant-loop-i
invariant-loop-i l = OwnNone (take l.i l.nodes) l.group l.housed
