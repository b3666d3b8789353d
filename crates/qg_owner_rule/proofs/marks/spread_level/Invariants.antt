use Rattle.std.proofs.Common.{take}
use Rattle.qg_owner_rule.specs.Marks.{AreSpread}
use Rattle.qg_owner_rule.proofs.marks.spread_level.Given as goal

abbrev pub invariant-loop-i : goal.invariant-loop-i
invariant-loop-i l = AreSpread (take l.i l.nodes) l.nodes l.level l.initial.rows l.rows
