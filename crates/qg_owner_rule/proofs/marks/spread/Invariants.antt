use Rattle.std.proofs.Common.{◌-◌}
use Rattle.qg_owner_rule.proofs.Spreading.{Going}
use Rattle.qg_owner_rule.proofs.marks.spread.Given as goal

abbrev pub invariant-loop-depth : goal.invariant-loop-depth
invariant-loop-depth l = Going l.nodes l.initial.rows l.rows (l.highest - l.depth)
