use Rattle.std.proofs.Common.{take}
use Rattle.qg_qgroup_counts.proofs.Uniting.{Gathered}
use Rattle.qg_qgroup_counts.proofs.sets.Sets.gathered.Given as goal

abbrev pub invariant-loop-set : goal.invariant-loop-set
invariant-loop-set l = Gathered l.self.rows.items l.fn.own (take l.set-index l.sets) l.row
