use Rattle.qg_qgroup_counts.proofs.ExtentsInTurn.{Told}
use Rattle.qg_qgroup_counts.proofs.portions.extent_portions.Given as goal

abbrev pub invariant-loop-i : goal.invariant-loop-i
invariant-loop-i l = Told l.initial.reached l.reached l.namers l.extents l.i l.portions.items
