use Rattle.qg_qgroups.proofs.Order.{greatest_of}
use Rattle.qg_qgroups.proofs.Walks.{Descends}
use Rattle.qg_qgroups.proofs.hierarchy.Hierarchy.members.Given as goal

abbrev pub invariant-loop-last : goal.invariant-loop-last
invariant-loop-last l = Descends l.self l.fn.group l.pending.keys

abbrev pub decreases-loop-last : goal.decreases-loop-last
decreases-loop-last l = greatest_of l.pending.keys
