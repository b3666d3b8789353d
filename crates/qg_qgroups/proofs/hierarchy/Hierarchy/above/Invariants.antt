use Rattle.std.proofs.Common.{◌-◌, ◌^◌}
use Rattle.qg_qgroups.proofs.Order.{first_of}
use Rattle.qg_qgroups.proofs.Walks.{Climbs}
use Rattle.qg_qgroups.proofs.hierarchy.Hierarchy.above.Given as goal

abbrev pub invariant-loop-next : goal.invariant-loop-next
invariant-loop-next l = Climbs l.self l.fn.group l.above l.pending.keys

abbrev pub decreases-loop-next : goal.decreases-loop-next
decreases-loop-next l = 2 ^ 64 - first_of l.pending.keys
