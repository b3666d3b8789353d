use Rattle.qg_qgroup_counts.proofs.GroupsAbove.{MembershipsFirst}
use Rattle.qg_qgroup_counts.proofs.groups_above.above_of.Given as goal

abbrev pub invariant-loop-root : goal.invariant-loop-root
invariant-loop-root l = MembershipsFirst l.roots l.hierarchy l.root-index l.above.items
