use Rattle.qg_qgroup_counts.proofs.Tallied.{TalliedFirst}
use Rattle.qg_qgroup_counts.proofs.groups.group_counters.Given as goal

abbrev pub invariant-loop-set : goal.invariant-loop-set
invariant-loop-set l =
    TalliedFirst l.reached.sets.rows.items l.above l.bytes-items l.groups l.set l.tallies.items
