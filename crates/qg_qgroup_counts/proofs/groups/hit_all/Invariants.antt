use Rattle.qg_qgroup_counts.proofs.Hits.{HitFirst}
use Rattle.qg_qgroup_counts.proofs.groups.hit_all.Given as goal

abbrev pub invariant-loop-group : goal.invariant-loop-group
invariant-loop-group l = HitFirst l.named l.set l.many l.bytes l.group-index l.initial.tallies l.tallies
