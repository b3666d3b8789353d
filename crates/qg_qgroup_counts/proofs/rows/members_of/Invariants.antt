use Rattle.qg_qgroup_counts.specs.Sets.{AreMembersBefore}
use Rattle.qg_qgroup_counts.proofs.rows.members_of.Given as goal

abbrev pub invariant-loop-word : goal.invariant-loop-word
invariant-loop-word l = AreMembersBefore l.row l.word l.bound l.members
