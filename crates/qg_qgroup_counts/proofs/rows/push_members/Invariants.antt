use Rattle.qg_qgroup_counts.specs.Sets.{AreMembers}
use Rattle.qg_qgroup_counts.proofs.rows.push_members.Given as goal

abbrev pub invariant-loop-member : goal.invariant-loop-member
invariant-loop-member l = AreMembers l.row l.member l.members
