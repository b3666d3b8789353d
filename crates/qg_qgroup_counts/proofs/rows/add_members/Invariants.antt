use Rattle.std.proofs.Common.{◌≤◌, length}
use Rattle.qg_qgroup_counts.proofs.Words.{AddedTo}
use Rattle.qg_qgroup_counts.proofs.rows.add_members.Given as goal

abbrev pub invariant-loop-word : goal.invariant-loop-word
invariant-loop-word l = record {
  long : length l.more ≤ length l.row;
  added : AddedTo l.word l.more l.fn.row l.row;
}
