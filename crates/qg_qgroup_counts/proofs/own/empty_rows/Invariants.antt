use Rattle.std.proofs.Common.{◌≡◌, length}
use Rattle.qg_qgroup_counts.specs.Above.{AreEmpty}
use Rattle.qg_qgroup_counts.proofs.own.empty_rows.Given as goal

abbrev pub invariant-loop-place : goal.invariant-loop-place
invariant-loop-place l = record {
  same : length l.rows.items ≡ l._place;
  empty : AreEmpty l.rows.items;
}
