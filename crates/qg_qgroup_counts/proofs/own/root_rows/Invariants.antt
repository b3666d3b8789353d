use Rattle.std.proofs.Common.{◌≡◌, length}
use Rattle.qg_qgroup_counts.proofs.Settling.{RootsFirst}
use Rattle.qg_qgroup_counts.proofs.own.root_rows.Given as goal

abbrev pub invariant-loop-i : goal.invariant-loop-i
invariant-loop-i l = record {
  same : length l.rows.items ≡ length l.nodes;
  roots : RootsFirst l.nodes l.roots l.i l.rows.items;
}
