use Rattle.std.proofs.Common.{◌≡◌, length, take, vec_len}
use Rattle.qg_owner_rule.specs.Marks.{AreOfRoots}
use Rattle.qg_owner_rule.proofs.marks.root_marks.Given as goal

abbrev pub invariant-loop-bit : goal.invariant-loop-bit
invariant-loop-bit l = record {
  same : vec_len l.rows ≡ length l.nodes;
  roots : AreOfRoots l.nodes (take l.bit l.group) l.rows.items;
}
