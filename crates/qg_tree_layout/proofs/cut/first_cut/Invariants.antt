use Rattle.std.proofs.Common.{◌≡◌, ◌≤◌, ◌+◌, ◌*◌, take}
use Rattle.std.specs.List.{sum_by}
use Rattle.qg_tree_layout.proofs.cut.first_cut.Given as goal

abbrev pub invariant-loop-i : goal.invariant-loop-i
invariant-loop-i g l = record {
  weighs : l.taken ≡ sum_by g.T.Weighed.weight (take l.i l.list);
  fits : l.taken ≤ l.room;
  left : 4 * l.taken + l.room ≤ 4 * l.fn.total;
}
