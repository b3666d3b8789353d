use Rattle.std.proofs.Common.{◌≡◌, ◌≤◌, ◌+◌, take}
use Rattle.std.specs.List.{sum_by}
use Rattle.qg_shape.proofs.cut.nearest_front.Given as goal

abbrev pub invariant-loop-i : goal.invariant-loop-i
invariant-loop-i g l = record {
  weighs : l.taken ≡ sum_by g.T.Weighed.weight (take l.i l.list);
  upto : l.taken ≤ l.aim + 524;
}
