use Rattle.std.proofs.Common.{◌≡◌, take}
use Rattle.std.specs.List.{sum_by}
use Rattle.qg_tree_layout.proofs.cut.total.Given as goal

abbrev pub invariant-loop-x : goal.invariant-loop-x
invariant-loop-x g l = l.total ≡ sum_by g.T.Weighed.weight (take l.x-index l.list)
