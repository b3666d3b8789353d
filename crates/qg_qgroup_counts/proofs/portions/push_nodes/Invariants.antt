use Rattle.std.proofs.Common.{◌≡◌, ◌++◌, take}
use Rattle.qg_qgroup_counts.specs.ExtentBytes.{node_portions}
use Rattle.qg_qgroup_counts.proofs.portions.push_nodes.Given as goal

abbrev pub invariant-loop-place : goal.invariant-loop-place
invariant-loop-place l =
    l.portions.items ≡ l.initial.portions.items ++ node_portions l.nodesize (take l.place l.reached.numbers.items)
