use Rattle.std.proofs.Common.{ℕ, ◌+◌, ◌<◌, get_or}
use Rattle.qg_shared_walk.specs.declared.nodes.NodeRead.{NodeRead}
use Rattle.qg_shared_walk.proofs.order.shared_address.Given as goal

abbrev pub invariant-loop-i : goal.invariant-loop-i
invariant-loop-i l = (k : ℕ) (d : NodeRead) → k + 1 < l.i → (get_or l.nodes k d).linked.address <
    (get_or l.nodes (k + 1) d).linked.address
