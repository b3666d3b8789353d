use Rattle.std.proofs.Common.{◌≡◌, map, take}
use Rattle.qg_check.proofs.judge.addresses_of.Given as goal

abbrev pub invariant-loop-node : goal.invariant-loop-node
invariant-loop-node l = l.addresses ≡ map (λ node. node.linked.address) (take l.node-index l.nodes)
