use Rattle.std.proofs.Common.{◌≡◌, map, take}
use Rattle.qg_qgroup_counts.proofs.links.links_of.Given as goal

abbrev pub invariant-loop-node : goal.invariant-loop-node
invariant-loop-node l = l.links.items ≡ map (λ node. node.linked) (take l.node-index l.nodes)
