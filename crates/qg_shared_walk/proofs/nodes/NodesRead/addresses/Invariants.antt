use Rattle.std.proofs.Common.{◌≡◌, map, take}
use Rattle.qg_shared_walk.proofs.Sorted.{number_read}
use Rattle.qg_shared_walk.proofs.nodes.NodesRead.addresses.Given as goal

abbrev pub invariant-loop-node : goal.invariant-loop-node
invariant-loop-node l = l.addresses ≡ map number_read (take l.node-index l.self.nodes.items)
