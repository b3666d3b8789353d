use Rattle.std.proofs.Common.{◌≡◌, map, take}
use Rattle.std.specs.List.{flat_map}
use Rattle.qg_shared_walk.specs.NodeFacts.{told_by}
use Rattle.qg_shared_walk.proofs.nodes.NodesRead.named.Given as goal

abbrev pub invariant-loop-node : goal.invariant-loop-node
invariant-loop-node l = l.named.items ≡ flat_map (λ told. told.extents)
    (map told_by (take l.node-index l.self.nodes.items))
