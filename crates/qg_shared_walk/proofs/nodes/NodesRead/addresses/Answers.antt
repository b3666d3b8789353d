use Rattle.std.proofs.Common.{◌≤◌, arith, length, map, ap, ◌∙◌}
use Rattle.std.proofs.lemmas.List.{take_all}
use Rattle.qg_shared_walk.proofs.Sorted.{lie_as_told, number_read}
use Rattle.qg_shared_walk.proofs.nodes.NodesRead.addresses.Goals as goal

pub returns : goal.returns
returns c = λ nodes are.
    let reads = c.args.self.now.nodes.items in
    let end : length reads ≤ c.loop-node.node-index = omega (
      arith,
      ap length c.as_slice-node-items.ensures.value,
      c.loop-node-test.false,
    ) in
    c.loop-node.invariant ∙ ap (map number_read) (take_all c.loop-node.node-index reads end)
    ∙ lie_as_told reads nodes are
