use Rattle.qg_node.specs.NodeText.{IsNode}
use Rattle.bench.proofs.nodes.measure.Given as goal

abbrev pub invariant-loop : goal.invariant-loop
invariant-loop g l = IsNode 16384 l.node
