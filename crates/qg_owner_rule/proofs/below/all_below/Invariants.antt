use Rattle.qg_owner_rule.proofs.Pointing.{FirstBelow}
use Rattle.qg_owner_rule.proofs.below.all_below.Given as goal

abbrev pub invariant-loop-node : goal.invariant-loop-node
invariant-loop-node l = FirstBelow l.nodes l.below.items l.node-index
