use Rattle.qg_shared_trees.proofs.Nodes.{those-reached}
use Rattle.qg_shared_trees.proofs.laws.nodes_are_those_reached.Goals as goal

pub returns : goal.returns
returns c = record { reached = those-reached }
