use Rattle.qg_node.specs.Nodes.{items_bytes}
use Rattle.qg_tree_build.proofs.Filled.{filled-light}
use Rattle.qg_tree_build.proofs.planning.most_nodes.Goals as goal

pub bytes_of-requires : goal.bytes_of-requires
bytes_of-requires c = filled-light c.args.nodesize (items_bytes c.args.items.now) c.requires.size c.requires.few
