use Rattle.std.proofs.Common.{rules}
use Rattle.qg_image.specs.Reach.{pieces_of}
use Rattle.qg_shared_walk.proofs.extents.extents_of_node.Goals as goal

pub returns-in-Leaf : goal.returns-in-Leaf
unfolding pieces_of
returns-in-Leaf c = search rules

pub returns-in-Inner : goal.returns-in-Inner
unfolding pieces_of
returns-in-Inner c = search rules
