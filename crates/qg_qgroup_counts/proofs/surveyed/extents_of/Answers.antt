use Rattle.std.proofs.Common.{rules}
use Rattle.qg_image.specs.Reach.{pieces_of}
use Rattle.qg_qgroup_counts.proofs.surveyed.extents_of.Goals as goal

pub returns-in-Leaf : goal.returns-in-Leaf
unfolding pieces_of
returns-in-Leaf c = search rules

pub returns-in-Inner : goal.returns-in-Inner
unfolding pieces_of
returns-in-Inner c = search rules
