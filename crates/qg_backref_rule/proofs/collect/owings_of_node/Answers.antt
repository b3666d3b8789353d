use Rattle.std.proofs.Common.{rules}
use Rattle.qg_image.specs.Owed.{owed_by_node}
use Rattle.qg_backref_rule.proofs.collect.owings_of_node.Goals as goal

pub returns : goal.returns
unfolding owed_by_node
returns c = search rules
