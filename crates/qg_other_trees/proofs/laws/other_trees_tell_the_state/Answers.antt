use Rattle.qg_other_trees.proofs.Telling.{are_told}
use Rattle.qg_other_trees.proofs.laws.other_trees_tell_the_state.Goals as goal

pub returns : goal.returns
returns c = record { tell = are_told }
