use Rattle.qg_shared_trees.proofs.Trees.{heights-low, trees-walked}
use Rattle.qg_shared_trees.proofs.laws.trees_are_walked.Goals as goal

pub returns-clause-low : goal.returns-clause-low
returns-clause-low c = heights-low

pub returns-clause-walked : goal.returns-clause-walked
returns-clause-walked c = trees-walked
