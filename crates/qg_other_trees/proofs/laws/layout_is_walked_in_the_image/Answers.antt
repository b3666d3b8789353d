use Rattle.qg_other_trees.proofs.Found.{are_those_of}
use Rattle.qg_other_trees.proofs.Walked.{all_walked}
use Rattle.qg_other_trees.proofs.laws.layout_is_walked_in_the_image.Goals as goal

pub returns-clause-walked : goal.returns-clause-walked
returns-clause-walked c = all_walked

pub returns-clause-found : goal.returns-clause-found
returns-clause-found c = are_those_of
