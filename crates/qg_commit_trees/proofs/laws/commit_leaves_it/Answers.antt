use Rattle.qg_commit_trees.proofs.Still.{stands-committed, subvolume-still, turns-still}
use Rattle.qg_commit_trees.proofs.laws.commit_leaves_it.Goals as goal

pub returns-clause-subvolume : goal.returns-clause-subvolume
returns-clause-subvolume c = subvolume-still

pub returns-clause-turns : goal.returns-clause-turns
returns-clause-turns c = turns-still

pub returns-clause-stands : goal.returns-clause-stands
returns-clause-stands c = stands-committed
