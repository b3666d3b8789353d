use Rattle.qg_commit_trees.proofs.Alike.{stands-alike, subvolume-alike, told-alike}
use Rattle.qg_commit_trees.proofs.laws.reading_leaves_it.Goals as goal

pub returns-clause-subvolume : goal.returns-clause-subvolume
returns-clause-subvolume c = subvolume-alike

pub returns-clause-stands : goal.returns-clause-stands
returns-clause-stands c = stands-alike

pub returns-clause-told : goal.returns-clause-told
returns-clause-told c = told-alike
