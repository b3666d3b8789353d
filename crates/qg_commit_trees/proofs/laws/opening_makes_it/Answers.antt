use Rattle.qg_commit_trees.proofs.Opened.{subvolume-opened, turns-opened}
use Rattle.qg_commit_trees.proofs.OpenedStands.{stands-opened}
use Rattle.qg_commit_trees.proofs.laws.opening_makes_it.Goals as goal

pub returns-clause-subvolume : goal.returns-clause-subvolume
returns-clause-subvolume c = subvolume-opened

pub returns-clause-turns : goal.returns-clause-turns
returns-clause-turns c = turns-opened

pub returns-clause-stands : goal.returns-clause-stands
returns-clause-stands c = stands-opened
