use Rattle.qg_shared_trees.proofs.OwedReferences.{owed-counted}
use Rattle.qg_shared_trees.proofs.laws.owed_is_counted.Goals as goal

pub returns : goal.returns
returns c = record { counted = owed-counted }
