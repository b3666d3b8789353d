use Rattle.qg_other_trees.proofs.Owing.{owes_begins}
use Rattle.qg_other_trees.proofs.laws.whole_owes_what_begins.Goals as goal

pub returns : goal.returns
returns c = record { begins = owes_begins }
