use Rattle.qg_commit.proofs.NewNodes.{written-new}
use Rattle.qg_commit.proofs.laws.written_are_new_nodes.Goals as goal

pub returns : goal.returns
returns c = record { new = written-new }
