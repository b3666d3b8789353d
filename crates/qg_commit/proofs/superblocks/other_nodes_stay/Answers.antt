use Rattle.qg_commit.proofs.OtherNodes.{other_nodes_stay}
use Rattle.qg_commit.proofs.superblocks.other_nodes_stay.Goals as goal

pub returns : goal.returns
returns c = other_nodes_stay
