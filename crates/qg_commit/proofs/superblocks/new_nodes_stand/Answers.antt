use Rattle.qg_commit.proofs.NodesAfterCrash.{new_nodes_stand}
use Rattle.qg_commit.proofs.superblocks.new_nodes_stand.Goals as goal

pub returns : goal.returns
returns c = new_nodes_stand
