-- Nodes that a commit does not write stand in any image that a crash at a moment of it may leave.
use Rattle.qg_commit.proofs.CallEvents.{calls_write}
use Rattle.qg_crashes.proofs.Slots.{other_slots_stay}
use Rattle.qg_commit.specs.CommitCalls.{OtherNodesStay}

pub other_nodes_stay : OtherNodesStay
other_nodes_stay before nodes super reader after image moment address calls leaves sizes others =
    other_slots_stay before nodes super reader after image moment address (calls_write before nodes super after calls)
    leaves sizes others
