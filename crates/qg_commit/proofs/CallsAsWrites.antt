-- The device calls of a commit as writes and syncs, apart from both superblock places.
use Rattle.qg_commit.proofs.CallEvents.{calls_write}
use Rattle.qg_crashes.proofs.Slots.{writing_commits}
use Rattle.qg_commit.specs.CommitCalls.{CallsCommit}

pub calls_commit : CallsCommit
calls_commit before nodes super after calls =
    writing_commits before nodes super after (calls_write before nodes super after calls)
