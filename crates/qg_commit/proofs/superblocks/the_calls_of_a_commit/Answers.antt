use Rattle.qg_commit.proofs.CallEvents.{calls_are_whole, calls_write}
use Rattle.qg_commit.proofs.CallsAsWrites.{calls_commit}
use Rattle.qg_commit.proofs.superblocks.the_calls_of_a_commit.Goals as goal

pub returns-clause-commits : goal.returns-clause-commits
returns-clause-commits c = calls_commit

pub returns-clause-writes : goal.returns-clause-writes
returns-clause-writes c = calls_write

pub returns-clause-whole : goal.returns-clause-whole
returns-clause-whole c = calls_are_whole
