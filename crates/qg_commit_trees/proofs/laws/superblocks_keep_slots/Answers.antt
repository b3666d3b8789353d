use Rattle.qg_commit_trees.proofs.Alike.{superblocks-keep, syncs-keep}
use Rattle.qg_commit_trees.proofs.laws.superblocks_keep_slots.Goals as goal

pub returns-clause-synced : goal.returns-clause-synced
returns-clause-synced c = syncs-keep

pub returns-clause-written : goal.returns-clause-written
returns-clause-written c = superblocks-keep
