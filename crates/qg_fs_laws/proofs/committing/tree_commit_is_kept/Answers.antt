use Rattle.qg_fs_laws.proofs.CommitKept.{commit-kept}
use Rattle.qg_fs_laws.proofs.KeptStill.{kept-still}
use Rattle.qg_fs_laws.proofs.committing.tree_commit_is_kept.Goals as goal

pub returns-clause-kept : goal.returns-clause-kept
returns-clause-kept c = λ old new events later bytes state mine files roots counters slots trees others lays told
    becomes still.
    commit-kept old new events later bytes state mine files roots counters slots trees others lays told becomes still

pub returns-clause-still : goal.returns-clause-still
returns-clause-still c = λ old new before after state mine files tree others space still keeps.
    kept-still old new before after state mine files tree others space still keeps
