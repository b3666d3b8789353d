use Rattle.qg_fs_laws.proofs.Followed.{follows}
use Rattle.qg_fs_laws.proofs.Kept.{counts, whole}
use Rattle.qg_fs_laws.proofs.stepping.file_command_copies.Goals as goal

pub returns-clause-whole : goal.returns-clause-whole
returns-clause-whole c = λ fs history bytes state mine files kept keeps.
    (whole fs history bytes state mine files kept keeps, counts fs history bytes state mine files kept keeps)

pub returns-clause-copies : goal.returns-clause-copies
returns-clause-copies c = λ old new history bytes left pieces before mine files files_new last
    kept keeps kept_new leaves runs.
    follows old new history bytes left pieces before mine files files_new last kept keeps kept_new leaves runs
