use Rattle.qg_fs_laws.proofs.OpenedKept.{opened-kept}
use Rattle.qg_fs_laws.proofs.OpenedNames.{opened-names}
use Rattle.qg_fs_laws.proofs.OpenedRecords.{opened-recorded}
use Rattle.qg_fs_laws.proofs.opening.opened_is_kept.Goals as goal

pub returns-clause-kept : goal.returns-clause-kept
returns-clause-kept c = opened-kept

pub returns-clause-recorded : goal.returns-clause-recorded
returns-clause-recorded c = opened-recorded

pub returns-clause-names : goal.returns-clause-names
returns-clause-names c = opened-names
