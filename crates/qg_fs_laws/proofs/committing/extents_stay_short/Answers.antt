use Rattle.qg_fs_laws.proofs.Short.{short-left, spaced-short}
use Rattle.qg_fs_laws.proofs.committing.extents_stay_short.Goals as goal

pub returns-clause-spaced : goal.returns-clause-spaced
returns-clause-spaced c = spaced-short

pub returns-clause-left : goal.returns-clause-left
returns-clause-left c = short-left
