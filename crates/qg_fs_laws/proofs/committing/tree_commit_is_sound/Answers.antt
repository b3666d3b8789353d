use Rattle.qg_fs_laws.proofs.InOrder.{runs-apart}
use Rattle.qg_fs_laws.proofs.SoundCommit.{sound-commit}
use Rattle.qg_fs_laws.proofs.committing.tree_commit_is_sound.Goals as goal

pub returns-clause-sound : goal.returns-clause-sound
returns-clause-sound c = sound-commit

pub returns-clause-apart : goal.returns-clause-apart
returns-clause-apart c = runs-apart
