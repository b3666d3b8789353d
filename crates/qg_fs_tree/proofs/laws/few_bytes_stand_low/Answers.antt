use Rattle.qg_fs_tree.proofs.Low.{low-standing}
use Rattle.qg_fs_tree.proofs.laws.few_bytes_stand_low.Goals as goal

pub returns : goal.returns
returns c fs history items names stands drafted few = low-standing fs history items names stands drafted few
