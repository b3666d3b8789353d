use Rattle.qg_other_trees.proofs.Sound.{is_committed}
use Rattle.qg_other_trees.proofs.laws.commit_is_sound.Goals as goal

pub returns : goal.returns
returns c = record { sound = is_committed }
