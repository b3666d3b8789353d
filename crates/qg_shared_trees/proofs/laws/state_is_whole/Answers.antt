use Rattle.qg_shared_trees.proofs.Files.{files-fit}
use Rattle.qg_shared_trees.proofs.Fitting.{nodes-fit}
use Rattle.qg_shared_trees.proofs.SoundState.{state-whole}
use Rattle.qg_shared_trees.proofs.laws.state_is_whole.Goals as goal

pub returns-clause-items : goal.returns-clause-items
returns-clause-items c = nodes-fit

pub returns-clause-files : goal.returns-clause-files
returns-clause-files c = files-fit

pub returns-clause-whole : goal.returns-clause-whole
returns-clause-whole c = state-whole
