use Rattle.qg_inodes.proofs.FileBodies.{body-files}
use Rattle.qg_inodes.proofs.Numbers.{files-ascend}
use Rattle.qg_inodes.proofs.Spelled.{spelled}
use Rattle.qg_inodes.proofs.laws.items_of_files.Goals as goal

pub returns-clause-spelled : goal.returns-clause-spelled
returns-clause-spelled c = spelled

pub returns-clause-ascending : goal.returns-clause-ascending
returns-clause-ascending c = files-ascend

pub returns-clause-bodies : goal.returns-clause-bodies
returns-clause-bodies c = body-files
