use Rattle.qg_fs_laws.proofs.Commit.{commit-of-machine}
use Rattle.qg_fs_laws.proofs.stepping.commit_is_one_of_the_machine.Goals as goal

pub returns : goal.returns
returns c = record { commits = commit-of-machine }
