use Rattle.qg_commit.proofs.Subvolume.{fresh-reached, fresh-read}
use Rattle.qg_commit.proofs.laws.fresh_are_reached.Goals as goal

pub returns : goal.returns
returns c = record { reached = fresh-reached; read = fresh-read }
