use Rattle.qg_commit.proofs.OpeningCalls.{opening_repairs}
use Rattle.qg_commit.proofs.superblocks.the_calls_of_opening.Goals as goal

pub returns : goal.returns
returns c = opening_repairs
