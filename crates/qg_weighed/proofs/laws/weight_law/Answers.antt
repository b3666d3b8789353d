use Rattle.qg_weighed.proofs.Fresh.{fresh-counts}
use Rattle.qg_weighed.proofs.Law.{no-less, weighs}
use Rattle.qg_weighed.proofs.Named.{said-recorded}
use Rattle.qg_weighed.proofs.laws.weight_law.Goals as goal

pub returns : goal.returns
returns c = record { fresh = fresh-counts; recorded = said-recorded; weighs = weighs; least = no-less }
