use Rattle.qg_crashes.proofs.Repaired.{keeps_what_counts}
use Rattle.qg_crashes.proofs.superblocks.a_repair_keeps_what_counts.Goals as goal

pub returns : goal.returns
returns c = keeps_what_counts
