use Rattle.qg_crashes.proofs.DueCounters.{stands_counted}
use Rattle.qg_crashes.proofs.images.what_stands_is_counted.Goals as goal

pub returns : goal.returns
returns c = stands_counted
