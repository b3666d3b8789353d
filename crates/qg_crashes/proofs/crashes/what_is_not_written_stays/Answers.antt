use Rattle.qg_crashes.proofs.Unwritten.{spared_stays}
use Rattle.qg_crashes.proofs.crashes.what_is_not_written_stays.Goals as goal

pub returns : goal.returns
returns c = spared_stays
