use Rattle.qg_crashes.proofs.SameStates.{reads_what_is_held}
use Rattle.qg_crashes.proofs.images.only_what_is_held_is_read.Goals as goal

pub returns : goal.returns
returns c = reads_what_is_held
