use Rattle.qg_crashes.proofs.Later.{premise_from_later}
use Rattle.qg_crashes.proofs.crashes.the_premise_from_a_later_moment.Goals as goal

pub returns : goal.returns
returns c = premise_from_later
