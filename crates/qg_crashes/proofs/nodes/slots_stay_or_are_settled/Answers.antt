use Rattle.qg_crashes.proofs.Slots.{writing_commits, stays_as_long, other_slots_stay, slots_are_settled}
use Rattle.qg_crashes.proofs.nodes.slots_stay_or_are_settled.Goals as goal

pub returns-clause-commits : goal.returns-clause-commits
returns-clause-commits c = writing_commits

pub returns-clause-long : goal.returns-clause-long
returns-clause-long c = stays_as_long

pub returns-clause-stay : goal.returns-clause-stay
returns-clause-stay c = other_slots_stay

pub returns-clause-settled : goal.returns-clause-settled
returns-clause-settled c = slots_are_settled
