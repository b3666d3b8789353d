use Rattle.qg_crashes.proofs.NewBytesHeld.{holds_the_new, meets_the_premise}
use Rattle.qg_crashes.proofs.crashes.what_is_held_is_no_chance.Goals as goal

pub returns-clause-holds : goal.returns-clause-holds
returns-clause-holds c = holds_the_new

pub returns-clause-premise : goal.returns-clause-premise
returns-clause-premise c = meets_the_premise
