use Rattle.qg_cow_refs.proofs.LeavingLaws.{leaving-turns, leaving-leaves}
use Rattle.qg_cow_refs.proofs.laws.leaving_turns_what_is_owed.Goals as goal

pub returns-clause-owed : goal.returns-clause-owed
returns-clause-owed c = leaving-turns

pub returns-clause-left : goal.returns-clause-left
returns-clause-left c = leaving-leaves
