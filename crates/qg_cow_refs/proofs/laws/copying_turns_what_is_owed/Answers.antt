use Rattle.qg_cow_refs.proofs.CopyLaws.{copy-turns, copy-leaves}
use Rattle.qg_cow_refs.proofs.laws.copying_turns_what_is_owed.Goals as goal

pub returns-clause-owed : goal.returns-clause-owed
returns-clause-owed c = copy-turns

pub returns-clause-old : goal.returns-clause-old
returns-clause-old c = copy-leaves
