use Rattle.qg_file_edits.proofs.FewSteps.{cut-few, range-few, steps-few}
use Rattle.qg_file_edits.proofs.exchange_laws.steps_are_few.Goals as goal

pub returns-clause-any : goal.returns-clause-any
returns-clause-any c = steps-few

pub returns-clause-range : goal.returns-clause-range
returns-clause-range c = range-few

pub returns-clause-size : goal.returns-clause-size
returns-clause-size c = cut-few
