use Rattle.qg_file_edits.proofs.Possible.{can-exchange, made-can, range-can, removed-can, size-can}
use Rattle.qg_file_edits.proofs.exchange_laws.exchanges_can_be_made.Goals as goal

pub returns-clause-any : goal.returns-clause-any
returns-clause-any c = can-exchange

pub returns-clause-range : goal.returns-clause-range
returns-clause-range c = range-can

pub returns-clause-size : goal.returns-clause-size
returns-clause-size c = size-can

pub returns-clause-made : goal.returns-clause-made
returns-clause-made c = made-can

pub returns-clause-removed : goal.returns-clause-removed
returns-clause-removed c = removed-can
