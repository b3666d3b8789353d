use Rattle.qg_file_edits.proofs.NameCounts.{names-add, names-few, names-once, names-ordered, pieces-few}
use Rattle.qg_file_edits.proofs.exchange_laws.names_are_few.Goals as goal

pub returns-clause-pieces : goal.returns-clause-pieces
returns-clause-pieces c = pieces-few

pub returns-clause-files : goal.returns-clause-files
returns-clause-files c owner files are at reference = names-few owner at reference files are

pub returns-clause-once : goal.returns-clause-once
returns-clause-once c owner names at reference = names-once owner at reference names

pub returns-clause-add : goal.returns-clause-add
returns-clause-add c owner some others at reference = names-add owner at reference some others

pub returns-clause-order : goal.returns-clause-order
returns-clause-order c owner some others same at reference = names-ordered owner at reference some others same
