use Rattle.qg_file_edits.proofs.Names.{names-exchanged, names-removed, names-spelled}
use Rattle.qg_file_edits.proofs.exchange_laws.names_are_exchanged.Goals as goal

pub returns-clause-spelled : goal.returns-clause-spelled
returns-clause-spelled c = names-spelled

pub returns-clause-exchanged : goal.returns-clause-exchanged
returns-clause-exchanged c = names-exchanged

pub returns-clause-removed : goal.returns-clause-removed
returns-clause-removed c = names-removed
