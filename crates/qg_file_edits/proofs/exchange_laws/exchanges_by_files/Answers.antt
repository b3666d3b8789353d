use Rattle.qg_file_edits.proofs.Stretches.{all-gone, all-put, cut-exchanged, range-exchanged}
use Rattle.qg_file_edits.proofs.exchange_laws.exchanges_by_files.Goals as goal

pub returns-clause-range : goal.returns-clause-range
returns-clause-range c = range-exchanged

pub returns-clause-size : goal.returns-clause-size
returns-clause-size c = cut-exchanged

pub returns-clause-made : goal.returns-clause-made
returns-clause-made c = all-put

pub returns-clause-removed : goal.returns-clause-removed
returns-clause-removed c = all-gone
