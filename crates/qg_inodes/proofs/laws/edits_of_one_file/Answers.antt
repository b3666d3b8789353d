use Rattle.qg_inodes.proofs.Exchanged.{exchanges, makes-file, removes-file}
use Rattle.qg_inodes.proofs.RangeEdits.{edits-range, edits-size}
use Rattle.qg_inodes.proofs.laws.edits_of_one_file.Goals as goal

pub returns-clause-exchanged : goal.returns-clause-exchanged
returns-clause-exchanged c = exchanges

pub returns-clause-made : goal.returns-clause-made
returns-clause-made c = makes-file

pub returns-clause-range : goal.returns-clause-range
returns-clause-range c = edits-range

pub returns-clause-size : goal.returns-clause-size
returns-clause-size c = edits-size

pub returns-clause-removed : goal.returns-clause-removed
returns-clause-removed c = removes-file
