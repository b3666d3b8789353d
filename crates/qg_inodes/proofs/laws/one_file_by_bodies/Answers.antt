use Rattle.qg_inodes.proofs.OneFile.{body-with_file, body-without_file, puts-file, takes-file}
use Rattle.qg_inodes.proofs.laws.one_file_by_bodies.Goals as goal

pub returns-clause-with_it : goal.returns-clause-with_it
returns-clause-with_it c ino file files up key = body-with_file ino files up key file

pub returns-clause-without_it : goal.returns-clause-without_it
returns-clause-without_it c = body-without_file

pub returns-clause-put : goal.returns-clause-put
returns-clause-put c = puts-file

pub returns-clause-taken : goal.returns-clause-taken
returns-clause-taken c = takes-file
