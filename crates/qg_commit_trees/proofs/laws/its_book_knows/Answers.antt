use Rattle.qg_commit_trees.proofs.Known.{knows-root, no-later}
use Rattle.qg_commit_trees.proofs.laws.its_book_knows.Goals as goal

pub returns-clause-root : goal.returns-clause-root
returns-clause-root c = knows-root

pub returns-clause-early : goal.returns-clause-early
returns-clause-early c = no-later
