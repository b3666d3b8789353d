use Rattle.qg_shared_trees.proofs.Copied.{commands-copy}
use Rattle.qg_shared_trees.proofs.Moved.{moves-itself, moves-then, names-move}
use Rattle.qg_shared_trees.proofs.laws.commands_copy.Goals as goal

pub returns-clause-compose : goal.returns-clause-compose
returns-clause-compose c = record { none = moves-itself; named = names-move; both = moves-then }

pub returns-clause-copy : goal.returns-clause-copy
returns-clause-copy c = commands-copy
