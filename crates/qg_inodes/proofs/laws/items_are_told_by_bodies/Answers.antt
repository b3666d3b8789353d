use Rattle.qg_inodes.proofs.BodiesByKey.{has-body, same-bodies}
use Rattle.qg_inodes.proofs.laws.items_are_told_by_bodies.Goals as goal

pub returns-clause-told : goal.returns-clause-told
returns-clause-told c = same-bodies

pub returns-clause-has : goal.returns-clause-has
returns-clause-has c = has-body
