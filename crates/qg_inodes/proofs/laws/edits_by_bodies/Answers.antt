use Rattle.qg_inodes.proofs.EditedItems.{put-in, taken-out}
use Rattle.qg_inodes.proofs.laws.edits_by_bodies.Goals as goal

pub returns-clause-put : goal.returns-clause-put
returns-clause-put c = put-in

pub returns-clause-taken : goal.returns-clause-taken
returns-clause-taken c = taken-out
