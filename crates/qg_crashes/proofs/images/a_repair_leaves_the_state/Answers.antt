use Rattle.qg_crashes.proofs.States.{repair_leaves_the_state}
use Rattle.qg_crashes.proofs.Repairs.{repair_mirrors}
use Rattle.qg_crashes.proofs.images.a_repair_leaves_the_state.Goals as goal

pub returns-clause-leaves : goal.returns-clause-leaves
returns-clause-leaves c = repair_leaves_the_state

pub returns-clause-mirrors : goal.returns-clause-mirrors
returns-clause-mirrors c = repair_mirrors
