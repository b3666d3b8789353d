use Rattle.qg_crashes.proofs.States.{leaves_either_state, leaves_the_old_state, leaves_the_new_state}
use Rattle.qg_crashes.proofs.States.{mirrors_the_new_state}
use Rattle.qg_crashes.proofs.images.a_crash_leaves_the_old_state_or_the_new_one.Goals as goal

pub returns-clause-either : goal.returns-clause-either
returns-clause-either c = leaves_either_state

pub returns-clause-old : goal.returns-clause-old
returns-clause-old c = leaves_the_old_state

pub returns-clause-new : goal.returns-clause-new
returns-clause-new c = leaves_the_new_state

pub returns-clause-mirrors : goal.returns-clause-mirrors
returns-clause-mirrors c = mirrors_the_new_state
