use Rattle.qg_crashes.proofs.Chosen.{leaves_a_valid_one, leaves_old_or_new, leaves_the_old, leaves_the_new}
use Rattle.qg_crashes.proofs.superblocks.two_places_leave_a_valid_one.Goals as goal

pub returns-clause-valid : goal.returns-clause-valid
returns-clause-valid c = leaves_a_valid_one

pub returns-clause-chosen : goal.returns-clause-chosen
returns-clause-chosen c = leaves_old_or_new

pub returns-clause-old : goal.returns-clause-old
returns-clause-old c = leaves_the_old

pub returns-clause-new : goal.returns-clause-new
returns-clause-new c = leaves_the_new
