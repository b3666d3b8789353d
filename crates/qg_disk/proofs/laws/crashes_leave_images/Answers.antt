use Rattle.qg_disk.proofs.Crashes.{Leaves-crashed, crashed-new}
use Rattle.qg_disk.proofs.laws.crashes_leave_images.Goals as goal

pub returns-clause-image : goal.returns-clause-image
returns-clause-image c = Leaves-crashed

pub returns-clause-whole : goal.returns-clause-whole
returns-clause-whole c = crashed-new
