use Rattle.qg_disk.proofs.Images.{Leaves-content}
use Rattle.qg_disk.proofs.laws.leaves_what_it_holds.Goals as goal

pub returns : goal.returns
returns c = Leaves-content
