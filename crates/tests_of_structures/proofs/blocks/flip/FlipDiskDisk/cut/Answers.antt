use Rattle.qg_disk.proofs.Untold.{cuts-untold}
use Rattle.tests_of_structures.proofs.blocks.flip.FlipDiskDisk.cut.Goals as goal

pub returns-clause-event : goal.returns-clause-event
returns-clause-event c =
    rw (← c.self.view_is) (cuts-untold _ _ c.cut.result _ _ c.cut.ensures.event)
