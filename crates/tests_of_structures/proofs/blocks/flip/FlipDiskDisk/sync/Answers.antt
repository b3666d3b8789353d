use Rattle.qg_disk.proofs.Untold.{syncs-untold}
use Rattle.tests_of_structures.proofs.blocks.flip.FlipDiskDisk.sync.Goals as goal

pub returns-clause-event : goal.returns-clause-event
returns-clause-event c =
    rw (← c.self.view_is) (syncs-untold _ _ c.sync.result c.sync.ensures.event)
