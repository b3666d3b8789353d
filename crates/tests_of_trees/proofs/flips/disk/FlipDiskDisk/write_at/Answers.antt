use Rattle.qg_disk.proofs.Untold.{writes-untold}
use Rattle.tests_of_trees.proofs.flips.disk.FlipDiskDisk.write_at.Goals as goal

pub returns-clause-event : goal.returns-clause-event
returns-clause-event c =
    rw (← c.self.view_is) (writes-untold _ _ c.write_at.result _ _ c.write_at.ensures.event)
