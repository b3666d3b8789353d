use Rattle.qg_disk.proofs.Untold.{writes-untold}
use Rattle.qg_cases.proofs.disk.CaseDiskDisk.write_at.Goals as goal

pub returns-clause-event : goal.returns-clause-event
returns-clause-event c =
    rw (← c.self.view_is) (writes-untold _ _ c.write_at.result _ _ c.write_at.ensures.event)
