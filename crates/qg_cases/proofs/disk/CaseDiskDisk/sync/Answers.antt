use Rattle.qg_disk.proofs.Untold.{syncs-untold}
use Rattle.qg_cases.proofs.disk.CaseDiskDisk.sync.Goals as goal

pub returns-clause-event : goal.returns-clause-event
returns-clause-event c =
    rw (← c.self.view_is) (syncs-untold _ _ c.sync.result c.sync.ensures.event)
