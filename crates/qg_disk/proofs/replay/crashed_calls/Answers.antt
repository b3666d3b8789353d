use Rattle.qg_disk.proofs.Crashes.{crashed-done, ends_synced}
use Rattle.qg_disk.proofs.replay.crashed_calls.Goals as goal

pub returns-clause-content : goal.returns-clause-content
returns-clause-content c =
    crashed-done c.args.tear c.args.calls.now c.new-disk.result c.redo_all.new.disk c.redo_all-2.new.disk c.add.new.self
    c.count_to_sync-count.result
    c.count_to_sync-count.ensures.settled c.count_to_sync-count.ensures.behind c.new-disk.ensures
    c.in_ok-redo_all.ensures.ok
    c.in_ok-redo_all-2.ensures.ok c.in_ok-add.ensures.ok

pub returns-clause-sure : goal.returns-clause-sure
returns-clause-sure c = ends_synced c.redo_all-2.new.disk c.add.new.self c.in_ok-add.ensures.ok
