use Rattle.std.proofs.Common.{◌≡◌, count_by, take}
use Rattle.qg_device.specs.History.{content}
use Rattle.qg_disk.specs.Call.{history_of}
use Rattle.qg_disk.specs.Redone.{with_calls_torn}
use Rattle.qg_disk.proofs.replay.redo_all.Given as goal

abbrev pub invariant-loop-call : goal.invariant-loop-call
invariant-loop-call l =
    (content (history_of l.disk) ≡ with_calls_torn l.tear (take l.call-index l.calls)
    (content (history_of l.initial.disk)))
    × (count_by (λ call. call.failed) l.disk ≡ count_by (λ call. call.failed) l.initial.disk)
