use Rattle.std.proofs.Common.{take}
use Rattle.qg_device.specs.History.{content}
use Rattle.qg_disk.specs.Buffer.{Shows}
use Rattle.qg_disk.specs.Call.{history_of}
use Rattle.qg_disk.proofs.fill.fill.Given as goal

abbrev pub invariant-loop-call : goal.invariant-loop-call
invariant-loop-call l = Shows l.start (content (history_of (take l.call-index l.calls))) l.buf
