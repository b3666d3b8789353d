use Rattle.std.proofs.Common.{◌/◌, length, take}
use Rattle.qg_device.specs.History.{content}
use Rattle.qg_disk.proofs.Overlay.{Shows-torn}
use Rattle.qg_disk.proofs.fill.apply.Goals as goal

pub returns-then-call : goal.returns-then-call
returns-then-call c older shows =
    rw (c.in-Write.is, c.if-call.true)
    (Shows-torn c.args.start c.in-Write.at (take (length c.in-Write.bytes / 2) c.in-Write.bytes)
    (content older) c.lay.new.buf (rw c.as_slice-bytes.ensures at (c.lay.ensures (content older) shows)))
