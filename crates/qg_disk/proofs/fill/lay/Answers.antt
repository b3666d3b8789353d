use Rattle.std.proofs.Common.{◌≡◌, ◌+◌, ◌-◌, min, max, length, drop, arith, ◌∙◌, length-drop}
use Rattle.std.proofs.lemmas.List.{length-take}
use Rattle.qg_disk.proofs.Overlay.{Shows-part, Shows-apart}
use Rattle.qg_disk.proofs.fill.lay.Goals as goal

pub returns-then-low-high : goal.returns-then-low-high
returns-then-low-high c old shows =
    let low : c.max-low.result ≡ max c.args.start c.args.at = c.max-low.ensures in
    let high : c.min-high.result ≡ min (c.args.start + length c.args.buf.now) (c.args.at + length c.args.bytes.now) =
    omega (arith, c.min-high.ensures, c.saturating_add.ensures) in
    let to = c.max-low.result - c.args.start in
    let from = c.max-low.result - c.args.at in
    let count = c.min-high.result - c.max-low.result in
    let order = c.if-low-high.true in
    let long : length c.copy_from_slice.new.self ≡ to + count - to = c.copy_from_slice.ensures.len
    ∙ omega (arith, length-take (to + count - to) (drop to c.args.buf.now), length-drop to c.args.buf.now) in
    Shows-part c.args.start c.args.at to from (to + count - to) (from + count - from) old c.args.buf.now
    c.args.bytes.now c.copy_from_slice.new.self (omega arith) (omega arith) (omega arith) long
    (omega arith) c.copy_from_slice.ensures.after shows

pub returns-else-low-high : goal.returns-else-low-high
returns-else-low-high c old shows =
    Shows-apart c.args.start c.args.at old c.args.buf.now c.args.bytes.now
    (omega (arith, c.max-low.ensures, c.min-high.ensures, c.saturating_add.ensures)) shows
