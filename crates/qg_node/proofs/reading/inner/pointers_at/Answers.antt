use Rattle.qg_node.specs.Reading.{pointers_at}
use Rattle.qg_node.proofs.ReadingLoops.{pointers_at-more, pointers_at-all}
use Rattle.qg_node.proofs.reading.inner.pointers_at.Goals as goal

pub loop-i-preserved : goal.loop-i-preserved
loop-i-preserved c =
    let bytes = c.args.bytes.now in
    let count = c.args.count in
    rw c.in_ok-push.ensures.ok (pointers_at-more c.loop-i.pointers count c.loop-i.i bytes c.pointer_at.result
    (pointers_at count 101 bytes) c.loop-i-test.true c.pointer_at.ensures c.loop-i.invariant)

pub returns : goal.returns
returns c =
    let bytes = c.args.bytes.now in
    let count = c.args.count in
    pointers_at-all c.loop-i.pointers count c.loop-i.i bytes (pointers_at count 101 bytes) c.loop-i-test.false
    c.loop-i.invariant
