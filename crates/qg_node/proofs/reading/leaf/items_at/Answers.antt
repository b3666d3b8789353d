use Rattle.std.proofs.lemmas.Result.{err_from_is_err_and}
use Rattle.qg_node.proofs.ReadingLoops.{HasRead-none, HasRead-more, HasRead-stops, HasRead-all}
use Rattle.qg_node.proofs.reading.leaf.items_at.Goals as goal

pub loop-i-init : goal.loop-i-init
loop-i-init c = rw c.in_ok-items.ensures (HasRead-none c.args.count c.args.low c.args.bytes.now c.requires.low.1)

pub returns-in_err-item : goal.returns-in_err-item
returns-in_err-item c =
    let bytes = c.args.bytes.now in
    let fault = err_from_is_err_and c.from_residual-in_err-item.result c.from_residual-in_err-item.ensures.1 in
    record {
      exact = rw (fault.1, fault.2)
          (HasRead-stops c.in_err-item.field-0.0 c.loop-i.items c.args.count c.loop-i.i c.loop-i.end c.args.low bytes
          c.loop-i-test.true c.in_err-item.ensures.exact c.loop-i.invariant);
      begin = rw fault.1 tt;
    }

pub loop-i-preserved : goal.loop-i-preserved
loop-i-preserved c =
    rw c.in_ok-push.ensures.ok
    (HasRead-more c.loop-i.items c.args.count c.loop-i.i c.loop-i.end c.args.low c.in_ok-item.begin c.args.bytes.now
    c.in_ok-item.item c.loop-i-test.true c.in_ok-item.ensures.exact c.in_ok-item.ensures.begin c.loop-i.invariant)

pub returns : goal.returns
returns c = record {
  exact = HasRead-all c.loop-i.items c.args.count c.loop-i.i c.loop-i.end c.args.low c.args.bytes.now
      c.loop-i-test.false c.loop-i.invariant;
  begin = (c.loop-i.invariant.above, c.loop-i.invariant.within);
}
