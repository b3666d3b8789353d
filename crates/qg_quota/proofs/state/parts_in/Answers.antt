use Rattle.qg_quota.proofs.RuleOrder.{next-allowed, next-part, nothing-read}
use Rattle.qg_quota.proofs.state.parts_in.Goals as goal

pub returns-in-None : goal.returns-in-None
returns-in-None c =
    nothing-read c.args.generation c.args.items.now c.loop-item.item-index c.item-item.result c.loop-item-test.true
    c.item-item.is c.read.result c.read.ensures c.in-None.is

pub loop-item-preserved : goal.loop-item-preserved
loop-item-preserved c =
    let i = c.loop-item.item-index in
    let item = c.item-item.result in
    record {
      allowed = next-allowed c.args.generation c.args.items.now i item c.loop-item-test.true c.item-item.is
          c.read.result c.read.ensures c.in-Some.part c.in-Some.is
          c.loop-item.invariant.allowed;
      parts = next-part c.args.generation c.args.items.now i item c.loop-item-test.true c.item-item.is c.read.result
          c.read.ensures c.in-Some.part c.loop-item.parts
          c.push.new.self c.in-Some.is c.loop-item.invariant.parts c.in_ok-push-in-Some.ensures.ok;
    }
