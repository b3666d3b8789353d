use Rattle.std.proofs.Common.{arith}
use Rattle.qg_owner_rule.specs.declared.linked.Linked.{Linked}
use Rattle.qg_shared_walk.proofs.Sorted.{numbers_rise}
use Rattle.image_calls.proofs.image.do_nodes_ascend.Goals as goal

pub returns : goal.returns
returns c = λ holds. numbers_rise (λ (node : Linked). node.address) c.args.nodes.now
    (λ k d h. c.loop-i.invariant k d (omega (arith, h, c.loop-i-test.false)))
