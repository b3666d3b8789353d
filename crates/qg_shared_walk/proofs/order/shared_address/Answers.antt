use Rattle.std.proofs.Common.{sym, ◌∙◌, arith}
use Rattle.qg_shared_walk.proofs.Sorted.{not_rising, number_read, numbers_rise}
use Rattle.qg_shared_walk.proofs.order.shared_address.Goals as goal

pub returns-then-le-clause-some : goal.returns-then-le-clause-some
returns-then-le-clause-some c =
    not_rising number_read c.args.nodes.now c.loop-i.i c.index-nodes-i.result c.index-nodes-i-in-loop-i.result
    (omega arith) (omega arith)
    (sym c.le.ensures ∙ c.if-le.true)

pub returns-clause-none : goal.returns-clause-none
returns-clause-none c =
    numbers_rise number_read c.args.nodes.now (λ k d h. c.loop-i.invariant k d (omega (arith, h, c.loop-i-test.false)))
