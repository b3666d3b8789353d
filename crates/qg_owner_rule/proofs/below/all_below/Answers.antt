use Rattle.std.proofs.Common.{◌≡◌, ◌+◌, length, subst, sym, arith}
use Rattle.qg_owner_rule.proofs.Listed.{at_read}
use Rattle.qg_owner_rule.proofs.Pointing.{FirstBelow, below_none, below_more, below_all}
use Rattle.qg_owner_rule.proofs.below.all_below.Goals as goal

pub loop-node-init : goal.loop-node-init
loop-node-init c = below_none c.args.nodes.now c.in_ok-below.below.items c.in_ok-below.ensures.items

pub loop-node-preserved : goal.loop-node-preserved
loop-node-preserved c =
    let nodes = c.args.nodes.now in
    let i = c.loop-node.node-index in
    let node = c.node-item.result in
    let at = at_read nodes i node c.loop-node-test.true c.node-item.is in
    subst (λ below. FirstBelow nodes below (i + 1)) (sym c.in_ok-push.ensures.items)
    (below_more nodes c.loop-node.below.items i node c.in_ok-places_below.field-0 at c.in_ok-places_below.ensures
    c.loop-node.invariant)

pub returns : goal.returns
returns c =
    let end : c.loop-node.node-index ≡ length c.args.nodes.now =
    omega (arith, c.loop-node-test.false, c.loop-node.auto.node-index-end) in
    below_all c.args.nodes.now c.loop-node.below.items c.loop-node.node-index end c.loop-node.invariant
