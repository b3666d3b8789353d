use Rattle.std.proofs.Common.{sym, subst}
use Rattle.qg_owner_rule.specs.Housed.{AreOwn}
use Rattle.qg_owner_rule.proofs.Listed.{at_read}
use Rattle.qg_owner_rule.proofs.Owning.{own_more, root_reached}
use Rattle.qg_owner_rule.proofs.own.mark_roots.Goals as goal
use Rattle.qg_owner_rule.proofs.own.mark_roots.Goals.{then-is_own_root, else-is_own_root}

pub loop-i-preserved : goal.loop-i-preserved
loop-i-preserved c =
    let nodes = c.args.nodes.now in
    let roots = c.args.roots.now in
    let i = c.loop-i.i in
    let node = c.index-nodes-i.result in
    let here = at_read nodes i node c.loop-i-test.true c.index-nodes-i.is in
    elim c.if-is_own_root.branch [
      | then-is_own_root w ↦
          let reached = root_reached nodes roots i node here (c.is_own_root.ensures w.if-is_own_root.true) in
          subst (AreOwn nodes roots) (sym w.own-is)
          (own_more nodes roots c.loop-i.own i node here reached c.loop-i.invariant)
      | else-is_own_root w ↦ subst (AreOwn nodes roots) (sym w.own-is) c.loop-i.invariant
    ]
