use Rattle.qg_owner_rule.proofs.own.mark_own.Goals as goal

pub loop-depth-preserved : goal.loop-depth-preserved
loop-depth-preserved c = c.give_level.ensures c.args.roots.now c.loop-depth.invariant
