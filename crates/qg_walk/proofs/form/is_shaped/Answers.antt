use Rattle.qg_walk.proofs.form.is_shaped.Goals as goal

pub returns-in_default : goal.returns-in_default
returns-in_default c = rw c.in_default.is (c.is_root_shaped.ensures c.args.nodesize)
