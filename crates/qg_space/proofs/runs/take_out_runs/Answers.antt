use Rattle.std.proofs.Common.{sym, arith}
use Rattle.qg_space.specs.Lying.{present_of}
use Rattle.qg_space.proofs.Fronts.{front_kept}
use Rattle.qg_space.proofs.Given.{without_none}
use Rattle.qg_space.proofs.runs.take_out_runs.Goals as goal

pub returns-in-empty-clause-present : goal.returns-in-empty-clause-present
returns-in-empty-clause-present c =
    sym (without_none c.args.extents.now (present_of c.args.runs.now.items) c.in-empty.len_below)

pub returns-in-len1-clause-front : goal.returns-in-len1-clause-front
returns-in-len1-clause-front c =
    front_kept c.args.runs.now.items c.take_out_run.new.runs.items c.args.packed c.take_out_run.result c.min.result
    (omega (arith, c.min.ensures)) (omega (arith, c.min.ensures))
    c.take_out_run.ensures.before c.requires.front
