use Rattle.std.proofs.Common.{ℕ, List, subst}
use Rattle.qg_refs.specs.declared.kept.Kept.{Kept as Reference}
use Rattle.qg_extents.specs.Table.{IsTable}
use Rattle.qg_file_commands.proofs.RunTold.{run-first, run-free, run-told}
use Rattle.qg_file_commands.proofs.writing.run_for.Goals as goal

pub returns-clause-run : goal.returns-clause-run
returns-clause-run c = λ state history bytes fits keeps.
    run-told c.args.len c.first_run.result c.requires.aligned c.args.kept.now state history bytes fits keeps
    (subst (λ (book : List (ℕ × Reference)). IsTable book) c.refs.ensures c.len-ascending.ensures.table)
    c.first_run.ensures

pub returns-clause-free : goal.returns-clause-free
returns-clause-free c =
    run-free c.args.kept.now.fs.land.space c.args.len c.first_run.result
    (run-first c.args.len c.first_run.result c.requires.aligned c.args.kept.now.fs.land.space c.first_run.ensures)
