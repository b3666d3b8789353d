use Rattle.std.proofs.Common.{drop}
use Rattle.qg_space.proofs.Gaps.{ArePassed}
use Rattle.qg_space.proofs.runs.first_gap.Given as goal

abbrev pub invariant-loop-run : goal.invariant-loop-run
invariant-loop-run l = ArePassed l.sizes l.runs (drop l.run-index l.later) l.bytes l.from
