use Rattle.std.proofs.Common.{◌≡◌, ◌++◌, map, take, drop}
use Rattle.qg_space.specs.Lying.{with_held}
use Rattle.qg_space.proofs.runs.hold_all.Given as goal

abbrev pub invariant-loop-run : goal.invariant-loop-run
invariant-loop-run l = l.runs ≡ map with_held (take l.run-index l.initial.runs) ++ drop l.run-index l.initial.runs
