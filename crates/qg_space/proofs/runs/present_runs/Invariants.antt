use Rattle.std.proofs.Common.{◌≡◌, take}
use Rattle.qg_space.specs.Lying.{present_of}
use Rattle.qg_space.proofs.runs.present_runs.Given as goal

abbrev pub invariant-loop-run : goal.invariant-loop-run
invariant-loop-run l = l.list ≡ present_of (take l.run-index l.runs)
