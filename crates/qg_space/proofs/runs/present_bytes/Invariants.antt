use Rattle.std.proofs.Common.{◌≡◌, take}
use Rattle.std.specs.List.{sum_by}
use Rattle.qg_space.proofs.Taken.{bytes_if_present}
use Rattle.qg_space.proofs.runs.present_bytes.Given as goal

abbrev pub invariant-loop-run : goal.invariant-loop-run
invariant-loop-run l = l.bytes ≡ sum_by bytes_if_present (take l.run-index l.runs)
