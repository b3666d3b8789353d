use Rattle.std.proofs.Common.{◌≡◌, map, take}
use Rattle.qg_space.specs.Lying.{run_of_both}
use Rattle.qg_space.proofs.Packed.{PackedWalk}
use Rattle.qg_space.proofs.runs.runs_of_both.Given as goal

abbrev pub invariant-loop-number : goal.invariant-loop-number
invariant-loop-number l = (l.runs.items ≡ map run_of_both (take l.number l.extents))
    × PackedWalk l.extents l.number l.packed l.end
