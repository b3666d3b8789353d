use Rattle.std.proofs.Common.{◌≡◌, take}
use Rattle.qg_super.specs.Places.{data_begin}
use Rattle.qg_space.specs.Lying.{extents_of, end_of_last, IsPackedFront}
use Rattle.qg_space.proofs.runs.packed_runs.Given as goal

abbrev pub invariant-loop-number : goal.invariant-loop-number
invariant-loop-number l = IsPackedFront l.runs l.number
    × (l.end ≡ end_of_last data_begin (take l.number (extents_of l.runs)))
