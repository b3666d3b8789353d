use Rattle.std.proofs.Common.{◌≡◌, map, take}
use Rattle.qg_space.specs.Lying.{given_back}
use Rattle.qg_space.proofs.runs.give_back.Given as goal

abbrev pub invariant-loop-extent : goal.invariant-loop-extent
invariant-loop-extent l = l.runs ≡ map (given_back (take l.extent-index l.extents)) l.initial.runs
