use Rattle.std.proofs.Common.{◌≡◌, take}
use Rattle.qg_image.specs.Verdict.{extent_set}
use Rattle.qg_shared_walk.proofs.extents.without_repeats.Given as goal

abbrev pub invariant-loop-i : goal.invariant-loop-i
invariant-loop-i l = l.extents ≡ extent_set (take l.i l.sorted)
