use Rattle.std.proofs.Common.{◌≡◌, drop}
use Rattle.qg_image.specs.Verdict.{space_failure}
use Rattle.qg_reach.proofs.space.space_failure.Given as goal

abbrev pub invariant-loop-i : goal.invariant-loop-i
invariant-loop-i l = space_failure l.sizes l.extents ≡ space_failure l.sizes (drop l.i l.extents)
