use Rattle.std.proofs.Common.{◌<◌}
use Rattle.std.specs.List.{AllAdjacentBelow}
use Rattle.image_calls.proofs.image.do_roots_ascend.Given as goal

-- those that were passed ascend
abbrev pub invariant-loop-i : goal.invariant-loop-i
invariant-loop-i l = AllAdjacentBelow (λ x y. x.0 < y.0) l.roots l.i
