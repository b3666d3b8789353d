use Rattle.std.proofs.Common.{◌≤◌}
use Rattle.std.specs.List.{AllAdjacentBelow}
use Rattle.qg_image.specs.Owed.{part_address}
use Rattle.image_calls.proofs.image.do_parts_ascend.Given as goal

abbrev pub invariant-loop-i : goal.invariant-loop-i
invariant-loop-i l = AllAdjacentBelow (λ x y. part_address x ≤ part_address y) l.parts l.i
