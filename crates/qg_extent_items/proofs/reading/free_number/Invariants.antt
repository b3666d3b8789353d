use Rattle.std.proofs.Common.{◌≤◌}
use Rattle.qg_extent_items.proofs.FreeNumbers.{IsFreeSoFar}
use Rattle.qg_extent_items.proofs.reading.free_number.Given as goal

abbrev pub invariant-loop-item : goal.invariant-loop-item
invariant-loop-item l = record {
  bound : l.number ≤ l.item-index;
  free : IsFreeSoFar l.at l.items l.item-index l.number;
}
