use Rattle.std.proofs.Common.{◌≡◌, ℕ, map}
use Rattle.std.specs.Map.Iter.{deref_pair}
use Rattle.qg_extents.specs.Types.{Kept}
use Rattle.qg_weighed.specs.Weight.{table_bytes}
use Rattle.qg_weighed.proofs.whole.table_bytes.Given as goal

abbrev pub invariant-loop-at : goal.invariant-loop-at
invariant-loop-at l = l.bytes ≡ table_bytes (map (deref_pair {K = ℕ} {X = Kept}) l.yielded)
