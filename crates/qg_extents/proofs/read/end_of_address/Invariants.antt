use Rattle.std.proofs.Common.{◌≡◌, ◌+◌, ◌<◌, ◌≤◌, ℕ, length, get_or}
use Rattle.qg_tree_items.specs.Types.{ExtentPart}
use Rattle.qg_tree_items.specs.Owed.{part_address}
use Rattle.qg_extents.proofs.read.end_of_address.Given as goal

abbrev pub invariant-loop-to : goal.invariant-loop-to
invariant-loop-to l = record {
  order : l.from + 1 ≤ l.to;
  bound : l.to ≤ length l.parts;
  same : (k : ℕ) (d : ExtentPart) → l.from ≤ k → k < l.to
      → part_address (get_or l.parts k d) ≡ part_address (get_or l.parts l.from d);
}
