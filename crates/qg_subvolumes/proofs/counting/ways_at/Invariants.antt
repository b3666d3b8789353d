use Rattle.std.proofs.Common.{◌≡◌, ◌++◌, length}
use Rattle.qg_subvolumes.specs.Counting.{ways_told}
use Rattle.qg_subvolumes.proofs.counting.ways_at.Given as goal

abbrev pub decreases-pointers : goal.decreases-pointers
decreases-pointers l = length l.rest

abbrev pub invariant-pointers : goal.invariant-pointers
invariant-pointers l = record {
  told : l.ways.items ++ ways_told l.to l.level l.rest
      ≡ ways_told l.to l.level l.pointers;
}
