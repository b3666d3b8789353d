use Rattle.std.proofs.Common.{map, take}
use Rattle.std.specs.List.Sorted.{IsStrictlyIncreasing}
use Rattle.qg_qgroup_counts.specs.Namers.{HasAtMost, HasNoted}
use Rattle.qg_qgroup_counts.proofs.namers.note.Given as goal

abbrev pub invariant-loop-address : goal.invariant-loop-address
invariant-loop-address l = record {
  most : HasAtMost l.index l.initial.lists l.lists;
  noted : IsStrictlyIncreasing (map (λ extent. extent.address) l.extents)
      → HasNoted l.extents (take l.address-index l.named) l.index l.initial.lists l.lists;
}
