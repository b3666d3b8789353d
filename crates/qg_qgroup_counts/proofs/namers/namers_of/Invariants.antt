use Rattle.std.proofs.Common.{◌≡◌, length, map}
use Rattle.std.specs.List.Sorted.{IsStrictlyIncreasing}
use Rattle.qg_qgroup_counts.specs.Groups.{AreWithin}
use Rattle.qg_qgroup_counts.proofs.Noting.{NamersFirst}
use Rattle.qg_qgroup_counts.proofs.namers.namers_of.Given as goal

abbrev pub invariant-loop-i : goal.invariant-loop-i
invariant-loop-i l = record {
  same : length l.lists.items ≡ length l.extents;
  within : AreWithin l.i l.lists.items;
  namers : IsStrictlyIncreasing (map (λ extent. extent.address) l.extents)
      → NamersFirst l.nodes l.extents l.i l.lists.items;
}
