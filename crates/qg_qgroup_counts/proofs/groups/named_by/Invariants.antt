use Rattle.std.proofs.Common.{◌≡◌, take}
use Rattle.std.specs.List.{flat_map}
use Rattle.qg_qgroup_counts.specs.Above.{list_at}
use Rattle.qg_qgroup_counts.proofs.groups.named_by.Given as goal

abbrev pub invariant-loop-member : goal.invariant-loop-member
invariant-loop-member l = l.named ≡ flat_map (list_at l.above) (take l.member-index l.members)
