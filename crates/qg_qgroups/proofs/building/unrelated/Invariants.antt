use Rattle.std.proofs.Common.{◌≡◌, [], take}
use Rattle.qg_image.specs.Table.{keys_of}
use Rattle.qg_qgroups.proofs.building.unrelated.Given as goal

-- those so far are there, and none are related
abbrev pub invariant-loop-group : goal.invariant-loop-group
invariant-loop-group l = record {
  groups : l.hierarchy.groups ≡ keys_of (take l.group-index l.groups);
  pairs : l.hierarchy.pairs ≡ [];
}
