use Rattle.std.proofs.Common.{◌≡◌, map, take}
use Rattle.qg_image.specs.Table.{keys_of}
use Rattle.qg_machine.specs.GroupChange.{new_group}
use Rattle.qg_qgroups.proofs.building.groups_of.Given as goal

-- those so far are made
abbrev pub invariant-loop-sub : goal.invariant-loop-sub
invariant-loop-sub g l = l.groups ≡ map (λ sub. (sub, new_group l.stamp)) (keys_of (take l.sub-index l.subs))
