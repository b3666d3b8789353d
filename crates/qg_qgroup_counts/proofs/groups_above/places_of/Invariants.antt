use Rattle.std.proofs.Common.{take}
use Rattle.qg_qgroups.specs.Groups.{has_number}
use Rattle.qg_qgroup_counts.specs.GroupsOf.{ArePlaces}
use Rattle.qg_qgroup_counts.proofs.groups_above.places_of.Given as goal

abbrev pub invariant-loop-group : goal.invariant-loop-group
invariant-loop-group l = ArePlaces l.groups (λ group. has_number group (take l.group-index l.above)) l.places
