use Rattle.std.proofs.Common.{◌≡◌, ◌<◌, ◌≤◌, ◌^◌, take}
use Rattle.std.specs.Prelude.{◌==◌, max}
use Rattle.std.specs.List.{filter, fold}
use Rattle.qg_image.specs.Table.{keys_of}
use Rattle.qg_image.specs.Members.{level_of_group}
use Rattle.qg_image_changes.proofs.numbering.last_group.Given as goal

abbrev pub invariant-loop-group : goal.invariant-loop-group
invariant-loop-group l =
    (l.last ≡ fold max l.from (filter (λ group. level_of_group group == 0) (keys_of (take l.group-index l.groups))))
    × (l.from ≤ l.last) × (l.last < 2 ^ 48)
