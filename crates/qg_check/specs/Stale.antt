-- Which superblock place is written again where an image is opened (this project's own). Places are in bytes.
use Rattle.std.specs.Prelude.{ℕ, Option, Some, None, nat_lt, if◌then◌else◌}
use Rattle.qg_super.specs.declared.superblock.Super.{Super}
use Rattle.qg_super.specs.Places.{first_place, second_place}
use Rattle.qg_super.specs.SuperText.{same_super}

-- the place that does not hold the superblock that counts; none where both hold it, and where neither holds one
abbrev pub stale_place : Option Super → Option Super → Option ℕ
stale_place None None = None
stale_place None (Some second) = Some first_place
stale_place (Some first) None = Some second_place
stale_place (Some first) (Some second) =
    if same_super first second then None else
    (if nat_lt first.generation second.generation then Some first_place else Some second_place)
