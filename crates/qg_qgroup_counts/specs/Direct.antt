-- The direct counts of groups (btrfs-qgroup(8), "referenced" and "exclusive"; the form is this project's own).
use Rattle.std.specs.Prelude.{◌≡◌, ℕ, List, Some, slice_get}
use Rattle.qg_num.specs.declared.counters.Counters.{Counters}
use Rattle.qg_image.specs.State.{Layout}
use Rattle.qg_image.specs.Counts.{direct_count}
use Rattle.qg_image.specs.Members.{Hierarchy}

-- the counters at each index are the direct count of the group there
abbrev pub AreGroupCounts : Layout → Hierarchy → List Counters → Type 0
AreGroupCounts layout hierarchy counters =
    (index group : ℕ) → slice_get hierarchy.groups index ≡ Some group
    → slice_get counters index ≡ Some (direct_count layout hierarchy group)
