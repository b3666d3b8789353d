-- Quota groups and their members (btrfs-qgroup(8), "hierarchical quota groups").
use Rattle.std.specs.Prelude.{ℕ, zero, suc, ◌+◌, ◌/◌, ◌%◌, ◌^◌, max, Bool, ◌&&◌, ◌||◌, List, length, ◌==◌}
use Rattle.std.specs.List.{list_any, filter, fold}
use Rattle.qg_image.specs.Table.{keys_of}
use Rattle.qg_image.specs.declared.quota.Quota.{Quota}

-- a group's number is level * 2^48 + id
abbrev pub level_of_group : ℕ → ℕ
level_of_group group = group / 2 ^ 48

-- a group's id
abbrev pub id_of_group : ℕ → ℕ
id_of_group group = group % 2 ^ 48

-- the groups there are, by number, and the relations between them, each a member and its parent
pub record Hierarchy : Type 0 where
  pub groups : List ℕ
  pub pairs : List (ℕ × ℕ)

-- those of quota that is on
abbrev pub hierarchy_of : Quota → Hierarchy
hierarchy_of quota = record { groups = keys_of quota.groups; pairs = quota.pairs }

-- a chain of so many relations at most leads from one group to another
unfoldable pub leads : List (ℕ × ℕ) → ℕ → ℕ → ℕ → Bool
leads pairs zero from to = from == to
leads pairs (suc count) from to = (from == to) || list_any (λ pair. (pair.0 == from) && leads pairs count pair.1 to)
    pairs

-- one group is another, or a chain of relations leads from it there
unfoldable pub is_below : List (ℕ × ℕ) → ℕ → ℕ → Bool
is_below pairs from to = leads pairs (length pairs) from to

-- the members of a group: the numbers S of the kept groups 0/S that are the group or lead to it, each once; the number
-- of a subvolume that is gone is a member by the same rule (this project's own)
unfoldable pub members : Hierarchy → ℕ → List ℕ
members hierarchy group =
    filter (λ sub. (level_of_group sub == 0) && is_below hierarchy.pairs sub group) hierarchy.groups

-- a subvolume's number is among the members of a group
abbrev pub is_member : Hierarchy → ℕ → ℕ → Bool
is_member hierarchy group sub = list_any (λ member. member == sub) (members hierarchy group)

-- the next subvolume's number (this project's own): one more than the greatest of 255, the subvolumes' numbers and the
-- ids of level-0 groups
unfoldable pub next_subvolume : List ℕ → List ℕ → ℕ
next_subvolume subvolumes groups =
    fold max (fold max 255 subvolumes) (filter (λ group. level_of_group group == 0) groups) + 1
