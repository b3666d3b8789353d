-- When a group's change tells all counters by itself, so that nothing is walked (fs/btrfs/qgroup.c, the cases of
-- btrfs_qgroup_inherit and quick_update_accounting).
use Rattle.std.specs.Prelude.{ℕ, Bool, ◌&&◌, ◌||◌, not, ◌==◌, if◌then◌else◌}
use Rattle.std.specs.List.{list_all, list_any}
use Rattle.qg_num.specs.declared.counters.Counters.{Counters}
use Rattle.qg_image.specs.State.{Layout}
use Rattle.qg_image.specs.Table.{value_at}
use Rattle.qg_image.specs.ItemMeaning.{some_passes}
use Rattle.qg_image.specs.Members.{Hierarchy, level_of_group, is_below, is_member, members}
use Rattle.qg_machine.specs.Near.{references_owed}

-- two subvolumes' groups have the same groups above level 0 over them
unfoldable pub have_same_groups : Hierarchy → ℕ → ℕ → Bool
have_same_groups hierarchy one other =
    list_all (λ group. (level_of_group group == 0)
    || (if is_below hierarchy.pairs one group then is_below hierarchy.pairs other group
    else not (is_below hierarchy.pairs other group))) hierarchy.groups

-- a subvolume's root node has one reference: its own
unfoldable pub is_root_alone : Layout → ℕ → Bool
is_root_alone layout sub = some_passes (λ root. references_owed layout root == 1) (value_at sub layout.roots)

-- a snapshot is quick, in the hierarchy with the copy and its relations: source and copy have the same groups above
-- level 0, and the source's root has one reference
abbrev pub is_quick_snapshot : Layout → Hierarchy → ℕ → ℕ → Bool
is_quick_snapshot layout hierarchy source copy = have_same_groups hierarchy source copy && is_root_alone layout source

-- two groups have no member in common
unfoldable pub are_disjoint : Hierarchy → ℕ → ℕ → Bool
are_disjoint hierarchy one other = not (list_any (is_member hierarchy one) (members hierarchy other))

-- an assignment of a member with these counters to a parent is quick, in the hierarchy without it: what the member
-- refers to it has for itself, and neither the parent nor a group that the parent leads to has a member of it
abbrev pub is_quick_assignment : Hierarchy → Counters → ℕ → ℕ → Bool
is_quick_assignment hierarchy counters member parent =
    (counters.rfer == counters.excl)
    && list_all (λ group. not (is_below hierarchy.pairs parent group) || are_disjoint hierarchy member group)
    hierarchy.groups
