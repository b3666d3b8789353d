-- Quota while it is on: groups with their counters, and beside them the hierarchy and the limits, which agree with them
-- (this project's own). All in bytes.
use Rattle.std.specs.Prelude.{◌≡◌, ℕ, ◌≤◌, List, map, Option, Some, None, IsTrue}
use Rattle.std.specs.Option.{option_map}
use Rattle.qg_image.specs.declared.quota.Group.{Group}
use Rattle.qg_image.specs.declared.quota.Quota.{Quota}
use Rattle.qg_image.specs.State.{Accepted}
use Rattle.qg_image.specs.Limits.{bytes_reserved}
use Rattle.qg_image.specs.Members.{hierarchy_of, level_of_group}
use Rattle.qg_qgroups.specs.Groups.{IsSound, groups_above, is_kept}
use Rattle.qg_qgroups.specs.declared.limits.Maxima.{Maxima}
use Rattle.qg_qgroups.specs.Limit.{held_of, maxima_at, maxima_of}
use Rattle.qg_qgroups.specs.declared.state.QuotaState.{QuotaState}

-- the limits of a group (btrfs-qgroup(8), "limits")
abbrev pub limits_in : Group → Maxima
limits_in group = record { rfer = group.max_rfer; excl = group.max_excl }

-- the limits of some groups, by their numbers
abbrev pub limits_by : List (ℕ × Group) → List (ℕ × Maxima)
limits_by groups = map (λ entry. (entry.0, limits_in entry.1)) groups

-- groups and relations ascend, each relation being between groups that are there and going up a level (btrfs-qgroup(8),
-- "hierarchical quota groups"); the hierarchy is that of the quota; and the limits that are set are those of its
-- groups, none being set for others
pub record IsTracked (state : QuotaState) : Type 0 where
  pub sound : IsSound (hierarchy_of state.quota)
  pub same : state.hierarchy ≡ hierarchy_of state.quota
  pub limits : (group : ℕ) → maxima_of state.limits group ≡ maxima_at (limits_by state.quota.groups) group

-- as many bytes are held for each group as these commands reserved into its members, and none for a group that isn't
-- there
abbrev pub HoldsAll : QuotaState → List Accepted → Type 0
HoldsAll state pending = (group : ℕ)
    → held_of state.limits group ≡ bytes_reserved (hierarchy_of state.quota) pending group

-- no more than so many bytes are held for any group
abbrev pub HoldsAtMost : ℕ → QuotaState → Type 0
HoldsAtMost bound state = (group : ℕ) → held_of state.limits group ≤ bound

-- the quota of what is tracked, and none while quota is off
abbrev pub quota_of : Option QuotaState → Option Quota
quota_of tracked = option_map (λ state. state.quota) tracked

-- the group of a subvolume and all groups above it, each once, ascending: those that a reservation into the subvolume
-- counts in
abbrev pub path_of : Quota → ℕ → List ℕ
path_of quota sub = groups_above (hierarchy_of quota) sub

-- the group 0/S of a subvolume S is there (btrfs-qgroup(8))
pub record HasGroup (quota : Quota) (sub : ℕ) : Type 0 where
  pub there : IsTrue (is_kept (hierarchy_of quota) sub)
  pub level : level_of_group sub ≡ 0

-- two quotas have the same groups with the same limits, and the same relations; counters and what commit changed them
-- may differ
pub record IsRecounted (old new : Quota) : Type 0 where
  pub limits : limits_by new.groups ≡ limits_by old.groups
  pub pairs : new.pairs ≡ old.pairs

-- the same of quota that may be off: it is off before and after, or on both times
abbrev pub SameButCounts : Option Quota → Option Quota → Type 0
SameButCounts None None = Unit {0}
SameButCounts (Some old) (Some new) = IsRecounted old new
SameButCounts _ _ = ⊥
