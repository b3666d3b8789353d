-- What commands do to quota groups, and how a commit counts them (btrfs-qgroup(8), fs/btrfs/qgroup.c).
use Rattle.std.specs.Prelude.{ℕ, Bool, ◌&&◌, ◌||◌, not, List, [], ◌∷◌, map, Option, Some, None, ◌==◌, nat_lt}
use Rattle.std.specs.Prelude.{if◌then◌else◌}
use Rattle.std.specs.List.{filter, fold, list_any, count_by}
use Rattle.qg_num.specs.declared.counters.Counters.{Counters}
use Rattle.qg_num.specs.declared.counters.Which.{Which}
use Rattle.qg_num.specs.declared.counters.Which.TheVariants.{Rfer, Excl}
use Rattle.qg_image.specs.Table.{value_at, with_value, without_key}
use Rattle.qg_image.specs.declared.quota.Quota.{Quota}
use Rattle.qg_image.specs.declared.quota.Group.{Group}
use Rattle.qg_image.specs.State.{Layout, blank_quota}
use Rattle.qg_image.specs.Counts.{due_counters}

-- a group that is made in this generation: nothing counted, no limit
abbrev pub new_group : ℕ → Group
new_group generation = record {
  counters = record { rfer = 0; excl = 0 };
  max_rfer = None;
  max_excl = None;
  stamp = generation;
}

-- ---- relations

-- two relations are the same
abbrev pub same_pair : ℕ × ℕ → ℕ × ℕ → Bool
same_pair a b = (a.0 == b.0) && (a.1 == b.1)

-- relations, ascending by member and then by parent, with this one
abbrev pub with_pair : ℕ × ℕ → List (ℕ × ℕ) → List (ℕ × ℕ)
with_pair pair [] = pair ∷ []
with_pair pair (other ∷ others) =
    if nat_lt pair.0 other.0 || ((pair.0 == other.0) && nat_lt pair.1 other.1) then pair ∷ other ∷ others
    else (if same_pair pair other then other ∷ others else other ∷ with_pair pair others)

-- there is this relation of a member to a parent
abbrev pub has_pair : ℕ → ℕ → List (ℕ × ℕ) → Bool
has_pair member parent pairs = list_any (same_pair (member, parent)) pairs

-- ---- changes

-- a group comes in, or gets other counters and limits
abbrev pub with_group : ℕ → Group → Quota → Quota
with_group number group quota = record quota { groups = with_value number group quota.groups }

-- a member gets a parent
abbrev pub assigned : ℕ → ℕ → Quota → Quota
assigned member parent quota = record quota { pairs = with_pair (member, parent) quota.pairs }

-- a member loses a parent
abbrev pub unassigned : ℕ → ℕ → Quota → Quota
unassigned member parent quota =
    record quota { pairs = filter (λ pair. not (same_pair pair (member, parent))) quota.pairs }

-- the group goes, and with it its relations to its parents
abbrev pub destroyed : ℕ → Quota → Quota
destroyed group quota = record quota {
  groups = without_key group quota.groups;
  pairs = filter (λ pair. not (pair.0 == group)) quota.pairs;
}

-- one of a group's two limits is set, or taken away
abbrev pub with_limit : Which → Option ℕ → Group → Group
with_limit Rfer max group = record group { max_rfer = max }
with_limit Excl max group = record group { max_excl = max }

-- the limit of a group that is there is set, or taken away
abbrev pub limited : ℕ → Which → Option ℕ → Quota → Quota
limited number which max quota = changed (value_at number quota.groups) where
  changed : Option Group → Quota
  changed None = quota
  changed (Some group) = with_group number (with_limit which max group) quota

-- a snapshot's group gets the limits of the source's group
abbrev pub limits_of : ℕ → Option Group → Group
limits_of generation None = new_group generation
limits_of generation (Some source) = record (new_group generation) {
  max_rfer = source.max_rfer;
  max_excl = source.max_excl;
}

-- and a relation to each group of a list; it gets no other relation, and none without a list (this project's own)
abbrev pub inherited : ℕ → ℕ → ℕ → List ℕ → Quota → Quota
inherited generation source copy parents quota =
    fold (λ made parent. assigned copy parent made)
    (with_group copy (limits_of generation (value_at source quota.groups)) quota) parents

-- quota as it is turned on: a group for each subvolume, whether it lives or not
abbrev pub quota_for : ℕ → List ℕ → Quota
quota_for generation subvolumes = record blank_quota { groups = map (λ sub. (sub, new_group generation)) subvolumes }

-- ---- counting

-- both counters are the same
abbrev pub same_counters : Counters → Counters → Bool
same_counters a b = (a.rfer == b.rfer) && (a.excl == b.excl)

-- the group with the counters that are due; the stamp is that of the commit where they differ from the stored ones
abbrev pub recounted_group : Layout → Quota → ℕ → ℕ × Group → ℕ × Group
recounted_group layout quota generation entry =
    if same_counters entry.1.counters (due_counters layout quota entry.0) then entry
    else (entry.0, record entry.1 { counters = due_counters layout quota entry.0; stamp = generation })

-- each group with the counters that are due
unfoldable pub recounted : Layout → ℕ → Quota → Quota
recounted layout generation quota =
    record quota { groups = map (recounted_group layout quota generation) quota.groups }

-- how many groups' counters a commit of this quota changes; none while quota is off
unfoldable pub groups_changed : Layout → Option Quota → ℕ
groups_changed layout None = 0
groups_changed layout (Some quota) = count_by
    (λ entry. not (same_counters entry.1.counters (due_counters layout quota entry.0))) quota.groups
