-- Quota groups and the relations between them, as they come and go (btrfs-qgroup(8), "hierarchical quota groups").
use Rattle.std.specs.Prelude.{ℕ, ◌<◌, Bool, IsTrue, not, List, [], ◌==◌}
use Rattle.std.specs.List.{filter, list_any}
use Rattle.std.specs.List.Sorted.{IsStrictlySortedBy}
use Rattle.std.specs.Ordering.{nat_cmp, ordering_then}
use Rattle.std.specs.declared.cmp.Ordering.{Ordering}
use Rattle.qg_machine.specs.Table.{with_number}
use Rattle.qg_machine.specs.Members.{Hierarchy, is_below, level_of_group}
use Rattle.qg_machine.specs.GroupChange.{has_pair, same_pair, with_pair}

-- there is no group, and no relation
abbrev pub no_groups : Hierarchy
no_groups = record { groups = []; pairs = [] }

-- a number is one of some
abbrev pub has_number : ℕ → List ℕ → Bool
has_number n numbers = list_any (λ number. number == n) numbers

-- a group is kept
abbrev pub is_kept : Hierarchy → ℕ → Bool
is_kept hierarchy group = has_number group hierarchy.groups

-- some relation has it as parent
abbrev pub has_members : Hierarchy → ℕ → Bool
has_members hierarchy group = list_any (λ pair. pair.1 == group) hierarchy.pairs

-- ---- changes

-- with this group too
abbrev pub created : ℕ → Hierarchy → Hierarchy
created group hierarchy = record hierarchy { groups = with_number group hierarchy.groups }

-- the group goes, and with it its relations to its parents
abbrev pub destroyed : ℕ → Hierarchy → Hierarchy
destroyed group hierarchy = record {
  groups = filter (λ kept. not (kept == group)) hierarchy.groups;
  pairs = filter (λ pair. not (pair.0 == group)) hierarchy.pairs;
}

-- with the relation of a member and its parent too
abbrev pub assigned : ℕ → ℕ → Hierarchy → Hierarchy
assigned member parent hierarchy = record hierarchy { pairs = with_pair (member, parent) hierarchy.pairs }

-- without that relation
abbrev pub unassigned : ℕ → ℕ → Hierarchy → Hierarchy
unassigned member parent hierarchy =
    record hierarchy { pairs = filter (λ pair. not (same_pair pair (member, parent))) hierarchy.pairs }

-- ---- chains

-- a group and every group that a chain of relations leads to from it, each once however many ways lead up, ascending
unfoldable pub groups_above : Hierarchy → ℕ → List ℕ
groups_above hierarchy group = filter (λ above. is_below hierarchy.pairs group above) hierarchy.groups

-- ---- what holds of all groups and relations

-- relations go by their members, and those of one member by their parents
abbrev pub pair_cmp : ℕ × ℕ → ℕ × ℕ → Ordering
pair_cmp pair other = ordering_then (nat_cmp pair.0 other.0) (nat_cmp pair.1 other.1)

-- groups ascend by number, and relations, each once; each relation is between kept groups, and its member's level is
-- less than its parent's (btrfs-qgroup(8))
pub record IsSound (hierarchy : Hierarchy) : Type 0 where
  pub groups : IsStrictlySortedBy nat_cmp hierarchy.groups
  pub pairs : IsStrictlySortedBy pair_cmp hierarchy.pairs
  pub members : (member parent : ℕ) → IsTrue (has_pair member parent hierarchy.pairs)
      → IsTrue (is_kept hierarchy member)
  pub parents : (member parent : ℕ) → IsTrue (has_pair member parent hierarchy.pairs)
      → IsTrue (is_kept hierarchy parent)
  pub rising : (member parent : ℕ) → IsTrue (has_pair member parent hierarchy.pairs)
      → level_of_group member < level_of_group parent
