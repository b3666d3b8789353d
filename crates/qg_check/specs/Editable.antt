-- Subvolumes and groups that the next commit can name (this project's own).
use Rattle.std.specs.Prelude.{◌≡◌, ℕ, ◌≤◌, List, length, Option, None, Some, All, IsTrue}
use Rattle.std.specs.List.Sorted.{IsStrictlyIncreasing}
use Rattle.qg_items.specs.declared.root.RootItem.{RootItem}
use Rattle.qg_items.specs.declared.tree.TheConstants.{TOP_LEVEL}
use Rattle.qg_image.specs.ItemMeaning.{is_subvolume_number}
use Rattle.qg_image.specs.Table.{has_key, keys_of}
use Rattle.qg_image.specs.declared.quota.Quota.{Quota}
use Rattle.qg_image.specs.Members.{hierarchy_of}
use Rattle.qg_image.specs.Verdict.{is_group_number, most_groups, most_relations, most_subvolumes}
use Rattle.qg_qgroups.specs.Groups.{IsSound}
use Rattle.qg_root_items.specs.Writable.{IsRootBy}

-- Subvolumes that the root tree of this generation can name: no more than an image can have, ascending by number, the
-- top-level one among them; each tree has one reference, and its ROOT_ITEM tells no later generation
pub record AreSubvolumes (generation : ℕ) (roots : List (ℕ × RootItem)) : Type 0 where
  pub few : length roots ≤ most_subvolumes
  pub ascending : IsStrictlyIncreasing (keys_of roots)
  pub numbers : All (λ entry. IsTrue (is_subvolume_number entry.0)) roots
  pub top_level : IsTrue (has_key TOP_LEVEL roots)
  pub counted : All (λ entry. entry.1.refs ≡ 1) roots
  pub by : All (λ entry. IsRootBy generation entry.1) roots

-- Groups that the quota tree of this generation can tell beside these subvolumes: no more than an image can have,
-- ascending by number; each one of level 0 is that of a number that a subvolume may have, each subvolume has its own,
-- and no later commit changed their counters. Relations are no more than an image can have, each between groups that
-- are there, and going up a level
pub record AreGroups (generation : ℕ) (subvolumes : List ℕ) (quota : Quota) : Type 0 where
  pub few : length quota.groups ≤ most_groups
  pub ascending : IsStrictlyIncreasing (keys_of quota.groups)
  pub numbers : All (λ entry. IsTrue (is_group_number entry.0)) quota.groups
  pub own : All (λ sub. IsTrue (has_key sub quota.groups)) subvolumes
  pub stamped : All (λ entry. entry.1.stamp ≤ generation) quota.groups
  pub few_pairs : length quota.pairs ≤ most_relations
  pub sound : IsSound (hierarchy_of quota)

-- the same of quota that may be off
abbrev pub AreGroupsOf : ℕ → List ℕ → Option Quota → Type 0
AreGroupsOf generation subvolumes None = Unit {0}
AreGroupsOf generation subvolumes (Some quota) = AreGroups generation subvolumes quota
