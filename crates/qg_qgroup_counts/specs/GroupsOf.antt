-- Which groups each subvolume is a member of: for each subvolume the indices of groups (btrfs-qgroup(8), "hierarchical
-- quota groups"; the form is this project's own).
use Rattle.std.specs.Prelude.{◌≡◌, ◌<◌, ℕ, Bool, true, List, Some, length, slice_get}
use Rattle.std.specs.List.Sorted.{IsStrictlyIncreasing}
use Rattle.qg_image.specs.Members.{Hierarchy, is_member}
use Rattle.qg_qgroup_counts.specs.Above.{list_at}
use Rattle.qg_qgroups.specs.Groups.{has_number}

-- the indices of those groups that pass a test, ascending
pub record ArePlaces (groups : List ℕ) (test : ℕ → Bool) (places : List ℕ) : Type 0 where
  pub ascending : IsStrictlyIncreasing places
  pub inside : (place : ℕ) → has_number place places ≡ true → place < length groups
  pub has : (place group : ℕ) → slice_get groups place ≡ Some group → has_number place places ≡ test group

-- for each subvolume the indices of the groups that it is a member of
pub record AreMemberships (roots : List (ℕ × ℕ)) (hierarchy : Hierarchy) (above : List (List ℕ)) : Type 0 where
  pub same : length above ≡ length roots
  pub each : (index : ℕ) (root : ℕ × ℕ) → slice_get roots index ≡ Some root
      → ArePlaces hierarchy.groups (λ group. is_member hierarchy group root.0) (list_at above index)
