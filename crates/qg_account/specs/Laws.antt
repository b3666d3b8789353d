-- What changes of owners make of direct counts (btrfs-qgroup(8); the form is this project's own). Addresses and bytes
-- are in bytes.
use Rattle.std.specs.Prelude.{◌≡◌, ◌<◌, ◌+◌, ◌^◌, ℕ, Bool, true, false, List, ◌++◌, map, ◌==◌}
use Rattle.std.specs.List.{All, list_any, flat_map, Contains, IsDistinct}
use Rattle.qg_num.specs.declared.counters.Counters.{Counters}
use Rattle.qg_image.specs.Table.{keys_of}
use Rattle.qg_image.specs.declared.element.Element.{Element}
use Rattle.qg_image.specs.State.{Layout}
use Rattle.qg_image.specs.Reach.{reach, owners, distinct}
use Rattle.qg_image.specs.declared.quota.Quota.{Quota}
use Rattle.qg_image.specs.Counts.{bytes_of, direct_count, due_counters}
use Rattle.qg_image.specs.Members.{Hierarchy, hierarchy_of, is_member}
use Rattle.qg_qgroup_counts.specs.AllReached.{AreAllReached}
use Rattle.qg_qgroup_counts.specs.Direct.{AreGroupCounts}
use Rattle.qg_qgroups.specs.Agreement.{counted_groups}
use Rattle.qg_qgroups.specs.Groups.{groups_above, has_number, is_kept}
use Rattle.qg_account.specs.Moves.{OwnerChange, moved, moved_all}
use Rattle.qg_account.specs.Pivots.{ArePivots}
use Rattle.qg_account.specs.Updating.{CanTakeAll, counted, with_change, with_changes}

-- ---- what changes from one layout to another

-- all that subvolumes reach, as often as they do
abbrev pub all_reached : Layout → List Element
all_reached layout = flat_map (reach layout) (keys_of layout.roots)

-- and what those of two layouts do
abbrev pub reached_in_both : Layout → Layout → List Element
reached_in_both old new = all_reached old ++ all_reached new

-- the bytes of all that is reached in one layout or the other, each once
abbrev pub bytes_in_both : Layout → Layout → ℕ
bytes_in_both old new = bytes_of (distinct (reached_in_both old new))

-- what begins at one address has one size
abbrev pub HaveOneSize : List Element → Type 0
HaveOneSize elements =
    (a b : Element) → Contains elements a → Contains elements b → a.address ≡ b.address → a.bytes ≡ b.bytes

-- some change is of an address
abbrev pub is_listed : ℕ → List (ℕ × OwnerChange) → Bool
is_listed address changes = list_any (λ entry. address == entry.0) changes

-- two changes are of one address
abbrev pub list_alike : ℕ × OwnerChange → ℕ × OwnerChange → Bool
list_alike a b = a.0 == b.0

-- a change has the owners of an address in the old layout and in the new one, and the bytes that begin there, if any do
pub record IsRight (old new : Layout) (entry : ℕ × OwnerChange) : Type 0 where
  pub bytes : (element : Element) → Contains (reached_in_both old new) element → element.address ≡ entry.0
      → element.bytes ≡ entry.1.bytes
  pub before : entry.1.before ≡ owners old entry.0
  pub now : entry.1.now ≡ owners new entry.0

-- changes by address tell what differs between two layouts: no address twice, each of them right, and each address
-- whose owners differ; others may be told too, and no order is asked of them
pub record AreChanges (old new : Layout) (changes : List (ℕ × OwnerChange)) : Type 0 where
  pub once : IsDistinct list_alike changes
  pub right : (entry : ℕ × OwnerChange) → Contains changes entry → IsRight old new entry
  pub rest : (address : ℕ) → is_listed address changes ≡ false → owners old address ≡ owners new address
  pub sizes : HaveOneSize (reached_in_both old new)

-- ---- counts

-- the direct count of a group, moved along all changes, is its direct count in the new layout
abbrev pub ChangesAddUp : Type 0
ChangesAddUp = (old new : Layout) (hierarchy : Hierarchy) (changes : List (ℕ × OwnerChange)) (group : ℕ)
    → AreChanges old new changes
    → moved_all (is_member hierarchy group) changes (direct_count old hierarchy group)
    ≡ direct_count new hierarchy group

-- and so those of all groups
abbrev pub GroupsAddUp : Type 0
GroupsAddUp = (old new : Layout) (hierarchy : Hierarchy) (changes : List (ℕ × OwnerChange)) → AreChanges old new changes
    → with_changes hierarchy changes (counted old hierarchy) ≡ counted new hierarchy

-- two changes with the same owners are one of the bytes of both, wherever they begin
abbrev pub SameOwnersAddUp : Type 0
SameOwnersAddUp = (hierarchy : Hierarchy) (bytes more : ℕ) (before now : List ℕ) (counters : List (ℕ × Counters))
    → with_change hierarchy (record { bytes = more; before = before; now = now })
    (with_change hierarchy (record { bytes = bytes; before = before; now = now }) counters)
    ≡ with_change hierarchy (record { bytes = bytes + more; before = before; now = now }) counters

-- on the way counters can give and take all that is asked of them
abbrev pub ChangesCanBeTaken : Type 0
ChangesCanBeTaken = (old new : Layout) (hierarchy : Hierarchy) (changes : List (ℕ × OwnerChange))
    → AreChanges old new changes → bytes_in_both old new < 2 ^ 64
    → CanTakeAll hierarchy changes (counted old hierarchy)

-- where each group stores the counters that are due, those are its direct count
abbrev pub StoredAreCounted : Type 0
StoredAreCounted = (layout : Layout) (quota : Quota)
    → All (λ entry. entry.1.counters ≡ due_counters layout quota entry.0) quota.groups
    → counted_groups quota.groups ≡ counted layout (hierarchy_of quota)

-- and counted groups tell in their order what a commit is to store
abbrev pub CountedInOrder : Type 0
CountedInOrder = (layout : Layout) (hierarchy : Hierarchy)
    → AreGroupCounts layout hierarchy (map (λ entry. entry.1) (counted layout hierarchy))

-- elements that lie apart, among which is all that subvolumes reach in both layouts, have one size each
abbrev pub OneListHasOneSize : Type 0
OneListHasOneSize = (old new : Layout) (elements : List Element) → AreAllReached old elements
    → AreAllReached new elements → HaveOneSize (reached_in_both old new)

-- ---- which groups a change of owners can move

-- it moves no counter of a group that has none of the pivots as a member
abbrev pub OthersKeepTheirs : Type 0
OthersKeepTheirs = (hierarchy : Hierarchy) (group : ℕ) (change : OwnerChange) (counters : Counters) (subs : List ℕ)
    → ArePivots change.before change.now subs → list_any (is_member hierarchy group) subs ≡ false
    → moved (is_member hierarchy group) change counters ≡ counters

-- and none of a kept group that is above none of them
abbrev pub OnlyGroupsAbove : Type 0
OnlyGroupsAbove = (hierarchy : Hierarchy) (group : ℕ) (change : OwnerChange) (counters : Counters) (subs : List ℕ)
    → is_kept hierarchy group ≡ true → ArePivots change.before change.now subs
    → list_any (λ sub. has_number group (groups_above hierarchy sub)) subs ≡ false
    → moved (is_member hierarchy group) change counters ≡ counters
