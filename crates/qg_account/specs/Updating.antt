-- What a change of owners makes of the counters of all groups (btrfs-qgroup(8), "referenced" and "exclusive"; the form
-- is this project's own). Each group has its counters under its number. Counters are in bytes.
use Rattle.std.specs.Prelude.{◌≡◌, ◌==◌, ℕ, [], ◌∷◌, List, map, ⊤, if◌then◌else◌}
use Rattle.std.specs.List.{Contains, fold}
use Rattle.qg_num.specs.declared.counters.Counters.{Counters}
use Rattle.qg_image.specs.Counts.{direct_count}
use Rattle.qg_image.specs.Members.{Hierarchy, is_member}
use Rattle.qg_image.specs.State.{Layout}
use Rattle.qg_qgroups.specs.Groups.{has_number}
use Rattle.qg_account.specs.Moves.{CanMove, OwnerChange, moved}

-- a group with its counters after a change of owners
abbrev pub group_moved : Hierarchy → OwnerChange → ℕ × Counters → ℕ × Counters
group_moved hierarchy change entry = (entry.0, moved (is_member hierarchy entry.0) change entry.1)

-- all groups with theirs
abbrev pub with_change : Hierarchy → OwnerChange → List (ℕ × Counters) → List (ℕ × Counters)
with_change hierarchy change counters = map (group_moved hierarchy change) counters

-- after some changes, one after the other, each of what begins at an address
abbrev pub with_changes : Hierarchy → List (ℕ × OwnerChange) → List (ℕ × Counters) → List (ℕ × Counters)
with_changes hierarchy changes counters = fold (λ kept entry. with_change hierarchy entry.1 kept) counters changes

-- each group with its direct count
abbrev pub counted : Layout → Hierarchy → List (ℕ × Counters)
counted layout hierarchy = map (λ group. (group, direct_count layout hierarchy group)) hierarchy.groups

-- the counters of each group can give and take what a change of owners asks of them
abbrev pub CanTake : Hierarchy → OwnerChange → List (ℕ × Counters) → Type 0
CanTake hierarchy change counters =
    (group : ℕ) (kept : Counters) → Contains counters (group, kept) → CanMove (is_member hierarchy group) change kept

-- and so at each of some changes, one after the other
abbrev pub CanTakeAll : Hierarchy → List (ℕ × OwnerChange) → List (ℕ × Counters) → Type 0
CanTakeAll hierarchy [] counters = ⊤
CanTakeAll hierarchy (entry ∷ changes) counters =
    CanTake hierarchy entry.1 counters × CanTakeAll hierarchy changes (with_change hierarchy entry.1 counters)

-- ---- on the way there

-- those groups have moved that aren't among some that are left
abbrev pub moved_but : List ℕ → Hierarchy → OwnerChange → List (ℕ × Counters) → List (ℕ × Counters)
moved_but left hierarchy change counters =
    map (λ entry. if has_number entry.0 left then entry else group_moved hierarchy change entry) counters

-- some groups may have moved, and the others are as they were
abbrev pub HaveMovedInPart : Hierarchy → OwnerChange → List (ℕ × Counters) → List (ℕ × Counters) → Type 0
HaveMovedInPart hierarchy change old new = (left : List ℕ) × (new ≡ moved_but left hierarchy change old)

-- one group has these counters from now on
abbrev pub with_counters : ℕ → (Counters → Counters) → List (ℕ × Counters) → List (ℕ × Counters)
with_counters group change counters =
    map (λ entry. if entry.0 == group then (entry.0, change entry.1) else entry) counters
