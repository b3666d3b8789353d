-- How owners stand to the members of a group (btrfs-qgroup(8), "referenced" and "exclusive"; the form is this project's
-- own). The owners of something are the subvolumes that reach it.
use Rattle.std.specs.Prelude.{ℕ, Bool, ◌&&◌, not, List}
use Rattle.std.specs.List.{filter, list_any}
use Rattle.qg_image.specs.Members.{Hierarchy, is_member}
use Rattle.qg_account.specs.declared.standing.Standing.{Standing}

-- some owner is a member
abbrev pub meets : (ℕ → Bool) → List ℕ → Bool
meets member owners = list_any member owners

-- some owner is none
abbrev pub has_others : (ℕ → Bool) → List ℕ → Bool
has_others member owners = list_any (λ sub. not (member sub)) owners

-- there are owners, and each is a member
abbrev pub lies_within : (ℕ → Bool) → List ℕ → Bool
lies_within member owners = meets member owners && not (has_others member owners)

-- both answers
abbrev pub standing_of : (ℕ → Bool) → List ℕ → Standing
standing_of member owners = record { meets = meets member owners; within = lies_within member owners }

-- the groups that have a subvolume as a member, ascending where all groups do
abbrev pub groups_with : Hierarchy → ℕ → List ℕ
groups_with hierarchy sub = filter (λ group. is_member hierarchy group sub) hierarchy.groups
