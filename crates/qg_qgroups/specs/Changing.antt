-- What commands change of quota groups, and when they are refused, by quota alone (btrfs-qgroup(8); the order of
-- refusals is this project's own).
use Rattle.std.specs.Prelude.{◌≡◌, ℕ, ◌<◌, not, ◌||◌, ◌==◌, List, [], ◌∷◌, length, Option, Some, None, is_some, IsTrue}
use Rattle.std.specs.Prelude.{Bool, false, true, nat_le, nat_lt}
use Rattle.std.specs.List.{All, IsDistinct, list_any}
use Rattle.qg_num.specs.declared.command.Command.{Command}
use Rattle.qg_num.specs.declared.command.Command.TheVariants as command
use Rattle.qg_num.specs.declared.refusal.Refusal.{Refusal}
use Rattle.qg_num.specs.declared.refusal.Refusal.TheVariants as why
use Rattle.qg_image.specs.Table.{keys_of}
use Rattle.qg_image.specs.ItemMeaning.{first_some}
use Rattle.qg_image.specs.declared.quota.Quota.{Quota}
use Rattle.qg_image.specs.Members.{Hierarchy, hierarchy_of, level_of_group}
use Rattle.qg_image.specs.Verdict.{most_groups, most_relations}
use Rattle.qg_machine.specs.GroupChange.{assigned, destroyed, has_pair, limited, new_group, unassigned, with_group}
use Rattle.qg_machine.specs.Refusals.{refuse}
use Rattle.qg_qgroups.specs.declared.fault.HierFault.{HierFault}
use Rattle.qg_qgroups.specs.Faults.{assign_fault, create_fault, destroy_fault, no_group, remove_fault}
use Rattle.qg_qgroups.specs.Groups.{has_number, is_kept}

-- ---- changes

-- quota after a command of groups that is done in this generation; no other command changes it (btrfs-qgroup(8),
-- "qgroup create" to "qgroup limit")
abbrev pub group_changed : ℕ → Command → Quota → Quota
group_changed stamp (command.GroupCreate group) quota = with_group group (new_group stamp) quota
group_changed stamp (command.GroupDestroy group) quota = destroyed group quota
group_changed stamp (command.Assign member parent) quota = assigned member parent quota
group_changed stamp (command.Remove member parent) quota = unassigned member parent quota
group_changed stamp (command.Limit group which max) quota = limited group which max quota
group_changed stamp _ quota = quota

-- a command of quota: it turns quota on or off, or changes groups, relations or limits (this project's own)
abbrev pub is_group_command : Command → Bool
is_group_command command.QuotaOn = true
is_group_command command.QuotaOff = true
is_group_command (command.GroupCreate group) = true
is_group_command (command.GroupDestroy group) = true
is_group_command (command.Assign member parent) = true
is_group_command (command.Remove member parent) = true
is_group_command (command.Limit group which max) = true
is_group_command _ = false

-- and one that keeps quota on
abbrev pub is_group_change : Command → Bool
is_group_change command.QuotaOn = false
is_group_change command.QuotaOff = false
is_group_change given = is_group_command given

-- why a hierarchy can't take a command's change
abbrev pub change_fault : Hierarchy → Command → Option HierFault
change_fault hierarchy (command.GroupCreate group) = create_fault hierarchy group
change_fault hierarchy (command.GroupDestroy group) = destroy_fault hierarchy group
change_fault hierarchy (command.Assign member parent) = assign_fault hierarchy member parent
change_fault hierarchy (command.Remove member parent) = remove_fault hierarchy member parent
change_fault hierarchy (command.Limit group which max) = no_group hierarchy group
change_fault hierarchy _ = None

-- the groups that a snapshot's group is to be put into: each is there and above level 0, and none is named twice (this
-- project's own)
pub record AreParents (quota : Quota) (parents : List ℕ) : Type 0 where
  pub there : All (λ parent. IsTrue (is_kept (hierarchy_of quota) parent)) parents
  pub above : All (λ parent. 0 < level_of_group parent) parents
  pub distinct : IsDistinct (λ a b. a == b) parents

-- a group can be made a member of each of some, one after the other: it is there, of level 0, and a member of none
pub record CanJoin (quota : Quota) (member : ℕ) (into : List ℕ) : Type 0 where
  pub there : IsTrue (is_kept (hierarchy_of quota) member)
  pub level : level_of_group member ≡ 0
  pub free : (parent : ℕ) → has_pair member parent quota.pairs ≡ false
  pub parents : AreParents quota into

-- ---- refusals

-- the groups of quota; none while it is off
abbrev pub groups_in : Option Quota → List ℕ
groups_in None = []
groups_in (Some quota) = keys_of quota.groups

-- the relations of quota, each a member and its parent; none while it is off
abbrev pub pairs_in : Option Quota → List (ℕ × ℕ)
pairs_in None = []
pairs_in (Some quota) = quota.pairs

-- quota is off
abbrev pub is_off : Option Quota → Option Refusal
is_off quota = refuse (not (is_some quota)) why.NoQuota

-- the group isn't there
abbrev pub is_missing : Option Quota → ℕ → Option Refusal
is_missing quota group = refuse (not (has_number group (groups_in quota))) why.NoGroup

-- what a command of quota may be refused for before the room for its commit is looked at, in order, where these are the
-- subvolumes, whether they live or not
abbrev pub change_refusals : Option Quota → List ℕ → Command → List (Option Refusal)
change_refusals quota subvolumes command.QuotaOn =
    refuse (is_some quota) why.QuotaOn ∷ refuse (nat_lt most_groups (length subvolumes)) why.TooMany ∷ []
change_refusals quota subvolumes command.QuotaOff = is_off quota ∷ []
change_refusals quota subvolumes (command.GroupCreate group) =
    is_off quota ∷ refuse (not (not (level_of_group group == 0))) why.Level
    ∷ refuse (has_number group (groups_in quota)) why.GroupThere
    ∷ refuse (nat_le most_groups (length (groups_in quota))) why.TooMany ∷ []
change_refusals quota subvolumes (command.GroupDestroy group) =
    is_off quota ∷ is_missing quota group ∷ refuse (list_any (λ pair. pair.1 == group) (pairs_in quota)
    || has_number group subvolumes) why.Busy ∷ []
change_refusals quota subvolumes (command.Assign member parent) =
    is_off quota ∷ refuse (not (nat_lt (level_of_group member) (level_of_group parent))) why.Level
    ∷ is_missing quota member ∷ is_missing quota parent
    ∷ refuse (has_pair member parent (pairs_in quota)) why.Related
    ∷ refuse (nat_le most_relations (length (pairs_in quota))) why.TooMany ∷ []
change_refusals quota subvolumes (command.Remove member parent) =
    is_off quota ∷ refuse (not (has_pair member parent (pairs_in quota))) why.NotRelated ∷ []
change_refusals quota subvolumes (command.Limit group which max) = is_off quota ∷ is_missing quota group ∷ []
change_refusals quota subvolumes _ = []

-- the first of them that holds
abbrev pub change_refusal : Option Quota → List ℕ → Command → Option Refusal
change_refusal quota subvolumes given = first_some (change_refusals quota subvolumes given)
