-- What commands ask of quota that may be off, and what they leave of it (btrfs-qgroup(8); the order of refusals is this
-- project's own).
use Rattle.std.specs.Prelude.{ℕ, ◌&&◌, ◌==◌, not, List, [], ◌∷◌, length, Option, Some, None, is_some, nat_lt}
use Rattle.std.specs.List.{list_any}
use Rattle.std.specs.Option.{option_map}
use Rattle.qg_num.specs.declared.command.Command.{Command}
use Rattle.qg_num.specs.declared.command.Command.TheVariants as command
use Rattle.qg_num.specs.declared.refusal.Refusal.{Refusal}
use Rattle.qg_num.specs.declared.refusal.Refusal.TheVariants as why
use Rattle.qg_image.specs.ItemMeaning.{first_some}
use Rattle.qg_image.specs.declared.quota.Quota.{Quota}
use Rattle.qg_image.specs.Members.{level_of_group}
use Rattle.qg_machine.specs.GroupChange.{quota_for}
use Rattle.qg_machine.specs.Refusals.{refuse}
use Rattle.qg_qgroups.specs.declared.judging.ReservationAnswer.{ReservationAnswer}
use Rattle.qg_qgroups.specs.Changing.{group_changed, is_missing}
use Rattle.qg_qgroups.specs.Judging.{over_in}
use Rattle.qg_qgroups.specs.Tracked.{path_of}

-- ---- commands of quota

-- quota after a command of quota that is done in this generation, where these are the subvolumes, whether they live or
-- not: turned on, it has a group for each of them
abbrev pub quota_changed : ℕ → List ℕ → Command → Option Quota → Option Quota
quota_changed stamp subvolumes command.QuotaOn quota = Some (quota_for stamp subvolumes)
quota_changed stamp subvolumes command.QuotaOff quota = None
quota_changed stamp subvolumes given quota = option_map (group_changed stamp given) quota

-- ---- snapshots

-- why a snapshot's group can't be put into some groups, one after the other, behind earlier ones: each is above level
-- 0, is there, and was not named before
abbrev pub parents_refusal : Option Quota → List ℕ → List ℕ → Option Refusal
parents_refusal quota earlier [] = None
parents_refusal quota earlier (group ∷ groups) = first_some
    (refuse (not (not (level_of_group group == 0))) why.Level ∷ is_missing quota group
    ∷ refuse (list_any (λ before. before == group) earlier) why.Related
    ∷ parents_refusal quota (group ∷ earlier) groups ∷ [])

-- and why a snapshot with such a list is refused, before limits are looked at: while quota is off there are no groups
abbrev pub snap_refusal : Option Quota → List ℕ → Option Refusal
snap_refusal quota parents =
    first_some (refuse (not (is_some quota) && nat_lt 0 (length parents)) why.NoQuota ∷ parents_refusal quota [] parents
    ∷ [])

-- ---- reservations

-- why a reservation is refused that was judged so
abbrev pub refusal_in : ReservationAnswer → Option Refusal
refusal_in judged = option_map (λ found. why.Quota found.0 found.1) (over_in judged)

-- the groups that a reservation into a subvolume counts in, none while quota is off
abbrev pub path_in : Option Quota → ℕ → List ℕ
path_in None sub = []
path_in (Some quota) sub = path_of quota sub
