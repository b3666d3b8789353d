-- What a structural command changes of what is kept (this project's own).
use Rattle.std.specs.Prelude.{◌+◌, ◌*◌, None, ◌≡◌, ◌&&◌, ◌||◌, ℕ, ◌^◌, ◌≤◌, ◌==◌, not, List, length, Option, is_some}
use Rattle.std.specs.Prelude.{IfSome, MatchOption, nat_le, nat_lt}
use Rattle.std.specs.List.{filter}
use Rattle.qg_device.specs.History.{History}
use Rattle.qg_num.specs.declared.answer.Answer.{Answer}
use Rattle.qg_num.specs.declared.command.Command.{Command}
use Rattle.qg_num.specs.declared.command.Command.TheVariants.{QuotaOn}
use Rattle.qg_num.specs.declared.refusal.Refusal.{Refusal}
use Rattle.qg_num.specs.declared.refusal.Refusal.TheVariants as why
use Rattle.qg_image.specs.Table.{keys_of}
use Rattle.qg_image.specs.Members.{next_subvolume}
use Rattle.qg_image.specs.State.{State}
use Rattle.qg_image.specs.Verdict.{most_groups, most_relations, most_subvolumes}
use Rattle.qg_machine.specs.Refusals.{refuse}
use Rattle.qg_machine.specs.Step.{Changes}
use Rattle.qg_qgroups.specs.Limit.{SameHeld}
use Rattle.qg_qgroups.specs.Changing.{groups_in, pairs_in}
use Rattle.qg_qgroups.specs.OnOrOff.{snap_refusal}
use Rattle.qg_qgroups.specs.Tracked.{quota_of}
use Rattle.qg_space.specs.Holding.{free_slots}
use Rattle.qg_tree_read.specs.Tree.{Root}
use Rattle.qg_open_image.specs.FsLawsKeeping.{other_names}
use Rattle.qg_open_image.specs.declared.open_image.OpenImage.{OpenImage}
use Rattle.qg_open_image.specs.Keeping.{IsKeptWith, commit_room_of, filled_by}

-- ---- what may come

-- the number that the next subvolume gets
abbrev pub number_next : OpenImage → ℕ
number_next kept = next_subvolume (keys_of kept.snapshots) (groups_in (quota_of kept.quota))

-- one subvolume more, with its group and so many relations, would pass a limit
abbrev pub too_many_refusal : OpenImage → ℕ → Option Refusal
too_many_refusal kept relations = refuse
    (nat_le most_subvolumes (length kept.snapshots)
    || (is_some (quota_of kept.quota) && nat_le most_groups (length (groups_in (quota_of kept.quota))))
    || nat_lt most_relations (length (pairs_in (quota_of kept.quota)) + relations)
    || nat_le (2 ^ 48) (number_next kept))
    why.TooMany

-- a snapshot may be made a member of these groups, and one subvolume more passes no limit
pub record CanSnap (kept : OpenImage) (groups : List ℕ) : Type 0 where
  pub few : too_many_refusal kept (length groups) ≡ None
  pub parents : snap_refusal (quota_of kept.quota) groups ≡ None

-- as many bytes are held for each group as were
abbrev pub SameHeldIn : OpenImage → OpenImage → Type 0
SameHeldIn old new =
    MatchOption old.quota (new.quota ≡ None) (λ before. IfSome new.quota (λ after. SameHeld before.limits after.limits))

-- the nodes that a command of quota may copy: 18, and one for each subvolume's group that is made as quota is turned on
abbrev pub group_copies : OpenImage → Command → ℕ
group_copies kept QuotaOn = 18 + length kept.snapshots
group_copies kept _ = 18

-- ---- room

-- So many slots are free that, once a change copied so many nodes, those are that a commit may want
pub record HasRoom (kept : OpenImage) (copies : ℕ) : Type 0 where
  pub free : 10 * copies + 11 * filled_by kept + 67 ≤ free_slots kept.fs.land.space

-- ---- the change

-- the trees but the one of a number
abbrev pub without_tree : ℕ → List Root → List Root
without_tree number trees = filter (λ tree. not (tree.owner == number)) trees

-- A structural command changed what is kept of a state in which nothing is pending. What is kept then is that of a
-- state that the machine's change may leave, the last commit names what it named before, and the slots that a commit
-- may want are free
pub record IsChanged (before : State) (given : Command) (reply : Answer) (new : OpenImage) (history : History)
    : Type 0 where
  pub changed : State
  pub changes : Changes before given reply changed
  pub keeps : IsKeptWith new changed history (other_names before)
  pub room : commit_room_of new ≤ free_slots new.fs.land.space
