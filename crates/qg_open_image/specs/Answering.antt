-- What a store answers (this project's own).
use Rattle.std.specs.Prelude.{◌≡◌, ◌⊎◌, List, Option, None, Some, Bool, true, false, IsTrue}
use Rattle.qg_device.specs.History.{Event, History, Recorded}
use Rattle.qg_num.specs.declared.answer.Answer.{Answer}
use Rattle.qg_num.specs.declared.answer.Answer.TheVariants as answer
use Rattle.qg_num.specs.declared.command.Command.{Command}
use Rattle.qg_num.specs.declared.command.Command.TheVariants.{Commit, Delete, Snap, SubCreate}
use Rattle.qg_num.specs.declared.refusal.Refusal.TheVariants as why
use Rattle.qg_image.specs.declared.quota.Quota.{Quota}
use Rattle.qg_image.specs.Need.{IsReserved}
use Rattle.qg_image.specs.State.{State}
use Rattle.qg_machine.specs.Refusals.{refusal}
use Rattle.qg_machine.specs.Step.{Step, rows_of}
use Rattle.qg_qgroups.specs.Changing.{is_group_command}
use Rattle.qg_open_image.specs.declared.open_image.OpenImage.{OpenImage}
use Rattle.qg_open_image.specs.Keeping.{IsKeptOf}
use Rattle.qg_open_image.specs.Making.{MadeCommits, StartsCommit, StartsSecond}

-- The machine answers a command so with these commits, what is kept is that of the state that it comes to, over a disk
-- with this history, and there the slots that the commit to come may want are free, whatever is pending
pub record Answered (old : State) (command : Command) (answer : Answer) (commits : List State) (kept : OpenImage)
    (history : History) : Type 0 where
  pub new : State
  pub step : Step old command answer commits new
  pub keeps : IsKeptOf kept new history
  pub reserved : IsReserved new

-- the machine answers a command so, and the disk was made to hold what it commits
abbrev pub AnswersOn : State → Command → Answer → OpenImage → List Event → History → Type 0
AnswersOn old command answer kept before history =
    (commits : List State) × Answered old command answer commits kept history
    × MadeCommits old.held commits before history

-- a structural command, which commits besides its own change
abbrev pub is_structural : Command → Bool
is_structural SubCreate = true
is_structural (Snap sub groups) = true
is_structural (Delete sub) = true
is_structural command = is_group_command command

-- a command that comes to the disk: a commit, or a structural one
abbrev pub comes_to_disk : Command → Bool
comes_to_disk Commit = true
comes_to_disk command = is_structural command

-- The calls of the commits that a command makes came so far, and perhaps were not all answered. It is one that comes to
-- the disk, and is not refused. They are those of the commit of what was pending; or all of these, where something was,
-- and behind them those of the commit of what a structural command changed
pub record StartsCommits (old : State) (command : Command) (events : List Event) (history : History) : Type
    0
  where
    pub comes : IsTrue (comes_to_disk command)
    pub unrefused : refusal old command ≡ None
    pub calls : StartsCommit old events history ⊎ StartsSecond old command events history

-- what a command has done to the disk, whatever is answered: nothing, or calls of the commits that it makes
abbrev pub IsDoneSoFar : State → Command → List Event → History → Type 0
IsDoneSoFar old command events history = (history ≡ Recorded events) ⊎ StartsCommits old command events history

-- the answer to `show`: each group's stored counters and limits, while quota is on
abbrev pub shown : Option Quota → Answer
shown None = answer.Refused why.NoQuota
shown (Some quota) = answer.Shown (rows_of (Some quota))

-- an answer that says that nothing was changed
abbrev pub is_unchanging : Answer → Bool
is_unchanging (answer.Refused why) = true
is_unchanging (answer.Shown rows) = true
is_unchanging (answer.File size pieces) = true
is_unchanging (answer.Owners owners) = true
is_unchanging _ = false
