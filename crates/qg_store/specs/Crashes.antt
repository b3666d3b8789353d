-- What a crash leaves of what a command did to the disk, and in which commit the disk rests then (this project's own).
use Rattle.std.specs.Prelude.{◌≡◌, ◌⊎◌, ℕ, List, [], ◌∷◌, length, map, None, Result, IfOk, IsTrue}
use Rattle.qg_device.specs.History.{Event, History, Recorded}
use Rattle.qg_num.specs.declared.answer.Answer.{Answer}
use Rattle.qg_num.specs.declared.command.Command.{Command}
use Rattle.qg_num.specs.declared.fault.Stop.{Stop}
use Rattle.qg_image.specs.State.{State}
use Rattle.qg_machine.specs.Refusals.{refusal}
use Rattle.qg_machine.specs.Step.{CommitsPending, Step}
use Rattle.qg_crashes.specs.Outcomes.{Chain, Commit, Rests, Survives, dated_by}
use Rattle.qg_image_commits.specs.Types.{OpenImage}
use Rattle.qg_image_commits.specs.Answering.{Answered, comes_to_disk}
use Rattle.qg_image_commits.specs.Making.{MadeCommits}

-- ---- the last commit

-- a state is what was committed last, or came of it since by file commands that are pending, or by a structural change
pub record IsLastCommit (committed state : State) : Type 0 where
  pub held : committed.held ≡ state.held
  pub generation : committed.generation ≡ state.generation
  pub sizes : committed.sizes ≡ state.sizes

-- the last of some commits; where there are none, the one before them
abbrev pub last_commit : State → List State → State
last_commit committed [] = committed
last_commit committed (state ∷ states) = last_commit state states

-- ---- what a crash leaves

-- Commits that come to these states were made one behind the other, each but the last whole. Whatever a crash leaves
-- since a moment stands for one of them, or for the one before them: for none that is older than one of which the first
-- superblock place was made sure of by then
pub record LeavesOneOf (since : ℕ) (committed : State) (commits : List State) (after : List Event) : Type 0 where
  pub before : List Event
  pub chain : List Commit
  pub states : map (λ commit. commit.state) chain ≡ commits
  pub made : Chain committed chain before after
  pub survives : Survives since committed (dated_by before chain) after

-- a command that comes to the disk, and is not refused, commits what was pending before it does anything else
pub record CommitsFirst (old : State) (command : Command) (commits : List State) : Type 0 where
  pub comes : IsTrue (comes_to_disk command)
  pub unrefused : refusal old command ≡ None
  pub before : State
  pub first : CommitsPending old commits before

-- a command commits all that its step commits
pub record CommitsAll (old : State) (command : Command) (commits : List State) : Type 0 where
  pub reply : Answer
  pub new : State
  pub step : Step old command reply commits new

-- a command commits these states, the earliest first: none; what was pending; or all that its step commits
abbrev pub AreCommitsOf : State → Command → List State → Type 0
AreCommitsOf old command commits = (commits ≡ []) ⊎ (CommitsFirst old command commits ⊎ CommitsAll old command commits)

-- Whatever a crash leaves since a command began stands for the last commit before it, or for one that the command makes
pub record CommitsBy (old : State) (command : Command) (committed : State) (events : List Event)
    (history : History) : Type 0 where
  pub after : List Event
  pub told : history ≡ Recorded after
  pub commits : List State
  pub are : AreCommitsOf old command commits
  pub leaves : LeavesOneOf (length events) committed commits after

-- The machine answers a command so, and what is kept is that of the state that it comes to. The disk was made to hold
-- what the command commits, of which a crash in the midst of it left one or the last commit before it, and rests in the
-- last of these: the next command begins over that
pub record StillRests (old : State) (command : Command) (reply : Answer) (committed : State) (kept : OpenImage)
    (events : List Event) (history : History) : Type 0 where
  pub commits : List State
  pub answered : Answered old command reply commits kept history
  pub made : MadeCommits old.held commits events history
  pub leaves : LeavesOneOf (length events) committed commits made.after
  pub rests : Rests (last_commit committed commits) made.after
  pub last : IsLastCommit (last_commit committed commits) answered.new

-- A command that began where the disk rested in the last commit outlives crashes: what one leaves stands for that
-- commit, or for one that the command makes, whatever is answered; and where the command is answered, the disk rests
-- again
pub record OutlivesCommand (old : State) (command : Command) (committed : State) (events : List Event)
    (history : History) (result : Result Answer Stop) (kept : OpenImage) : Type 0 where
  pub crashes : CommitsBy old command committed events history
  pub rests : IfOk result (λ reply. StillRests old command reply committed kept events history)
