-- What a run does to the disk and to the sink, side by side (this project's own): the commits and the replies of a run
-- of the machine over the script's lines.
use Rattle.std.specs.Prelude.{◌≡◌, ◌⊎◌, ℕ, List, [], ◌∷◌, ◌++◌, take, drop, Option, Some}
use Rattle.std.specs.List.{concat}
use Rattle.std.specs.Io.KnownBytes.{append_known}
use Rattle.qg_device.specs.History.{Event, History, Recorded, synced}
use Rattle.qg_edge.specs.Appended.{AppendsFront}
use Rattle.qg_num.specs.declared.command.Command.{Command}
use Rattle.qg_grammar.specs.ScriptText.{IsLineOf, script_lines, longest_script}
use Rattle.qg_image.specs.State.{Committed, State}
use Rattle.qg_machine.specs.Run.{Run}
use Rattle.qg_store.specs.CommitOpened.{IsOpened, IsOpening}
use Rattle.qg_store.specs.Answering.{StartsCommits}
use Rattle.qg_store.specs.Making.{AreSynced, MadeCommits}
use Rattle.qg_program.specs.declared.status.Status.{Status}
use Rattle.qg_program.specs.declared.status.Status.TheVariants.{Disk, Done, NoMemory, Sink, Source, TooLong}
use Rattle.qg_program.specs.Running.{AreLinesTaken, ended_lines}

-- ---- the disk

-- The calls of opening, and then those of these commits, where so much was held before them, and no others. Each commit
-- made sure of what the disk holds three times, and the third time that is the state committed.
pub record MakesAll (held : Committed) (commits : List State) (events : List Event)
    (history : History) : Type 0 where
  pub opened : List Event
  pub opens : IsOpened events (Recorded opened)
  pub made : MadeCommits held commits opened history
  pub synced : AreSynced commits (synced opened) (synced made.after)

-- a line asks for a command, and the calls of its commits came so far
pub record StartsLine (old : State) (line : List ℕ) (events : List Event) (history : History) : Type 0 where
  pub command : Command
  pub asked : IsLineOf line command
  pub starts : StartsCommits old command events history

-- the first of some lines is broken off in the midst of its commits
pub record BreaksOff (old : State) (lines : List (List ℕ)) (events : List Event) (history : History) : Type
    0 where
  pub line : List ℕ
  pub later : List (List ℕ)
  pub first : lines ≡ line ∷ later
  pub starts : StartsLine old line events history

-- before some lines, which are not answered any more, nothing else was done to the disk, or calls of the commits that
-- the first of them makes
abbrev pub StopsBefore : State → List (List ℕ) → List Event → History → Type 0
StopsBefore old lines events history = (history ≡ Recorded events) ⊎ BreaksOff old lines events history

-- ---- the lines

-- these lines are answered from this state on; all replies were put, and the disk was made to hold what was committed
pub record FollowsAll (state : State) (lines : List (List ℕ)) (events : List Event) (history : History)
    (old new : Option (List ℕ)) : Type 0 where
  pub replies : List (List ℕ)
  pub commits : List State
  pub after : State
  pub run : Run state lines replies commits after
  pub put : new ≡ append_known old (concat replies)
  pub made : MakesAll state.held commits events history

-- so are the lines of what was taken of an input, where so much of it is left
pub record FollowsTaken (state : State) (input : List ℕ) (left : Option (List ℕ)) (events : List Event)
    (history : History) (old new : Option (List ℕ)) : Type 0 where
  pub lines : List (List ℕ)
  pub are : AreLinesTaken input left lines
  pub follows : FollowsAll state lines events history old new

-- some of these lines are answered, from the first on; all replies but the last were put, and a front of that one
pub record FollowsPart (state : State) (lines : List (List ℕ)) (events : List Event) (history : History)
    (old new : Option (List ℕ)) : Type 0 where
  pub count : ℕ
  pub replies : List (List ℕ)
  pub last : List ℕ
  pub commits : List State
  pub after : State
  pub run : Run state (take count lines) (replies ++ last ∷ []) commits after
  pub put : AppendsFront (append_known old (concat replies)) new last
  pub made : MakesAll state.held commits events history

-- some of these lines are answered, from the first on, and all their replies were put; the run stops before the others
pub record FollowsUntil (state : State) (lines : List (List ℕ)) (events : List Event) (history : History)
    (old new : Option (List ℕ)) : Type 0 where
  pub count : ℕ
  pub replies : List (List ℕ)
  pub commits : List State
  pub after : State
  pub run : Run state (take count lines) replies commits after
  pub put : new ≡ append_known old (concat replies)
  pub mid : List Event
  pub made : MakesAll state.held commits events (Recorded mid)
  pub stops : StopsBefore after (drop count lines) mid history

-- the image was not opened: at most what opening does was done by then, and nothing was put
pub record StaysUnopened (events : List Event) (history : History) (old new : Option (List ℕ)) : Type
    0 where
  pub touched : IsOpening events history
  pub silent : new ≡ old

-- ---- the run

-- it was not, and nothing of the input was taken
pub record TakesNothing (input : List ℕ) (left : Option (List ℕ)) (events : List Event) (history : History)
    (old new : Option (List ℕ)) : Type 0 where
  pub unopened : StaysUnopened events history old new
  pub untaken : left ≡ Some input

-- A run follows the machine from this state on over this input, of which so much is left, by how it ended: over all
-- lines where the input was read to its end; over those that end within the most bytes that a script may have, where it
-- has more; over the lines of what was taken up to a fault of the source; where the sink failed, with a front of the
-- last reply. Where memory was refused or the disk failed, the image was not opened, and nothing was taken; or the run
-- stops before some line. No run over a sound image ends in another way.
abbrev pub Follows : Status → State → List ℕ → Option (List ℕ) → List Event → History → Option (List ℕ)
    → Option (List ℕ) → Type 0
Follows Done state input left events history old new = FollowsAll state (script_lines input) events history old new
Follows TooLong state input left events history old new =
    FollowsAll state (ended_lines (take longest_script input)) events history old new
Follows Source state input left events history old new = FollowsTaken state input left events history old new
Follows Sink state input left events history old new = FollowsPart state (script_lines input) events history old new
Follows NoMemory state input left events history old new = TakesNothing input left events history old new
    ⊎ FollowsUntil state (script_lines input) events history old new
Follows Disk state input left events history old new = TakesNothing input left events history old new
    ⊎ FollowsUntil state (script_lines input) events history old new
Follows _ state input left events history old new = ⊥
