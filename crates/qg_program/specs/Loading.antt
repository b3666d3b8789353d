-- How far the generator's lines were answered over a store that is open (this project's own).
use Rattle.std.specs.Prelude.{◌≡◌, ℕ, ◌+◌, ◌≤◌, Bool, true, false, List, length, drop, map, not, take}
use Rattle.std.specs.List.{count_by}
use Rattle.qg_device.specs.History.{Event, History, Recorded}
use Rattle.qg_num.specs.declared.answer.Answer.{Answer}
use Rattle.qg_grammar.specs.ReplyText.{reply_text}
use Rattle.qg_image.specs.State.{State}
use Rattle.qg_machine.specs.Run.{Run}
use Rattle.qg_store.specs.Making.{MadeCommits}
use Rattle.qg_store.specs.Stored.{Stored, IsStoreOf}
use Rattle.qg_program.specs.declared.generate.Tally.{Tally}
use Rattle.qg_program.specs.Following.{StopsBefore}
use Rattle.qg_program.specs.Generating.{TellsRun, is_refused}
use Rattle.qg_program.specs.Turning.{IsReply}

-- the machine answers a line, whose command so is done or refused; the store stands for the state that it comes to, and
-- the disk was made to hold what it commits
pub record IsAnswered (old : State) (events : List Event) (line : List ℕ) (done : Bool) (store : Stored)
    (history : History) : Type 0 where
  pub answer : Answer
  pub answered : IsReply old events line (reply_text answer) store history
  pub judged : is_refused answer ≡ not done

-- a line more is counted, done or refused
abbrev pub counted : Bool → Tally → Tally
counted true tally = record tally { done = tally.done + 1 }
counted false tally = record tally { refused = tally.refused + 1 }

-- these lines are answered from this state on, so many done and so many refused; the store stands for the state that
-- this comes to, and the disk was made to hold what was committed
pub record AreRun (state : State) (lines : List (List ℕ)) (tally : Tally) (store : Stored) (events : List Event)
    (history : History) : Type 0 where
  pub answers : List Answer
  pub commits : List State
  pub after : State
  pub run : Run state lines (map reply_text answers) commits after
  pub done : tally.done ≡ count_by (λ answer. not (is_refused answer)) answers
  pub refused : tally.refused ≡ count_by is_refused answers
  pub stands : IsStoreOf store after history
  pub made : MadeCommits state.held commits events history

-- all lines that `gen` asks are answered from this state on, this text tells it, and the disk was made to hold what was
-- committed
pub record IsLoaded (state : State) (seed count : ℕ) (text : List ℕ) (events : List Event)
    (history : History) : Type 0 where
  pub commits : List State
  pub tells : TellsRun state seed count commits text
  pub made : MadeCommits state.held commits events history

-- some of these lines are answered, from the first on, and then it stops before the others
pub record StopsWithin (state : State) (lines : List (List ℕ)) (events : List Event)
    (history : History) : Type 0 where
  pub count : ℕ
  pub within : count ≤ length lines
  pub replies : List (List ℕ)
  pub commits : List State
  pub after : State
  pub run : Run state (take count lines) replies commits after
  pub mid : List Event
  pub made : MadeCommits state.held commits events (Recorded mid)
  pub stops : StopsBefore after (drop count lines) mid history
