-- What a run of the generator's lines does to the disk and to the sink (this project's own): it is a run of the machine
-- over these lines, a last `commit`, and `show`.
use Rattle.std.specs.Prelude.{◌≡◌, ◌⊎◌, ℕ, Bool, true, false, List, [], ◌∷◌, ◌++◌, codes, drop, map, not, take, Option}
use Rattle.std.specs.Prelude.{Some, String}
use Rattle.std.specs.declared.alloc.Global.{Global}
use Rattle.std.specs.List.{count_by}
use Rattle.std.specs.Io.KnownBytes.{append_known}
use Rattle.qg_device.specs.History.{Event, History, Recorded}
use Rattle.qg_edge.specs.Appended.{AppendsFront}
use Rattle.qg_num.specs.declared.answer.Answer.{Answer}
use Rattle.qg_num.specs.declared.answer.Answer.TheVariants.{Refused}
use Rattle.qg_num.specs.declared.command.Command.{Command}
use Rattle.qg_grammar.specs.ReplyText.{reply_text}
use Rattle.qg_grammar.specs.ScriptText.{command_text}
use Rattle.qg_generator.specs.GeneratedScript.{generated_script}
use Rattle.qg_script.specs.ReportText.{summary_text}
use Rattle.qg_image.specs.State.{State}
use Rattle.qg_machine.specs.Run.{Run}
use Rattle.qg_program.specs.declared.status.Status.{Status}
use Rattle.qg_program.specs.declared.status.Status.TheVariants.{Disk, Done, NoMemory, Sink}
use Rattle.qg_program.specs.Following.{Follows, MakesAll, StaysUnopened, StopsBefore}
use Rattle.qg_program.specs.Words.{AskToGenerate, AskToRun}

-- the lines of some commands
abbrev pub lines_of : List Command → List (List ℕ)
lines_of commands = map command_text commands

-- the lines that are answered: the generator's for a seed and a count, then a commit, then `show`
abbrev pub asked_lines : ℕ → ℕ → List (List ℕ)
asked_lines seed count = lines_of (generated_script seed count) ++ codes "commit" ∷ codes "show" ∷ []

-- an answer that refuses its command
abbrev pub is_refused : Answer → Bool
is_refused (Refused why) = true
is_refused _ = false

-- The text that is put: COUNT, of the generator's lines how many were done and how many refused, and the reply to
-- `show`.
abbrev pub generated_text : ℕ → List Answer → List ℕ → List ℕ
generated_text count answers shown =
    summary_text count (count_by (λ answer. not (is_refused answer)) answers) (count_by is_refused answers) ++ shown

-- all lines are answered from this state on, with these commits, and this text tells it
pub record TellsRun (state : State) (seed count : ℕ) (commits : List State) (text : List ℕ) : Type 0 where
  pub answers : List Answer
  pub committed : List ℕ
  pub shown : List ℕ
  pub after : State
  pub run : Run state (asked_lines seed count) (map reply_text answers ++ committed ∷ shown ∷ []) commits after
  pub told : text ≡ generated_text count answers shown

-- so they are, and the disk was made to hold what was committed
pub record GeneratesAll (state : State) (seed count : ℕ) (events : List Event) (history : History)
    (text : List ℕ) : Type 0 where
  pub commits : List State
  pub tells : TellsRun state seed count commits text
  pub made : MakesAll state.held commits events history

-- that text was put
pub record PutsGenerated (state : State) (seed count : ℕ) (events : List Event) (history : History)
    (old new : Option (List ℕ)) : Type 0 where
  pub text : List ℕ
  pub generates : GeneratesAll state seed count events history text
  pub put : new ≡ append_known old text

-- a front of that text was put
pub record PutsFrontOfGenerated (state : State) (seed count : ℕ) (events : List Event) (history : History)
    (old new : Option (List ℕ)) : Type 0 where
  pub text : List ℕ
  pub generates : GeneratesAll state seed count events history text
  pub put : AppendsFront old new text

-- some of these lines are answered, from the first on; the run stops before the others, and nothing was put
pub record GeneratesUntil (state : State) (lines : List (List ℕ)) (events : List Event) (history : History)
    (old new : Option (List ℕ)) : Type 0 where
  pub count : ℕ
  pub replies : List (List ℕ)
  pub commits : List State
  pub after : State
  pub run : Run state (take count lines) replies commits after
  pub silent : new ≡ old
  pub mid : List Event
  pub made : MakesAll state.held commits events (Recorded mid)
  pub stops : StopsBefore after (drop count lines) mid history

-- The generator's lines are run from this state on, by how that ended: over all lines, with the text put, where it was
-- done; with a front of it where the sink failed. Where memory was refused or the disk failed, the image was not
-- opened, or the run stops before some line. No run over a sound image ends in another way.
abbrev pub Generates : Status → State → ℕ → ℕ → List Event → History → Option (List ℕ) → Option (List ℕ)
    → Type 0
Generates Done state seed count events history old new = PutsGenerated state seed count events history old new
Generates Sink state seed count events history old new = PutsFrontOfGenerated state seed count events history old new
Generates NoMemory state seed count events history old new =
    StaysUnopened events history old new ⊎ GeneratesUntil state (asked_lines seed count) events history old new
Generates Disk state seed count events history old new =
    StaysUnopened events history old new ⊎ GeneratesUntil state (asked_lines seed count) events history old new
Generates _ state seed count events history old new = ⊥

-- ---- what was asked over a sound image

-- the lines of the input are answered where a run was asked for, where the source tells them; and the generator's where
-- those were
pub record FollowsAsAsked (words : List (String Global)) (end : Status) (state : State) (before left : Option (List ℕ))
    (events : List Event) (history : History) (old new : Option (List ℕ)) : Type 0 where
  pub run : AskToRun words → (input : List ℕ) → before ≡ Some input
      → Follows end state input left events history old new
  pub lines : (seed count : ℕ) → AskToGenerate words seed count → Generates end state seed count events history old new
