-- What a run leaves behind at any moment of it, and a run of the generator's lines (this project's own): for which
-- state an image stands that a crash left then, and how the replies are tied to that. A moment is a number of events on
-- the disk.
use Rattle.std.specs.Prelude.{◌≡◌, ◌⊎◌, ℕ, ◌+◌, ◌<◌, ◌≤◌, List, [], ◌∷◌, ◌++◌, length, map, take, Option, Some, String}
use Rattle.std.specs.declared.alloc.Global.{Global}
use Rattle.std.specs.List.{concat}
use Rattle.std.specs.Io.KnownBytes.{append_known}
use Rattle.qg_device.specs.History.{Event, Recorded}
use Rattle.qg_device.specs.Crash.{Leaves}
use Rattle.qg_device.specs.CrashSince.{LeavesSince, events_by}
use Rattle.qg_super.specs.NoChance.{NoChanceSince}
use Rattle.qg_edge.specs.Appended.{AppendsFront}
use Rattle.qg_num.specs.declared.answer.Answer.{Answer}
use Rattle.qg_num.specs.declared.command.Command.{Command}
use Rattle.qg_grammar.specs.ReplyText.{reply_text}
use Rattle.qg_grammar.specs.ScriptText.{IsLineOf, script_lines, longest_script}
use Rattle.qg_image.specs.State.{State}
use Rattle.qg_image.specs.StateOf.{StateOf}
use Rattle.qg_machine.specs.Run.{Run}
use Rattle.qg_crashes.specs.Outcomes.{Survives}
use Rattle.qg_store.specs.Crashes.{AreCommitsOf, LeavesOneOf}
use Rattle.qg_program.specs.declared.status.Status.{Status}
use Rattle.qg_program.specs.declared.status.Status.TheVariants.{Disk, Done, NoMemory, Sink, TooLong}
use Rattle.qg_program.specs.Following.{MakesAll}
use Rattle.qg_program.specs.Generating.{asked_lines, generated_text}
use Rattle.qg_program.specs.Running.{ended_lines}
use Rattle.qg_program.specs.Words.{AskToGenerate, AskToRun}

-- ---- the lines

-- which lines are asked: those of an input, where it is told; or the generator's for a seed and a count, with a commit
-- and `show` behind them
pub data Asked : Type 0 where
  Input : (input : Option (List ℕ)) → Asked
  Drawn : (seed count : ℕ) → Asked

-- A run answered these lines of its input, by how it ended: all; those that end within the most bytes that a script may
-- have; or some, from the first on
abbrev pub AreAnswered : Status → List ℕ → List (List ℕ) → Type 0
AreAnswered Done input lines = lines ≡ script_lines input
AreAnswered TooLong input lines = lines ≡ ended_lines (take longest_script input)
AreAnswered _ input lines = lines ≡ take (length lines) (script_lines input)

-- It answered these of the lines that were drawn: all where their text was put, or a front of it; else some, from the
-- first on
abbrev pub AreDrawn : Status → List (List ℕ) → List (List ℕ) → Type 0
AreDrawn Done drawn lines = lines ≡ drawn
AreDrawn Sink drawn lines = lines ≡ drawn
AreDrawn _ drawn lines = lines ≡ take (length lines) drawn

-- it answered these of the lines that were asked, by how it ended
abbrev pub AreOfAsked : Status → Asked → List (List ℕ) → Type 0
AreOfAsked end (Input input) lines = (bytes : List ℕ) → input ≡ Some bytes → AreAnswered end bytes lines
AreOfAsked end (Drawn seed count) lines = AreDrawn end (asked_lines seed count) lines

-- all of these replies but the last were put, and a front of that one
pub record ArePutInPart (replies : List (List ℕ)) (old new : Option (List ℕ)) : Type 0 where
  pub whole : List (List ℕ)
  pub last : List ℕ
  pub are : replies ≡ whole ++ last ∷ []
  pub put : AppendsFront (append_known old (concat whole)) new last

-- these replies were put, one behind the other; where the sink failed, a front of the last one
abbrev pub ArePut : Status → List (List ℕ) → Option (List ℕ) → Option (List ℕ) → Type 0
ArePut Sink replies old new = ArePutInPart replies old new
ArePut _ replies old new = new ≡ append_known old (concat replies)

-- the replies to the lines that were drawn make this text
pub record MakeText (count : ℕ) (replies : List (List ℕ)) (text : List ℕ) : Type 0 where
  pub answers : List Answer
  pub committed : List ℕ
  pub shown : List ℕ
  pub are : replies ≡ map reply_text answers ++ committed ∷ shown ∷ []
  pub told : text ≡ generated_text count answers shown

-- that text was put
pub record IsTextPut (count : ℕ) (replies : List (List ℕ)) (old new : Option (List ℕ)) : Type 0 where
  pub text : List ℕ
  pub made : MakeText count replies text
  pub put : new ≡ append_known old text

-- a front of that text was put
pub record IsTextPutInPart (count : ℕ) (replies : List (List ℕ)) (old new : Option (List ℕ)) : Type 0 where
  pub text : List ℕ
  pub made : MakeText count replies text
  pub put : AppendsFront old new text

-- the text that these replies make was put, or a front of it where the sink failed; nothing where the run stopped
-- before that, or memory was refused
abbrev pub IsTold : Status → ℕ → List (List ℕ) → Option (List ℕ) → Option (List ℕ) → Type 0
IsTold Done count replies old new = IsTextPut count replies old new
IsTold Sink count replies old new = IsTextPutInPart count replies old new
IsTold _ count replies old new = new ≡ old

-- what was put of the replies to the lines that were asked
abbrev pub ArePutAsAsked : Status → Asked → List (List ℕ) → Option (List ℕ) → Option (List ℕ) → Type 0
ArePutAsAsked end (Input input) replies old new = ArePut end replies old new
ArePutAsAsked end (Drawn seed count) replies old new = IsTold end count replies old new

-- some lines begin with others, and then comes this one
abbrev pub IsNext : List (List ℕ) → List (List ℕ) → List ℕ → Type 0
IsNext all lines line = (later : List (List ℕ)) × (all ≡ lines ++ line ∷ later)

-- so do the lines that were asked, those of an input where it is told
abbrev pub IsNextOf : Asked → List (List ℕ) → List ℕ → Type 0
IsNextOf (Input input) lines line = (bytes : List ℕ) → input ≡ Some bytes → IsNext (script_lines bytes) lines line
IsNextOf (Drawn seed count) lines line = IsNext (asked_lines seed count) lines line

-- the line behind those that were answered, the next of those that were asked, asks for a command, and these are
-- commits of that
pub record BeginsNext (state : State) (asked : Asked) (lines : List (List ℕ)) (begun : List State) : Type 0 where
  pub line : List ℕ
  pub next : IsNextOf asked lines line
  pub command : Command
  pub asks : IsLineOf line command
  pub are : AreCommitsOf state command begun

-- where memory was refused or the disk failed, the next line had perhaps begun these commits; no other run begins any
abbrev pub Begins : Status → State → Asked → List (List ℕ) → List State → Type 0
Begins NoMemory state asked lines begun = (begun ≡ []) ⊎ BeginsNext state asked lines begun
Begins Disk state asked lines begun = (begun ≡ []) ⊎ BeginsNext state asked lines begun
Begins _ state asked lines begun = begun ≡ []

-- ---- what stays

-- an image stands for a state of this generation, or of a later one
pub record IsNoOlder (generation : ℕ) (image : List ℕ) : Type 0 where
  pub state : State
  pub stands : StateOf image state
  pub no_older : generation ≤ state.generation

-- so does whatever a crash leaves at a moment since one, where no torn superblock matches its checksum by chance
abbrev pub LeavesNoOlder : ℕ → ℕ → List Event → Type 0
LeavesNoOlder since generation after =
    (image : List ℕ) (moment : ℕ) → LeavesSince since after image moment → NoChanceSince since after image moment
    → IsNoOlder generation image

-- Whatever a crash leaves since a moment stands for one of these commits or for the state before them; where no commit
-- was begun, so that the image was perhaps not opened, for that state
abbrev pub LeavesACommit : ℕ → State → List State → List Event → Type 0
LeavesACommit since state commits after =
    ((commits ≡ []) × Survives since state [] after) ⊎ LeavesOneOf since state commits after

-- Each of these commits is acknowledged by the last of its syncs. From a moment on by which the disk had the calls of
-- opening and then those of this commit and of all before it, and no others, a crash leaves nothing older than it.
abbrev pub AreAcknowledged : State → List State → List Event → List Event → Type 0
AreAcknowledged state commits events after =
    (first : List State) (commit : State) (later : List State) (moment : ℕ) → commits ≡ first ++ commit ∷ later
    → moment ≤ length after → MakesAll state.held (first ++ commit ∷ []) events (Recorded (events_by moment after))
    → LeavesNoOlder moment commit.generation after

-- These replies of the machine to these lines are kept. By some moment of the run the disk had the calls of opening and
-- then those of their commits, and no others; and whatever a crash leaves from then on is of the generation that the
-- machine had committed by the last of them, or of a later one. That is the number in `ok commit N`.
pub record AreKept (state : State) (lines replies : List (List ℕ)) (events after : List Event) : Type 0 where
  pub commits : List State
  pub present : State
  pub run : Run state lines replies commits present
  pub moment : ℕ
  pub by_now : moment ≤ length after
  pub made : MakesAll state.held commits events (Recorded (events_by moment after))
  pub kept : LeavesNoOlder moment present.generation after

-- ---- the run

-- A run over an image that stands for this state answered these lines of those that were asked by these replies, with
-- these commits, and perhaps began more. Whatever a crash at a moment since opening's first sync leaves stands for that
-- state or for one of these commits, and for none that is older than one that was acknowledged by then; before that
-- sync it leaves what it could as the run began. And each reply is kept, with all before it.
pub record LeavesBehind (end : Status) (state : State) (asked : Asked) (events after : List Event)
    (old new : Option (List ℕ)) : Type 0 where
  pub lines : List (List ℕ)
  pub replies : List (List ℕ)
  pub commits : List State
  pub final : State
  pub run : Run state lines replies commits final
  pub answered : AreOfAsked end asked lines
  pub put : ArePutAsAsked end asked replies old new
  pub begun : List State
  pub begins : Begins end final asked lines begun
  pub leaves : LeavesACommit (length events + 1) state (commits ++ begun) after
  pub acknowledged : AreAcknowledged state (commits ++ begun) events after
  pub early : (image : List ℕ) → LeavesSince (length events) after image (length events) → Leaves events image
  pub tied : (count : ℕ) → count < length lines
      → AreKept state (take (count + 1) lines) (take (count + 1) replies) events after

-- ---- what was asked over a sound image

-- this is left behind of the lines of the input where a run was asked for, and of the generator's where those were
pub record LeavesAsAsked (words : List (String Global)) (end : Status) (state : State) (left : Option (List ℕ))
    (events after : List Event) (old new : Option (List ℕ)) : Type 0 where
  pub run : AskToRun words → LeavesBehind end state (Input left) events after old new
  pub lines : (seed count : ℕ) → AskToGenerate words seed count
      → LeavesBehind end state (Drawn seed count) events after old new
