-- What a call puts (this project's own): what is put where a line could not be put whole, and what one says that puts
-- one line alone.
use Rattle.std.specs.Prelude.{◌≡◌, ◌⊎◌, ℕ, Bool, false, All, List, ◌∷◌, Option, Some, IsTrue, String, codes}
use Rattle.std.specs.List.{concat}
use Rattle.std.specs.declared.alloc.Global.{Global}
use Rattle.std.specs.Io.KnownBytes.{append_known}
use Rattle.qg_device.specs.History.{Event, History, Recorded, Synced, history_after, content}
use Rattle.qg_edge.specs.Appended.{AppendsFront}
use Rattle.qg_num.specs.declared.answer.Answer.{Answer}
use Rattle.qg_num.specs.declared.fault.BlockFault.{BlockFault}
use Rattle.qg_num.specs.declared.fault.BlockFault.TheVariants as fault
use Rattle.qg_num.specs.declared.fault.Stop.{Stop}
use Rattle.qg_num.specs.declared.fault.Stop.TheVariants as stop
use Rattle.qg_num.specs.declared.rule.Rule.{Rule}
use Rattle.qg_grammar.specs.ReplyText.{line, no_line, reply_text}
use Rattle.qg_grammar.specs.FailureText.{broken_text, differs_text}
use Rattle.qg_image.specs.Verdict.{IsSound, verdict}
use Rattle.qg_image.specs.declared.failure.Failure.{Failure}
use Rattle.qg_image.specs.declared.failure.Failure.TheVariants.{Broken, Differs}
use Rattle.qg_super.specs.declared.sizes.Sizes.{Sizes}
use Rattle.qg_super.specs.Places.{slot_at}
use Rattle.qg_store.specs.Calls.{with_image}
use Rattle.qg_store.specs.Fresh.{fresh_nodes, fresh_super}
use Rattle.qg_store.specs.Mkfs.{HoldsFreshImage, StopsMaking}
use Rattle.qg_store.specs.CommitOpening.{IsLookedAt}
use Rattle.qg_store.specs.Stopping.{HasStopCause}
use Rattle.qg_program.specs.Ends.{is_judged, is_made}
use Rattle.qg_program.specs.Words.{AskToGenerate, AskToOpen, AskToRun}
use Rattle.qg_program.specs.declared.status.Status.{Status}
use Rattle.qg_program.specs.declared.status.Status.TheVariants.{Done, NoMemory, Image, Sink, Disk}

-- some bytes were not put whole: a front of them where the sink failed, none where memory was refused
abbrev pub FailsToPut : Status → List ℕ → Option (List ℕ) → Option (List ℕ) → Type 0
FailsToPut Sink bytes old new = AppendsFront old new bytes
FailsToPut NoMemory bytes old new = new ≡ old
FailsToPut _ bytes old new = ⊥

-- how it ends that some bytes were not put whole
abbrev pub IsPutFault : Status → Type 0
IsPutFault end = (end ≡ Sink) ⊎ (end ≡ NoMemory)

-- some bytes were put, and so it ends; or they were not put whole
abbrev pub PutsAndEnds : Status → Status → List ℕ → Option (List ℕ) → Option (List ℕ) → Type 0
PutsAndEnds end result bytes old new = ((result ≡ end) × (new ≡ append_known old bytes))
    ⊎ FailsToPut result bytes old new

-- the line that says that an image was made
abbrev pub made_text : List ℕ
made_text = line (codes "ok mkfs")

-- what is put where an image is asked for: the line that says so where it was made, and a front of it where the sink
-- failed
abbrev pub SaysMade : Status → Option (List ℕ) → Option (List ℕ) → Type 0
SaysMade Done old new = new ≡ append_known old made_text
SaysMade Sink old new = AppendsFront old new made_text
SaysMade _ old new = new ≡ old

-- the line that says why an image is not sound
abbrev pub failure_text : Failure → List ℕ
failure_text (Broken rule address) = broken_text rule address
failure_text (Differs group which stored counted) = differs_text group which stored counted

-- a run refuses an image: it puts the line that says why, or a front of it where the sink failed; another end comes
-- only by want of memory or a fault of the disk
abbrev pub Refuses : Status → List ℕ → Option (List ℕ) → Option (List ℕ) → Type 0
Refuses Image text old new = new ≡ append_known old text
Refuses Sink text old new = AppendsFront old new text
Refuses NoMemory text old new = new ≡ old
Refuses Disk text old new = new ≡ old
Refuses _ text old new = ⊥

-- these bytes are the reply to some line: they tell an answer, or say that the line is no command's
abbrev pub IsReplyText : List ℕ → Type 0
IsReplyText bytes = ((answer : Answer) × (bytes ≡ reply_text answer)) ⊎ (bytes ≡ no_line)

-- some replies were put, one after the other, and nothing else
pub record PutsReplies (old new : Option (List ℕ)) : Type 0 where
  pub replies : List (List ℕ)
  pub told : All IsReplyText replies
  pub put : new ≡ append_known old (concat replies)

-- these bytes are the line of some failure
pub record TellsFailure (bytes : List ℕ) : Type 0 where
  pub failure : Failure
  pub told : bytes ≡ failure_text failure

-- these bytes are the line of the rule that a stop names, and of its address
abbrev pub TellsStop : Stop → List ℕ → Type 0
TellsStop (stop.Image rule address) bytes = bytes ≡ broken_text rule address
TellsStop _ bytes = ⊥

-- these bytes are the line of the rule that a store of an image of these sizes stopped for, and of its address; and
-- over a disk of so many bytes both are named for a cause
pub record TellsWhy (sizes : Sizes) (size : ℕ) (stopped : Option BlockFault) (bytes : List ℕ) : Type 0 where
  pub rule : Rule
  pub address : ℕ
  pub cause : stopped ≡ Some (fault.Image rule address)
  pub named : HasStopCause sizes size (stop.Image rule address)
  pub told : bytes ≡ broken_text rule address

-- the line of some failure was put, and nothing else
pub record SaysFailure (old new : Option (List ℕ)) : Type 0 where
  pub failure : Failure
  pub put : new ≡ append_known old (failure_text failure)

-- some replies were put, none where the image was not opened, and behind them the line of some failure
pub record PutsFailure (old new : Option (List ℕ)) : Type 0 where
  pub mid : Option (List ℕ)
  pub replied : PutsReplies old mid
  pub failure : Failure
  pub put : new ≡ append_known mid (failure_text failure)

-- what was asked ended with the line of some failure: a run's may stand behind replies, that of the generator's lines
-- stands alone
abbrev pub EndsByFailure : List (String Global) → Option (List ℕ) → Option (List ℕ) → Type 0
EndsByFailure words old new =
    (AskToRun words × PutsFailure old new) ⊎ ((seed : ℕ) × (count : ℕ) × AskToGenerate words seed count
    × SaysFailure old new)

-- A run refuses an image by its first failure: it says so, and at most a sync was asked of the disk, just one where the
-- line was to be put.
pub record RefusesImage (status : Status) (failure : Failure) (events : List Event) (history : History)
    (old new : Option (List ℕ)) : Type 0 where
  pub put : Refuses status (failure_text failure) old new
  pub looked_at : IsLookedAt events history
  pub unwritten : IsTrue (is_judged status) → history ≡ Recorded (Synced ∷ events)

-- Where a run or the generator's lines were asked for, an image that is not sound is refused by its first failure, and
-- the source stays as it is. And what ends so has put the line of some failure, and opened no image that is sound.
pub record RefusesAsAsked (words : List (String Global)) (end : Status) (before after : History)
    (old new : Option (List ℕ)) (SourceStays : Type 0) : Type 0 where
  pub refuses : (events : List Event) (failure : Failure) → AskToOpen words → before ≡ Recorded events
      → verdict (content events) ≡ Some failure → RefusesImage end failure events after old new × SourceStays
  pub told : end ≡ Image → EndsByFailure words old new
  pub unsound : (events : List Event) → end ≡ Image → before ≡ Recorded events → IsSound (content events) → ⊥

-- Memory was refused where an image of these sizes was asked for: it was made, and the line that says so was not put;
-- or it was not made, and over a disk that takes no memory no call was.
abbrev pub WantsMemory : Bool → Sizes → History → History → Type 0
WantsMemory takes_memory sizes before after =
    (after ≡ history_after (with_image (fresh_super sizes (slot_at sizes 0)) (fresh_nodes sizes)) before)
    ⊎ (StopsMaking sizes before after × (takes_memory ≡ false → after ≡ before))

-- An image of these sizes was asked for, and they are served: the calls where it was made; what the disk holds then,
-- where it tells it; how far the calls came where the disk failed, or memory was refused; and what was put.
pub record MakesImage (status : Status) (sizes : Sizes) (takes_memory : Bool) (before after : History)
    (old new : Option (List ℕ)) : Type 0 where
  pub calls : IsTrue (is_made status)
      → after ≡ history_after (with_image (fresh_super sizes (slot_at sizes 0)) (fresh_nodes sizes)) before
  pub fresh : (events : List Event) → before ≡ Recorded events → IsTrue (is_made status) → HoldsFreshImage sizes after
  pub stops : status ≡ Disk → StopsMaking sizes before after
  pub wants : status ≡ NoMemory → WantsMemory takes_memory sizes before after
  pub said : SaysMade status old new
