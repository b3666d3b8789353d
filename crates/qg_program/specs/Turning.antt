-- One turn of a run (this project's own): the next line is taken and answered.
use Rattle.std.specs.Prelude.{◌≡◌, ◌⊎◌, ℕ, ◌<◌, Bool, true, false, List, [], Option, Result, Ok, Err, OnOk}
use Rattle.std.specs.Io.KnownBytes.{IsAtEnd, append_known}
use Rattle.qg_device.specs.Cause.{HasCause}
use Rattle.qg_device.specs.History.{Event, History, Recorded}
use Rattle.qg_edge.specs.Appended.{AppendsFront}
use Rattle.qg_script.specs.Feeding.{Feeding, HoldsLine, HoldsNoNewline, IsTooLong, IsWithinLimit}
use Rattle.qg_script.specs.Lines.{CountsTaken, TakesLine}
use Rattle.qg_image.specs.State.{State}
use Rattle.qg_machine.specs.Run.{Turn}
use Rattle.qg_store.specs.Making.{MadeCommits}
use Rattle.qg_store.specs.Stored.{Stored, IsStoreOf}
use Rattle.qg_program.specs.declared.status.Status.{Status}
use Rattle.qg_program.specs.declared.status.Status.TheVariants.{NoMemory, Image, Source, Sink, Disk, TooLong}
use Rattle.qg_program.specs.Following.{StartsLine}
use Rattle.qg_program.specs.Putting.{PutsFailure, PutsReplies}

-- a new ledger of a name, cut into some parts, is the one of this name and of so many parts
pub record IsBlankOf (name parts ledger shares : ℕ) : Type 0 where
  pub named : name ≡ ledger
  pub parted : parts ≡ shares
  pub some : 0 < parts

-- a store stands for some state over a disk that tells
pub record StandsOver (store : Stored) (history : History) : Type 0 where
  pub state : State
  pub events : List Event
  pub told : history ≡ Recorded events
  pub stands : IsStoreOf store state history

-- the machine answers a line by this reply; the store stands for the state that it comes to, and the disk was made to
-- hold what it commits
pub record IsReply (old : State) (events : List Event) (line reply : List ℕ) (store : Stored)
    (history : History) : Type 0 where
  pub new : State
  pub commits : List State
  pub turn : Turn old line reply commits new
  pub stands : IsStoreOf store new history
  pub made : MadeCommits old.held commits events history

-- the first line of what was pending, where that is told, has this reply
pub record Replies (old : State) (events : List Event) (before after : Option (List ℕ)) (reply : List ℕ)
    (store : Stored) (history : History) : Type 0 where
  pub line : List ℕ
  pub takes : TakesLine before after line
  pub answered : IsReply old events line reply store history

-- and the reply was put
pub record Turns (old : State) (events : List Event) (before after : Option (List ℕ)) (store : Stored)
    (history : History) (held now : Option (List ℕ)) : Type 0 where
  pub reply : List ℕ
  pub replies : Replies old events before after reply store history
  pub put : now ≡ append_known held reply

-- and a front of it was put
pub record TurnsPart (old : State) (events : List Event) (before : Option (List ℕ)) (store : Stored)
    (history : History) (held now : Option (List ℕ)) : Type 0 where
  pub after : Option (List ℕ)
  pub reply : List ℕ
  pub replies : Replies old events before after reply store history
  pub put : AppendsFront held now reply

-- a line was answered; where there was none, nothing was put and nothing was done to the disk
abbrev pub IsTurn : Bool → State → List Event → Option (List ℕ) → Option (List ℕ) → Stored → History
    → Option (List ℕ) → Option (List ℕ) → Type 0
IsTurn true old events before after store history held now = Turns old events before after store history held now
IsTurn false old events before after store history held now = IsAtEnd before × (after ≡ before)
    × (history ≡ Recorded events) × (now ≡ held)

-- what a line that is not answered to its end has done to the disk: nothing, or calls of the commits that it makes
abbrev pub IsLineSoFar : State → List ℕ → List Event → History → Type 0
IsLineSoFar old line events history = (history ≡ Recorded events) ⊎ StartsLine old line events history

-- the first line of what was pending, where that is told, is broken off in the midst of its commits
pub record BreaksLine (old : State) (before : Option (List ℕ)) (events : List Event)
    (history : History) : Type 0 where
  pub line : List ℕ
  pub after : Option (List ℕ)
  pub takes : TakesLine before after line
  pub starts : StartsLine old line events history

-- nothing was done to the disk, or the next line is broken off so
abbrev pub StopsLine : State → Option (List ℕ) → List Event → History → Type 0
StopsLine old before events history = (history ≡ Recorded events) ⊎ BreaksLine old before events history

-- A turn that fails. Where the sink failed, the line was answered but for its reply. Where no line was read, nothing
-- was done; else perhaps calls of the commits that the line makes.
abbrev pub FailsToTurn : Status → State → List Event → Option (List ℕ) → Option (List ℕ) → Stored → History
    → Option (List ℕ) → Option (List ℕ) → Type 0
FailsToTurn Sink old events before after store history held now = TurnsPart old events before store history held now
FailsToTurn Source old events before after store history held now = (after ≡ before) × (history ≡ Recorded events)
    × (now ≡ held)
FailsToTurn TooLong old events before after store history held now = (after ≡ before) × (history ≡ Recorded events)
    × (now ≡ held)
FailsToTurn NoMemory old events before after store history held now = StopsLine old before events history × (now ≡ held)
FailsToTurn Disk old events before after store history held now = StopsLine old before events history × (now ≡ held)
FailsToTurn _ old events before after store history held now = ⊥

-- ---- over any disk

-- where a turn was made its reply was put, or nothing; where a broken rule ended it the line that says so
pub record PutsLine (result : Result Bool Status) (held now : Option (List ℕ)) : Type 0 where
  pub replied : OnOk result (PutsReplies held now)
  pub told : result ≡ Err Image → PutsFailure held now

-- How many bytes a turn takes, and hands out: those that it takes are counted, and are no more than a script may have,
-- and one. Where a line was held whole the source stays as it is. Where there was no line nothing is left, where the
-- input is too long the feed is so, and where the source failed no byte held is a newline
pub record TakesTurn (result : Result Bool Status) (old new : Feeding) (before after : Option (List ℕ))
    (SourceStays : Type 0) : Type 0 where
  pub not_asked : HoldsLine old → SourceStays
  pub over : result ≡ Ok false → (new.rest ≡ []) × IsAtEnd after
  pub too_long : result ≡ Err TooLong → IsTooLong new
  pub no_newline : result ≡ Err Source → HoldsNoNewline new
  pub counted : CountsTaken before after old.taken new.taken
  pub within : IsWithinLimit new

-- source, sink or disk met a fault exactly where the turn ends for it, and then it alone and once
pub record HaveCauses (result : Result Bool Status)
    (source_before source_after sink_before sink_after disk_before disk_after : ℕ)
    : Type 0 where
  pub source : HasCause Source source_before source_after result
  pub sink : HasCause Sink sink_before sink_after result
  pub disk : HasCause Disk disk_before disk_after result
