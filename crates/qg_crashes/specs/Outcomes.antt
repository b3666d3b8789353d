-- What a crash leaves behind commits that came one behind the other (this project's own).
use Rattle.std.specs.Prelude.{◌≡◌, ◌⊎◌, ℕ, ◌<◌, List, [], ◌∷◌}
use Rattle.qg_device.specs.History.{Event, Wrote, Synced, content}
use Rattle.qg_device.specs.CrashSince.{LeavesSince}
use Rattle.qg_node.specs.declared.node.Node.{Node}
use Rattle.qg_super.specs.declared.superblock.Super.{Super}
use Rattle.qg_super.specs.Places.{first_place, second_place}
use Rattle.qg_super.specs.SuperText.{super_text}
use Rattle.qg_super.specs.NoChance.{NoChanceSince}
use Rattle.qg_image.specs.State.{State}
use Rattle.qg_image.specs.StateOf.{StateOf}
use Rattle.qg_crashes.specs.Committing.{begin_of}
use Rattle.qg_crashes.specs.Slots.{node_events, with_events}
use Rattle.qg_crashes.specs.Repairing.{Repairing}
use Rattle.qg_crashes.specs.States.{IsMirrored, Replacing, first_synced, with_place}

-- ---- what is left

-- a commit by the state that it comes to, and the moment at which the first place of its superblock was made sure of,
-- or would be
pub record Dated : Type 0 where
  pub state : State
  pub sure : ℕ

-- an image at a moment stands for the old state, or for that of one of these commits, the earliest first: for none that
-- is older than one of which the first place was made sure of by then
abbrev pub IsOneOf : State → List Dated → List ℕ → ℕ → Type 0
IsOneOf old [] image moment = StateOf image old
IsOneOf old (next ∷ later) image moment = (StateOf image old × (moment < next.sure))
    ⊎ IsOneOf next.state later image moment

-- so does whatever a crash at a moment since one may have left, where no torn superblock matches its checksum by chance
pub record Survives (since : ℕ) (old : State) (commits : List Dated) (after : List Event) : Type 0 where
  pub each : (image : List ℕ) (moment : ℕ) → LeavesSince since after image moment
      → NoChanceSince since after image moment → IsOneOf old commits image moment

-- the last that was done to a disk is a sync, and it stands for this state, at both places
pub record Rests (state : State) (events : List Event) : Type 0 where
  pub before : List Event
  pub synced : events ≡ Synced ∷ before
  pub stands : IsMirrored state (content before)

-- ---- commits, one behind the other

-- the nodes and the superblock that a commit writes, and the state that it comes to
pub record Commit : Type 0 where
  pub nodes : List Node
  pub super : Super
  pub state : State

-- all that was done once the whole commit was, but for its last sync
abbrev pub behind : Commit → List Event → List Event
behind commit before =
    Wrote second_place (super_text second_place commit.super) ∷ Synced ∷ Wrote first_place
    (super_text first_place commit.super) ∷ Synced
    ∷ with_events (node_events commit.super.nodesize commit.nodes) (Synced ∷ before)

-- These commits were made, the earliest first, on a disk that had made sure of all that it held and stood for a state:
-- each but the last is whole, and the last came so far
abbrev pub Chain : State → List Commit → List Event → List Event → Type 0
Chain old [] before after = IsMirrored old (content before) × (after ≡ Synced ∷ before)
Chain old (last ∷ []) before after = Replacing old last.state before last.nodes last.super after
Chain old (first ∷ next ∷ later) before after =
    Replacing old first.state before first.nodes first.super (Synced ∷ behind first before)
    × Chain first.state (next ∷ later) (behind first before) after

-- their states, each with its moment
abbrev pub dated_by : List Event → List Commit → List Dated
dated_by before [] = []
dated_by before (commit ∷ later) =
    record { state = commit.state; sure = first_synced before commit.nodes commit.super }
    ∷ dated_by (behind commit before) later

-- whatever a crash leaves since they began stands for one of these states, or for the old one
abbrev pub ChainSurvives : Type 0
ChainSurvives = (old : State) (commits : List Commit) (before after : List Event) → Chain old commits before after
    → Survives (begin_of before) old (dated_by before commits) after

-- ---- opening

-- a stale place is being repaired, the first or the second
abbrev pub IsRepairSoFar : List Event → Super → List Event → Type 0
IsRepairSoFar events super after = Repairing events first_place second_place super after
    ⊎ Repairing events second_place first_place super after

-- what opening has done to a disk so far, of which it perhaps made sure: nothing else, or it repairs a stale place
abbrev pub IsOpeningSoFar : List Event → List Event → Type 0
IsOpeningSoFar events after = (after ≡ events)
    ⊎ ((after ≡ Synced ∷ events) ⊎ ((super : Super) × IsRepairSoFar events super after))

-- whatever a crash leaves since its first sync stands for the state that the disk stood for
abbrev pub OpeningSurvives : Type 0
OpeningSurvives = (state : State) (events after : List Event) → StateOf (content events) state
    → IsOpeningSoFar events after
    → Survives (begin_of events) state [] after

-- all that was done once a place was repaired, but for its last sync
abbrev pub with_write : ℕ → Super → List Event → List Event
with_write place super events = Wrote place (super_text place super) ∷ Synced ∷ events

-- so it is where commits come behind the whole repair
abbrev pub RunSurvives : Type 0
RunSurvives = (state : State) (events after : List Event) (super : Super) (commits : List Commit)
    → StateOf (content events) state
    → (Repairing events first_place second_place super (with_place first_place super events)
    → Chain state commits (with_write first_place super events) after
    → Survives (begin_of events) state (dated_by (with_write first_place super events) commits) after)
    × (Repairing events second_place first_place super (with_place second_place super events)
    → Chain state commits (with_write second_place super events) after
    → Survives (begin_of events) state (dated_by (with_write second_place super events) commits) after)
