-- What opening an image does to the disk (this project's own).
use Rattle.std.specs.Prelude.{◌≡◌, ◌⊎◌, ℕ, List, [], ◌∷◌, length, Option, Some, Result, IfOk}
use Rattle.qg_device.specs.History.{Event, History, Recorded, Synced, IfRecorded, content}
use Rattle.qg_device.specs.Crash.{Leaves}
use Rattle.qg_device.specs.CrashSince.{LeavesSince}
use Rattle.qg_super.specs.declared.superblock.Super.{Super}
use Rattle.qg_super.specs.Places.{first_place, second_place}
use Rattle.qg_image.specs.State.{State}
use Rattle.qg_image.specs.ImageState.{super_in, super_of}
use Rattle.qg_image.specs.StateOf.{StateOf}
use Rattle.qg_image.specs.Verdict.{IsSound}
use Rattle.qg_walk.specs.declared.fault.OpenFault.{OpenFault}
use Rattle.qg_crashes.specs.Committing.{begin_of}
use Rattle.qg_crashes.specs.Outcomes.{Rests, Survives}
use Rattle.qg_other_trees.specs.Stale.{stale_place}
use Rattle.qg_commit.specs.Opening.{IsLookedAt, IsWriting, with_repair}

-- the place that does not hold the superblock that counts, if there is one
abbrev pub stale_of : List ℕ → Option ℕ
stale_of image = stale_place (super_in image first_place) (super_in image second_place)

-- the image was opened: a sync, and where a place was stale its text and a sync; nothing else was done
pub record IsOpened (events : List Event) (history : History) : Type 0 where
  pub super : Super
  pub chosen : super_of (content events) ≡ Some super
  pub repaired : history ≡ Recorded (with_repair super (stale_of (content events)) (Synced ∷ events))

-- the image is sound, and behind a sync the place that does not hold the superblock that counts was written, whole or
-- torn; nothing else was done
pub record IsRepairing (events : List Event) (history : History) : Type 0 where
  pub sound : IsSound (content events)
  pub super : Super
  pub chosen : super_of (content events) ≡ Some super
  pub place : ℕ
  pub stale : stale_of (content events) ≡ Some place
  pub written : IsWriting super place (Synced ∷ events) history

-- what opening has done to the disk, whatever it answers: at most a sync, and of a sound image the repair, or a part of
-- it
abbrev pub IsOpening : List Event → History → Type 0
IsOpening events history = IsLookedAt events history ⊎ IsRepairing events history

-- Opening outlives crashes. Whatever one leaves since opening's first sync stands for the state that the disk stood
-- for, where no torn superblock matches its checksum by chance; before that sync it leaves what it could as the call
-- began; and once the image was opened, the disk rests at that state, with both places alike
pub record OutlivesCrashes {A : Type 0} (events : List Event) (history : History)
    (result : Result A OpenFault) : Type 0 where
  pub crashes : (after : List Event) (state : State) → history ≡ Recorded after → StateOf (content events) state
      → Survives (begin_of events) state [] after
  pub early : (after : List Event) (image : List ℕ) → history ≡ Recorded after
      → LeavesSince (length events) after image (length events) → Leaves events image
  pub rests : (state : State) → StateOf (content events) state
      → IfOk result (λ opened. IfRecorded history (Rests state))
