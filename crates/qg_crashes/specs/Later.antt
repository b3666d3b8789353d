-- The premise on torn superblocks since one moment, and since a later one (this project's own). Bytes are those of a
-- place.
use Rattle.std.specs.Prelude.{ℕ, ◌+◌, ◌≤◌, All, List, ◌∷◌, ◌++◌, length}
use Rattle.qg_device.specs.History.{Event, Wrote, Tore, Cut, CutShort, Synced, content}
use Rattle.qg_device.specs.Crash.{Leaves}
use Rattle.qg_device.specs.LastWrite.{last_rewriting}
use Rattle.qg_super.specs.Places.{first_place, second_place}
use Rattle.qg_super.specs.NoChance.{super_bytes, NoChance}

-- the event is a write, or a sync: one that failed left no more bytes than were asked
abbrev pub IsWriteOrSync : Event → Type 0
IsWriteOrSync (Wrote at bytes) = Unit {0}
IsWriteOrSync (Tore at asked left) = length left ≤ length asked
IsWriteOrSync (Cut len) = ⊥
IsWriteOrSync (CutShort len left) = ⊥
IsWriteOrSync Synced = Unit {0}

-- the premise on an image that a crash left after these events, by the last writes since a moment
abbrev pub NoChanceBy : ℕ → List Event → List ℕ → Type 0
NoChanceBy since events image = NoChance image (last_rewriting first_place super_bytes since events)
    (last_rewriting second_place super_bytes since events)

-- Writes and syncs came behind a sync, at which the disk reached past both places. Where the premise since some moment
-- before that sync holds of an image that a crash may leave, it holds since the sync: a place that was written since
-- has the same last write, and any other has what it held
abbrev pub PremiseFromLater : Type 0
PremiseFromLater = (since : ℕ) (newer older : List Event) (image : List ℕ) → All IsWriteOrSync newer
    → second_place + super_bytes ≤ length (content older)
    → since ≤ length older + 1 → Leaves (newer ++ Synced ∷ older) image
    → NoChanceBy since (newer ++ Synced ∷ older) image → NoChanceBy (length older + 1) (newer ++ Synced ∷ older) image
