-- Where the premise on torn places holds: what a disk holds meets it (this project's own).
use Rattle.std.specs.Prelude.{◌≡◌, ℕ, ◌+◌, ◌≤◌, All, List, ◌++◌, length}
use Rattle.qg_device.specs.History.{Event, Wrote, Tore, Cut, CutShort, Synced, content, range}
use Rattle.qg_device.specs.LastWrite.{last_rewriting}
use Rattle.qg_super.specs.Places.{second_place}
use Rattle.qg_super.specs.NoChance.{super_bytes, NoChanceSince}

-- the event is a write that was done, or a sync
abbrev pub IsDone : Event → Type 0
IsDone (Wrote at bytes) = Unit {0}
IsDone (Tore at asked left) = ⊥
IsDone (Cut len) = ⊥
IsDone (CutShort len left) = ⊥
IsDone Synced = Unit {0}

-- where such events alone came since a moment at which the disk had n bytes from `place` on, it holds there the new
-- bytes of the last write since
abbrev pub HoldsTheNew : Type 0
HoldsTheNew = (place n : ℕ) (newer older : List Event) → All IsDone newer → place + n ≤ length (content older)
    → range place n (content (newer ++ older)) ≡ (last_rewriting place n (length older) (newer ++ older)).new

-- so the premise on superblocks holds of what the disk holds
abbrev pub MeetsThePremise : Type 0
MeetsThePremise = (newer older : List Event) → All IsDone newer → second_place + super_bytes ≤ length (content older)
    → NoChanceSince (length older) (newer ++ older) (content (newer ++ older)) (length (newer ++ older))
