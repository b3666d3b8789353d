-- What opening an image does (this project's own).
use Rattle.std.specs.Prelude.{◌≡◌, ◌⊎◌, ℕ, ◌≤◌, List, ◌∷◌, length, Option, Some, None, OnSome}
use Rattle.qg_device.specs.History.{Event, History, Recorded, Wrote, Tore, Synced}
use Rattle.qg_super.specs.declared.superblock.Super.{Super}
use Rattle.qg_super.specs.SuperText.{super_text}
use Rattle.qg_walk.specs.declared.fault.OpenFault.{OpenFault}
use Rattle.qg_walk.specs.Fault.{failure_of}

-- the superblock is written at a place that does not hold it, if there is one, and made sure of
abbrev pub with_repair : Super → Option ℕ → List Event → List Event
with_repair super None events = events
with_repair super (Some place) events = Synced ∷ Wrote place (super_text place super) ∷ events

-- the superblock was written at a place: torn, which may leave any bytes there, no more than were asked; or whole, and
-- perhaps made sure of
abbrev pub IsWriting : Super → ℕ → List Event → History → Type 0
IsWriting super place events history =
    ((left : List ℕ) × (length left ≤ length (super_text place super))
    × (history ≡ Recorded (Tore place (super_text place super) left ∷ events)))
    ⊎ ((history ≡ Recorded (Wrote place (super_text place super) ∷ events))
    ⊎ (history ≡ Recorded (with_repair super (Some place) events)))

-- nothing was done to the disk, but that it was perhaps made sure of
abbrev pub IsLookedAt : List Event → History → Type 0
IsLookedAt events history = (history ≡ Recorded events) ⊎ (history ≡ Recorded (Synced ∷ events))

-- where a failure is told, this is what was done to the disk
abbrev pub IsUntouched : OpenFault → History → List Event → Type 0
IsUntouched fault history events = OnSome (failure_of fault) (history ≡ Recorded events)
