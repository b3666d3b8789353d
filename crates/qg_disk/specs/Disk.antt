-- What the calls of a disk add to its history (this project's own). Where events are recorded they are told; else a
-- write and a cut are counted, also one that fails, and a sync is not.
use Rattle.std.specs.Prelude.{◌≡◌, ℕ, ◌≤◌, ◌-◌, List, length, Result, Ok, Err}
use Rattle.qg_device.specs.History.{History, Wrote, Tore, Cut, CutShort, Synced, with_event}
use Rattle.qg_disk.specs.declared.fault.DiskFault.{DiskFault}
use Rattle.qg_disk.specs.declared.fault.DiskFault.TheVariants.{Failed, NoMemory}

-- a write that fails may leave any bytes at its place, no more than were asked
abbrev pub Writes : History → History → Result Unit DiskFault → ℕ → List ℕ → Type 0
Writes old new (Ok _) at bytes = new ≡ with_event (Wrote at bytes) old
Writes old new (Err Failed) at bytes = (left : List ℕ) × (length left ≤ length bytes)
    × (new ≡ with_event (Tore at bytes left) old)
Writes old new (Err NoMemory) at bytes = new ≡ old

-- a cut of a disk of so many bytes that fails may leave any bytes behind its length, and makes the disk no longer
abbrev pub Cuts : History → History → Result Unit DiskFault → ℕ → ℕ → Type 0
Cuts old new (Ok _) size len = new ≡ with_event (Cut len) old
Cuts old new (Err Failed) size len = (left : List ℕ) × (length left ≤ size - len)
    × (new ≡ with_event (CutShort len left) old)
Cuts old new (Err NoMemory) size len = new ≡ old

-- a sync that fails does nothing
abbrev pub Syncs : History → History → Result Unit DiskFault → Type 0
Syncs old new (Ok _) = new ≡ with_event Synced old
Syncs old new (Err fault) = new ≡ old
