-- Calls of a disk that has a record and does not tell of it: it tells how many calls may have changed it.
use Rattle.std.proofs.Common.{◌≡◌, ℕ, List, ◌∷◌, ap}
use Rattle.std.specs.Prelude.{Result, Ok, Err}
use Rattle.qg_device.specs.History.{Event, Recorded, Unrecorded, Wrote, Tore, Cut, CutShort, Synced, with_changes}
use Rattle.qg_device.proofs.Histories.{same_Recorded}
use Rattle.qg_disk.specs.declared.fault.DiskFault.{DiskFault}
use Rattle.qg_disk.specs.declared.fault.DiskFault.TheVariants.{Failed, NoMemory}
use Rattle.qg_disk.specs.Disk.{Cuts, Syncs, Writes}

counted : (one other : List Event) → Recorded one ≡ Recorded other
    → Unrecorded (with_changes one 0) ≡ Unrecorded (with_changes other 0)
counted one other same =
    ap (λ (events : List Event). Unrecorded (with_changes events 0)) (same_Recorded one other same)

pub writes-untold : (old new : List Event) (result : Result Unit DiskFault) (at : ℕ) (bytes : List ℕ)
    → Writes (Recorded old) (Recorded new) result at bytes
    → Writes (Unrecorded (with_changes old 0)) (Unrecorded (with_changes new 0)) result at bytes
writes-untold old new (Ok done) at bytes is = counted new (Wrote at bytes ∷ old) is
writes-untold old new (Err Failed) at bytes is = (is.0, is.1, counted new (Tore at bytes is.0 ∷ old) is.2)
writes-untold old new (Err NoMemory) at bytes is = counted new old is

pub cuts-untold : (old new : List Event) (result : Result Unit DiskFault) (size len : ℕ)
    → Cuts (Recorded old) (Recorded new) result size len
    → Cuts (Unrecorded (with_changes old 0)) (Unrecorded (with_changes new 0)) result size len
cuts-untold old new (Ok done) size len is = counted new (Cut len ∷ old) is
cuts-untold old new (Err Failed) size len is = (is.0, is.1, counted new (CutShort len is.0 ∷ old) is.2)
cuts-untold old new (Err NoMemory) size len is = counted new old is

pub syncs-untold : (old new : List Event) (result : Result Unit DiskFault)
    → Syncs (Recorded old) (Recorded new) result
    → Syncs (Unrecorded (with_changes old 0)) (Unrecorded (with_changes new 0)) result
syncs-untold old new (Ok done) is = counted new (Synced ∷ old) is
syncs-untold old new (Err fault) is = counted new old is
