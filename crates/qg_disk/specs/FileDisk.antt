-- A disk that is a file (this project's own).
use Rattle.std.specs.Prelude.{◌≡◌, ℕ, List, length, Result, Ok, Err}
use Rattle.qg_device.specs.History.{Event, Recorded, Unrecorded, content, one_more}
use Rattle.qg_disk.specs.declared.fault.DiskFault.{DiskFault}
use Rattle.qg_disk.specs.declared.fault.DiskFault.TheVariants.{Failed, NoMemory}

-- what is known of such a disk: its length in bytes, how many calls were made that may change it, and how many calls
-- have failed
pub record KnownFile : Type 0 where
  pub len : ℕ
  pub changes : ℕ
  pub faults : ℕ

-- each fault is counted, up to the last number of 64 bits, and memory is never wanted
abbrev pub CountsFault : KnownFile → KnownFile → Result Unit DiskFault → Type 0
CountsFault old new (Ok _) = new.faults ≡ old.faults
CountsFault old new (Err Failed) = new.faults ≡ one_more old.faults
CountsFault old new (Err NoMemory) = ⊥

-- it tells no events, so that nothing is left to show of its length
pub sized_untold : (len changes : ℕ) (events : List Event) → Unrecorded changes ≡ Recorded events
    → len ≡ length (content events)
sized_untold len changes events told = absurd cc
