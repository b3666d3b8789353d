-- What a call that may take a slot asks, and what calls on nodes leave (this project's own). Addresses are in bytes.
use Rattle.std.specs.Prelude.{◌≡◌, ℕ, ◌<◌, List, Result, OnOk}
use Rattle.qg_device.specs.Cause.{HasCause}
use Rattle.qg_device.specs.History.{Event, History, Recorded, content}
use Rattle.qg_num.specs.declared.fault.BlockFault.{BlockFault}
use Rattle.qg_num.specs.declared.fault.BlockFault.TheVariants.{Disk}
use Rattle.qg_blocks.specs.NodesFound.{Answers, BreaksNone, IsBacked, found}
use Rattle.qg_space.specs.Holding.{free_slots}
use Rattle.qg_node_alloc.specs.declared.ground.Ground.{Ground}
use Rattle.qg_node_alloc.specs.Land.{IsDrafted, Rests}

-- clean nodes are those of the disk, fresh ones are such as the commit to come may write, and there is a free slot
pub record CanTakeSlot (land : Ground) (history : History) (generation : ℕ) : Type 0 where
  pub backed : IsBacked land.blocks history
  pub drafted : IsDrafted land generation
  pub slots : 0 < free_slots land.space

-- what is left so, whatever is answered: fresh nodes are such as a commit may write, what the last commit holds is as
-- it was, and the disk is not written
pub record LeavesBe (old new : Ground) (before after : History) (bytes left generation : ℕ) : Type 0 where
  pub rests : Rests old new after generation
  pub history : after ≡ before
  pub size : left ≡ bytes

-- where a call answers Ok, book, land and disk are as calls ask, and what stood of them between two edits stands still
pub record KeepsBook {B D T : Type 0} (Stands Settled : B → Ground → D → Type 0) (book later : B) (old new : Ground)
    (disk left : D) (result : Result T BlockFault) : Type 0 where
  pub stands : OnOk result (Stands later new left)
  pub settled : Settled book old disk → OnOk result (Settled later new left)

-- over a disk that tells a call names no rule, and it answers `Disk` exactly where the disk met a fault
pub record FailsByDisk {T : Type 0} (history : History) (before now : ℕ) (result : Result T BlockFault)
    : Type 0 where
  pub sound : (events : List Event) → history ≡ Recorded events → BreaksNone result
  pub cause : HasCause Disk before now result

-- over a disk that tells a call answers by what is found at an address, and it answers `Disk` exactly where the disk
-- met a fault
pub record FailsToRead {T : Type 0} (land : Ground) (history : History) (at before now : ℕ)
    (result : Result T BlockFault) : Type 0 where
  pub answers : (events : List Event) → history ≡ Recorded events
      → Answers result at (found land.blocks.draft (content events) at)
  pub cause : HasCause Disk before now result
