-- A disk in memory that fails where it is told to (this project's own).
use Rattle.std.specs.Prelude.{◌≡◌, ℕ, ◌+◌, ◌-◌, ◌^◌, min, Bool, true, false, ◌||◌, nat_lt, ◌==◌, List, [], ◌∷◌, ◌++◌}
use Rattle.std.specs.Prelude.{length, count_by, Result, Ok, Err}
use Rattle.std.specs.List.{list_any}
use Rattle.qg_device.specs.History.{History, Recorded}
use Rattle.qg_disk.specs.Call.{history_of, size_of}
use Rattle.qg_disk.specs.declared.call.Request.{Request}
use Rattle.qg_disk.specs.declared.call.Call.{Call}
use Rattle.qg_disk.specs.declared.fault.DiskFault.{DiskFault}
use Rattle.qg_disk.specs.declared.fault.DiskFault.TheVariants.{Failed, NoMemory}

-- what such a disk is
pub record MemoryDisk : Type 0 where
  -- the calls that it answered, the oldest first
  pub calls : List Call
  -- the numbers of the calls that are to fail, the first call being 1
  pub failing : List ℕ
  -- the last call that may do anything but fail
  pub last : ℕ

-- it tells what was done to it, the newest first
abbrev pub memory_history : MemoryDisk → History
memory_history disk = Recorded (history_of disk.calls)

-- its size in bytes is that of what it holds
abbrev pub memory_size : MemoryDisk → ℕ
memory_size disk = size_of disk.calls

-- how many of its calls have failed, up to the last number of 64 bits
abbrev pub memory_faults : MemoryDisk → ℕ
memory_faults disk = min (count_by (λ call. call.failed) disk.calls) (2 ^ 64 - 1)

-- whether the next call is to fail
unfoldable pub fails_next : MemoryDisk → Bool
fails_next disk =
    let number = length disk.calls + 1 in nat_lt disk.last number || list_any (λ n. n == number) disk.failing

-- the disk once a call was answered
abbrev pub with_call : Request → Bool → MemoryDisk → MemoryDisk
with_call request failed disk =
    record {
      calls = disk.calls ++ record { request = request; failed = failed } ∷ [];
      failing = disk.failing;
      last = disk.last;
    }

-- A call is answered by Failed exactly where it is to fail, and recorded with its answer. For want of memory it is not
-- made: it has no number, and the disk is as it was.
abbrev pub Answers : MemoryDisk → MemoryDisk → Request → Result Unit DiskFault → Type 0
Answers old new request (Ok _) = (fails_next old ≡ false) × (new ≡ with_call request false old)
Answers old new request (Err Failed) = (fails_next old ≡ true) × (new ≡ with_call request true old)
Answers old new request (Err NoMemory) = new ≡ old
