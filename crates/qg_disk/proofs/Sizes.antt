-- How many bytes a disk in memory has after a write.
use Rattle.std.proofs.Common.{◌≡◌, ℕ, ◌+◌, ◌≤◌, ◌/◌, max, List, [], ◌∷◌, ◌++◌, length, take, arith, Result, Ok, Err}
use Rattle.std.proofs.Common.{length-append, length-drop}
use Rattle.std.proofs.lemmas.List.{length-take, length-replicate}
use Rattle.std.proofs.lemmas.Grind.{common_steps}
use Rattle.qg_device.specs.History.{overlay, torn, content}
use Rattle.qg_disk.specs.Call.{after_request, history_of, size_of}
use Rattle.qg_disk.specs.MemDisk.{MemoryDisk, memory_size, Answers}
use Rattle.qg_disk.specs.declared.call.Call.{Call}
use Rattle.qg_disk.specs.declared.call.Request.TheVariants as request
use Rattle.qg_disk.specs.declared.fault.DiskFault.{DiskFault}
use Rattle.qg_disk.specs.declared.fault.DiskFault.TheVariants.{Failed, NoMemory}

-- bytes laid over others reach to the farther end
pub length-overlay : (at : ℕ) (bytes old : List ℕ)
    → length (overlay at bytes old) ≡ max (length old) (at + length bytes)
length-overlay at bytes old = simp (length-append, length-take, length-replicate, length-drop) (omega arith)

-- what a failed write left makes the disk no longer than its end
pub length-torn_le : (at : ℕ) (left old : List ℕ) → length (torn at left old) ≤ max (length old) (at + length left)
length-torn_le at [] old = omega arith
length-torn_le at (byte ∷ bytes) old = omega (arith, length-overlay at (byte ∷ bytes) old)

-- one call more
pub history_of-push : (calls : List Call) (call : Call)
    → history_of (calls ++ call ∷ []) ≡ after_request call.request call.failed (history_of calls)
unfolding history_of
history_of-push calls call = grind (arith, common_steps)

-- a write makes the disk no longer than its end
pub write_no_longer : (old new : MemoryDisk) (at : ℕ) (bytes : List ℕ) (result : Result Unit DiskFault)
    → Answers old new (request.Write at bytes) result → memory_size new ≤ max (memory_size old) (at + length bytes)
unfolding size_of
write_no_longer old new at bytes (Ok _) answers =
    rw (answers.1, history_of-push) (omega (arith, length-overlay at bytes (content (history_of old.calls))))
write_no_longer old new at bytes (Err Failed) answers =
    rw (answers.1, history_of-push)
    (omega (
      arith,
      length-torn_le at (take (length bytes / 2) bytes) (content (history_of old.calls)),
      length-take
          (length bytes / 2) bytes,
    ))
write_no_longer old new at bytes (Err NoMemory) answers = rw answers (omega arith)
