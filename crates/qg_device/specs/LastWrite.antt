-- Which write to a place was the last to begin, and what the place held before it (this project's own).
--
-- A place is a number of bytes of a disk from an offset on. Places and lengths are in bytes.
use Rattle.std.specs.Prelude.{ℕ, ◌+◌, ◌-◌, Bool, ◌&&◌, nat_lt, max, min, List, length, Option, Some, None}
use Rattle.std.specs.List.{find}
use Rattle.qg_device.specs.History.{Event, Begun, begun, content, overlay, range}
use Rattle.qg_device.specs.CrashSince.{events_by}

-- n bytes from `place` on and m bytes from `at` on have a byte in common
abbrev pub meets : ℕ → ℕ → ℕ → ℕ → Bool
meets place n at m = nat_lt (max place at) (min (place + n) (at + m))

-- the last of all writes that have begun that is to some of n bytes from `place` on, if one has begun since a moment
abbrev pub last_write : ℕ → ℕ → ℕ → List Event → Option Begun
last_write place n since events =
    find (λ (write : Begun). nat_lt since write.moment && meets place n write.at (length write.bytes)) (begun events)

-- what a place held before a write to it, and what it holds once all of that is written
pub record Rewriting : Type 0 where
  pub old : List ℕ
  pub new : List ℕ

-- of a write that has begun, what n bytes from `place` on were before it, and what they are with its bytes over them;
-- where it is a write of the whole place, these are its bytes
abbrev pub rewriting_by : ℕ → ℕ → List Event → Begun → Rewriting
rewriting_by place n events write =
    let before = content (events_by (write.moment - 1) events) in
    record { old = range place n before; new = range place n (overlay write.at write.bytes before) }

-- of n bytes that no write is to, both are what they were at a moment
abbrev pub unwritten : ℕ → ℕ → ℕ → List Event → Rewriting
unwritten place n since events =
    let bytes = range place n (content (events_by since events)) in record { old = bytes; new = bytes }

-- what n bytes from `place` on were before the last write to them, and are once it is done; where none has begun since
-- that moment, both are what they were then
abbrev pub last_rewriting : ℕ → ℕ → ℕ → List Event → Rewriting
last_rewriting place n since events =
    elim (last_write place n since events) [
      | None ↦ unwritten place n since events
      | Some write ↦ rewriting_by place n events write
    ]
