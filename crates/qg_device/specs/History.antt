-- What was done to a disk, and what it holds by that (this project's own). Places and lengths are in bytes.
use Rattle.std.specs.Prelude.{ℕ, ◌+◌, ◌-◌, ◌^◌, min, List, [], ◌∷◌, ◌++◌, length, take, drop, replicate}

-- one thing that was done to a disk
pub data Event : Type 0 where
  -- bytes were written at a place
  Wrote : (at : ℕ) (bytes : List ℕ) → Event
  -- a write of the bytes asked failed, and left these at its place; none: it changed nothing
  Tore : (at : ℕ) (asked left : List ℕ) → Event
  -- the disk was cut to a length
  Cut : (len : ℕ) → Event
  -- a cut to a length failed, and left these bytes behind it
  CutShort : (len : ℕ) (left : List ℕ) → Event
  -- what the disk holds was made sure of
  Synced : Event

-- old with these bytes at a place, a gap read as 0
abbrev pub overlay : ℕ → List ℕ → List ℕ → List ℕ
overlay at bytes old = take at old ++ replicate (at - length old) 0 ++ bytes ++ drop (at + length bytes) old

-- old with what a failed write left at its place
abbrev pub torn : ℕ → List ℕ → List ℕ → List ℕ
torn at [] old = old
torn at (byte ∷ bytes) old = overlay at (byte ∷ bytes) old

-- n bytes from a place on
abbrev pub range : ℕ → ℕ → List ℕ → List ℕ
range at n bytes = take n (drop at bytes)

-- what a disk holds after these events, the newest first
abbrev pub content : List Event → List ℕ
content [] = []
content (Wrote at bytes ∷ older) = overlay at bytes (content older)
content (Tore at asked left ∷ older) = torn at left (content older)
content (Cut len ∷ older) = take len (content older)
content (CutShort len left ∷ older) = take len (content older) ++ left
content (Synced ∷ older) = content older

-- what a disk held at one moment, the number of events by then
pub record Moment : Type 0 where
  pub moment : ℕ
  pub content : List ℕ

-- the contents at each sync that succeeded, the newest first
abbrev pub synced : List Event → List Moment
synced [] = []
synced (Wrote at bytes ∷ older) = synced older
synced (Tore at asked left ∷ older) = synced older
synced (Cut len ∷ older) = synced older
synced (CutShort len left ∷ older) = synced older
synced (Synced ∷ older) = record { moment = length older + 1; content = content older } ∷ synced older

-- a write that has begun: its place, its bytes, and the number of events with it
pub record Begun : Type 0 where
  pub at : ℕ
  pub bytes : List ℕ
  pub moment : ℕ

-- the writes that have begun, the newest first, those that failed among them
abbrev pub begun : List Event → List Begun
begun [] = []
begun (Wrote at bytes ∷ older) = record { at = at; bytes = bytes; moment = length older + 1 } ∷ begun older
begun (Tore at asked left ∷ older) = record { at = at; bytes = asked; moment = length older + 1 } ∷ begun older
begun (Cut len ∷ older) = begun older
begun (CutShort len left ∷ older) = begun older
begun (Synced ∷ older) = begun older

-- ---- what is known of it

-- what is known of what was done to a disk
pub data History : Type 0 where
  -- each event, the newest first
  Recorded : (events : List Event) → History
  -- of a disk that keeps no record: how many calls were made that may change it, which are writes and cuts
  Unrecorded : (changes : ℕ) → History

-- a count of 64 bits once one more was counted; it stands still at the last value of its type
abbrev pub one_more : ℕ → ℕ
one_more count = min (count + 1) (2 ^ 64 - 1)

-- how many calls may have changed a disk with one event more: a sync changes nothing
abbrev pub with_change : Event → ℕ → ℕ
with_change (Wrote at bytes) changes = one_more changes
with_change (Tore at asked left) changes = one_more changes
with_change (Cut len) changes = one_more changes
with_change (CutShort len left) changes = one_more changes
with_change Synced changes = changes

-- and with several more, the newest first
abbrev pub with_changes : List Event → ℕ → ℕ
with_changes [] changes = changes
with_changes (event ∷ older) changes = with_change event (with_changes older changes)

-- one event more
abbrev pub with_event : Event → History → History
with_event event (Recorded events) = Recorded (event ∷ events)
with_event event (Unrecorded changes) = Unrecorded (with_change event changes)

-- what is known after steps, each of which adds events
abbrev pub history_after : (List Event → List Event) → History → History
history_after steps (Recorded events) = Recorded (steps events)
history_after steps (Unrecorded changes) = Unrecorded (with_changes (steps []) changes)

-- this holds of the events, where they are recorded
abbrev pub IfRecorded : History → (List Event → Type 0) → Type 0
IfRecorded (Recorded events) Holds = Holds events
IfRecorded (Unrecorded changes) Holds = Unit {0}
