-- What a crash at some moment since a given one may have left of a disk (this project's own).
--
-- A moment is a number of events: by then the disk has had so many of them, the oldest ones.
use Rattle.std.specs.Prelude.{ℕ, ◌-◌, ◌≤◌, List, length, drop}
use Rattle.qg_device.specs.History.{Event}
use Rattle.qg_device.specs.Crash.{Leaves}

-- the events by a moment, the newest first
abbrev pub events_by : ℕ → List Event → List Event
events_by moment events = drop (length events - moment) events

-- a crash at this moment, which is no earlier than `since` and no later than now, may have left this image
pub record LeavesSince (since : ℕ) (events : List Event) (image : List ℕ) (moment : ℕ) : Type 0 where
  pub no_earlier : since ≤ moment
  pub no_later : moment ≤ length events
  pub leaves : Leaves (events_by moment events) image
