-- What a crash leaves of bytes that no event since a sync has touched (this project's own). Places and lengths are in
-- bytes.
use Rattle.std.specs.Prelude.{◌≡◌, ℕ, ◌+◌, ◌≤◌, false, All, max, List, ◌∷◌, ◌++◌, length}
use Rattle.qg_device.specs.History.{Event, Wrote, Tore, Cut, CutShort, Synced, content, range}
use Rattle.qg_device.specs.Crash.{Leaves}
use Rattle.qg_device.specs.LastWrite.{meets}

-- the event touches none of n bytes from `place` on: a write has no byte in common with them, a cut is behind them
abbrev pub Spares : ℕ → ℕ → Event → Type 0
Spares place n (Wrote at bytes) = meets place n at (length bytes) ≡ false
Spares place n (Tore at asked left) = meets place n at (max (length asked) (length left)) ≡ false
Spares place n (Cut len) = place + n ≤ len
Spares place n (CutShort len left) = place + n ≤ len
Spares place n Synced = Unit {0}

-- where events that touch none of these bytes came behind a sync, and the disk had the bytes then, any image that a
-- crash may leave has them
abbrev pub SparedStays : Type 0
SparedStays = (place n : ℕ) (newer older : List Event) (image : List ℕ) → All (Spares place n) newer
    → place + n ≤ length (content older)
    → Leaves (newer ++ Synced ∷ older) image → range place n image ≡ range place n (content older)
