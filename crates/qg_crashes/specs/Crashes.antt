-- What a crash may leave as events come, and the last write to a place (this project's own).
use Rattle.std.specs.Prelude.{◌≡◌, ◌≢◌, ℕ, ◌<◌, ◌≤◌, List, ◌∷◌, length}
use Rattle.qg_device.specs.History.{Event, Wrote, Tore, Synced, content, range}
use Rattle.qg_device.specs.Crash.{Leaves}
use Rattle.qg_device.specs.LastWrite.{last_rewriting}

-- an image that a crash may leave it may still leave after one event more, unless that is a sync
abbrev pub StaysLeft : Type 0
StaysLeft = (event : Event) (older : List Event) (image : List ℕ) → event ≢ Synced → Leaves older image
    → Leaves (event ∷ older) image

-- after a write of a whole place, which is no earlier than the moment from which on is asked, the place held this
-- before it, and the new bytes are those of the write; so it is after one that failed, whatever it left
pub record IsRewriting (place since : ℕ) (bytes : List ℕ) (older : List Event) : Type 0 where
  pub done : last_rewriting place (length bytes) since (Wrote place bytes ∷ older)
      ≡ record { old = range place (length bytes) (content older); new = bytes }
  pub failed : (left : List ℕ)
      → last_rewriting place (length bytes) since (Tore place bytes left ∷ older)
      ≡ record { old = range place (length bytes) (content older); new = bytes }

-- so it is for each write of some bytes
abbrev pub IsOfWholePlace : Type 0
IsOfWholePlace = (place since : ℕ) (bytes : List ℕ) (older : List Event) → 0 < length bytes → since ≤ length older
    → IsRewriting place since bytes older
