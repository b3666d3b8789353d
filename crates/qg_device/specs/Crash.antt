-- What a crash may leave of a disk, by what was done to it (this project's own).
--
-- Between two syncs each written range, and any part past the old end, may hold any bytes; the rest stays. After a sync
-- that succeeded a crash leaves the content.
use Rattle.std.specs.Prelude.{◌≡◌, ◌⊎◌, ℕ, ◌+◌, ◌≤◌, ◌<◌, min, max, List, [], ◌∷◌, length, slice_index}
use Rattle.qg_device.specs.History.{Event, Wrote, Tore, Cut, CutShort, Synced, content}

-- after a write of n bytes that a crash cuts short: any bytes in its range and past the old end, the same elsewhere
pub record Torn (at n : ℕ) (old new : List ℕ) : Type 0 where
  pub same : (place : ℕ) → place < length old → (place < at) ⊎ (at + n ≤ place)
      → slice_index new place ≡ slice_index old place
  pub no_shorter : length old ≤ length new
  pub no_longer : length new ≤ max (length old) (at + n)

-- after a cut to a length that a crash cuts short: any bytes behind it, no longer than before and `behind` bytes past
-- it
pub record Shortened (len behind : ℕ) (old new : List ℕ) : Type 0 where
  pub same : (place : ℕ) → place < len → place < length old → slice_index new place ≡ slice_index old place
  pub no_shorter : min len (length old) ≤ length new
  pub no_longer : length new ≤ max (length old) (len + behind)

-- a crash after these events, the newest first, may leave this image
abbrev pub Leaves : List Event → List ℕ → Type 0
Leaves [] image = image ≡ []
Leaves (Wrote at bytes ∷ older) image = (before : List ℕ) × Leaves older before × Torn at (length bytes) before image
Leaves (Tore at asked left ∷ older) image = (before : List ℕ) × Leaves older before
    × Torn at (max (length asked) (length left)) before image
Leaves (Cut len ∷ older) image = (before : List ℕ) × Leaves older before × Shortened len 0 before image
Leaves (CutShort len left ∷ older) image = (before : List ℕ) × Leaves older before
    × Shortened len (length left) before image
Leaves (Synced ∷ older) image = image ≡ content older
