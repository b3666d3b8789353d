-- What a buffer shows of a disk (this project's own).
use Rattle.std.specs.Prelude.{◌≡◌, ℕ, ◌+◌, ◌<◌, List, length, slice_index}

-- the buffer has what the bytes are from a place on, and 0 past their end
pub record Shows (start : ℕ) (bytes buf : List ℕ) : Type 0 where
  pub each : (k : ℕ) → k < length buf → slice_index buf k ≡ slice_index bytes (start + k)
