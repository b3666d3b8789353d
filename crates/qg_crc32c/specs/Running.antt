-- A checksum of bytes that come in pieces (this project's own).
use Rattle.std.specs.Prelude.{◌≡◌, ℕ, List}
use Rattle.qg_crc32c.specs.Crc32c.{remainder}

-- the remainder so far is that of these bytes
pub record HasTaken (so_far : ℕ) (bytes : List ℕ) : Type 0 where
  pub is : so_far ≡ remainder 0xFFFFFFFF bytes
