-- The fields of a text of bytes: numbers with the lowest byte first, and zeros (on-disk format, "all fields are
-- little-endian").
use Rattle.std.specs.Prelude.{ℕ, ◌<◌, List, drop, replicate, slice_index, slice_range, Bool, ◌==◌}
use Rattle.std.specs.List.{list_all}
use Rattle.byteorder.specs.Endian.{little_bytes, little_number}

-- each number of the list is a byte
abbrev pub IsBytes : List ℕ → Type 0
IsBytes bytes = (i : ℕ) → slice_index bytes i < 256

-- a number in 8 bytes
unfoldable pub u64_bytes : ℕ → List ℕ
u64_bytes n = little_bytes 8 n

-- a number in 4 bytes
unfoldable pub u32_bytes : ℕ → List ℕ
u32_bytes n = little_bytes 4 n

-- a number in 2 bytes
unfoldable pub u16_bytes : ℕ → List ℕ
u16_bytes n = little_bytes 2 n

-- n bytes of 0
abbrev pub zeros : ℕ → List ℕ
zeros n = replicate n 0

-- the number in the 8 bytes from a place on
unfoldable pub u64_at : ℕ → List ℕ → ℕ
u64_at place bytes = little_number 8 (drop place bytes)

-- the number in the 4 bytes from a place on
unfoldable pub u32_at : ℕ → List ℕ → ℕ
u32_at place bytes = little_number 4 (drop place bytes)

-- the bytes from one place to another are 0
abbrev pub is_zero : ℕ → ℕ → List ℕ → Bool
is_zero from to bytes = list_all (λ byte. byte == 0) (slice_range bytes from to)
