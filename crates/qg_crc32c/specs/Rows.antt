-- Rows of 32 bytes (this project's own).
use Rattle.std.specs.Prelude.{◌≡◌, ℕ, ◌/◌, ◌%◌, ◌<◌, List, ◌++◌, length, slice_index, replicate, bit_xor}
use Rattle.std.specs.Int.{w32, to_le_bytes}

-- 32 bytes
pub record IsRow (row : List ℕ) : Type 0 where
  pub len : length row ≡ 32
  pub bytes : (place : ℕ) → slice_index row place < 256

-- what the tables of its two halves make of a byte
abbrev pub by_halves : List ℕ → List ℕ → ℕ → ℕ
by_halves low high byte = bit_xor (slice_index low (byte % 16)) (slice_index high (byte / 16))

-- a register in the first four bytes of a row, its lowest byte first
abbrev pub row_of_register : ℕ → List ℕ
row_of_register register = to_le_bytes w32 register ++ replicate 28 0
