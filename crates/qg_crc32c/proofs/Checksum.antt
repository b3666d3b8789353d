-- A checksum takes 32 bits.
use Rattle.std.proofs.Common.{ℕ, zero, suc, ◌/◌, ◌^◌, ◌<◌, inl, inr, List, [], ◌∷◌, get_or, arith}
use Rattle.std.specs.Prelude.{bit_xor}
use Rattle.std.proofs.lemmas.Nat.{xor_lt}
use Rattle.qg_crc32c.specs.Crc32c.{shift, shifts, remainder, crc32c_of}
use Rattle.qg_crc32c.proofs.Shifts.{parity, shift-even, shift-odd}

shift-lt : (r : ℕ) → r < 2 ^ 32 → shift r < 2 ^ 32
shift-lt r fits =
    elim (parity r) [
      | inl even ↦ omega (arith, shift-even r even)
      | inr odd ↦ omega (arith, shift-odd r odd, xor_lt 32 (r / 2) 0x82F63B78 (omega arith) (omega arith))
    ]

shifts-lt : (n r : ℕ) → r < 2 ^ 32 → shifts n r < 2 ^ 32
unfolding shifts
shifts-lt zero r fits = fits
shifts-lt (suc n) r fits = shifts-lt n (shift r) (shift-lt r fits)

remainder-lt : (r : ℕ) (bytes : List ℕ) → r < 2 ^ 32 → ((k : ℕ) → get_or bytes k 0 < 256) → remainder r bytes < 2 ^ 32
unfolding remainder
remainder-lt r [] small fits = small
remainder-lt r (b ∷ bs) small fits =
    let byte : b < 256 = fits 0 in
    remainder-lt (shifts 8 (bit_xor r b)) bs (shifts-lt 8 (bit_xor r b) (xor_lt 32 r b small (omega arith)))
    (λ k. fits (suc k))

pub crc32c_of-lt : (bytes : List ℕ) → ((k : ℕ) → get_or bytes k 0 < 256) → crc32c_of bytes < 2 ^ 32
unfolding crc32c_of
crc32c_of-lt bytes fits =
    xor_lt 32 (remainder 0xFFFFFFFF bytes) 0xFFFFFFFF (remainder-lt 0xFFFFFFFF bytes (omega arith) fits) (omega arith)
