-- A word of eight bytes, looked up byte by byte from its last to its first.
use Rattle.std.proofs.Common.{◌≡◌, ℕ, ◌+◌, ◌-◌, ◌*◌, ◌/◌, ◌%◌, ◌^◌, ◌<◌, List, [], ◌∷◌, length, get_or, refl, sym, ap}
use Rattle.std.proofs.Common.{◌∙◌, arith}
use Rattle.std.specs.Prelude.{bit_xor}
use Rattle.std.specs.Int.{w64, from_le_bytes}
use Rattle.std.proofs.lemmas.Nat.{xor_comm, xor_shr, shr-shr}
use Rattle.std.specs.Int.Bits.{xor_zero_r}
use Rattle.qg_crc32c.specs.Crc32c.{shifts, remainder}
use Rattle.qg_crc32c.proofs.Shifts.{shifts-split, shifts-none, shifts-zero}
use Rattle.qg_crc32c.proofs.Remainders.{number, remainder-number}
use Rattle.qg_crc32c.proofs.ByteTables.{AFTER_at}
use Rattle.qg_crc32c.specs.declared.byte_tables.TheConstants.{AFTER}

-- no byte yet
pub no_byte : (word : ℕ) → word < 2 ^ 64 → 0 ≡ shifts 0 (word / 2 ^ 64)
no_byte word fits = let none : word / 2 ^ 64 ≡ 0 = omega arith in sym (ap (shifts 0) none ∙ shifts-zero 0)

-- the byte at a place, the last at place 0, joins those behind it
pub one_more_byte : (word place result : ℕ) (d : List ℕ) → place < 8
    → result ≡ shifts (8 * place) (word / 2 ^ (64 - 8 * place))
    → bit_xor result (get_or (get_or AFTER place d) (word / 2 ^ (56 - 8 * place) % 256) 0) ≡ shifts (8 * (place + 1))
    (word / 2 ^ (64 - 8 * (place + 1)))
one_more_byte word place result d lt before =
    let here : 64 - 8 * (place + 1) ≡ 56 - 8 * place = omega arith in
    let above : 64 - 8 * place ≡ 56 - 8 * place + 8 = omega arith in
    let more : 8 * (place + 1) ≡ 8 * place + 8 = omega arith in
    let high = word / 2 ^ (56 - 8 * place) in
    rw (here, more, before, above, ← shr-shr word (56 - 8 * place) 8, AFTER_at place d (high % 256) lt (omega arith))
    (xor_comm (shifts (8 * place) (high / 256)) (shifts (8 * place + 8) (high % 256))
    ∙ sym (shifts-split (8 * place) high))

-- all eight bytes
pub all_bytes : (word place result : ℕ) → place ≡ 8 → result ≡ shifts (8 * place) (word / 2 ^ (64 - 8 * place))
    → result ≡ shifts 64 word
all_bytes word place result e is = is ∙ rw e (ap (shifts 64) (omega arith))

from_le_bytes-number : (bytes : List ℕ) → length bytes ≡ 8 → from_le_bytes w64 bytes ≡ number bytes
from_le_bytes-number (a ∷ b ∷ c ∷ d ∷ e ∷ f ∷ g ∷ h ∷ []) long = omega arith
from_le_bytes-number (a ∷ b ∷ c ∷ d ∷ e ∷ f ∷ g ∷ h ∷ i ∷ bytes) long = absurd (omega arith)
from_le_bytes-number (a ∷ b ∷ c ∷ d ∷ e ∷ f ∷ g ∷ []) long = absurd (omega arith)
from_le_bytes-number (a ∷ b ∷ c ∷ d ∷ e ∷ f ∷ []) long = absurd (omega arith)
from_le_bytes-number (a ∷ b ∷ c ∷ d ∷ e ∷ []) long = absurd (omega arith)
from_le_bytes-number (a ∷ b ∷ c ∷ d ∷ []) long = absurd (omega arith)
from_le_bytes-number (a ∷ b ∷ c ∷ []) long = absurd (omega arith)
from_le_bytes-number (a ∷ b ∷ []) long = absurd (omega arith)
from_le_bytes-number (a ∷ []) long = absurd (omega arith)
from_le_bytes-number [] long = absurd (omega arith)

-- a word is divided as its number is
pub remainder-word : (register number_of_word : ℕ) (word : List ℕ) → length word ≡ 8 → ((k : ℕ) → get_or word k 0 < 256)
    → number_of_word ≡ from_le_bytes w64 word
    → remainder register word ≡ shifts 64 (bit_xor register number_of_word)
remainder-word register number_of_word word long fits is =
    let bits : 8 * length word ≡ 64 = omega arith in
    remainder-number register word fits ∙ rw (bits, is, from_le_bytes-number word long) refl

-- one byte
pub remainder-byte : (register byte : ℕ) → byte < 256 → (d : List ℕ)
    → remainder register (byte ∷ []) ≡ bit_xor (get_or (get_or AFTER 0 d) (bit_xor register byte % 256) 0)
    (register / 256)
unfolding remainder
remainder-byte register byte fits d =
    let small : byte / 2 ^ 8 ≡ 0 = omega arith in
    let high : bit_xor register byte / 256 ≡ register / 256 = xor_shr register byte 8
    ∙ rw (small, xor_zero_r (register / 2 ^ 8)) refl in
    shifts-split 0 (bit_xor register byte)
    ∙ rw (
      high,
      shifts-none (register / 256),
      AFTER_at 0 d (bit_xor register byte % 256) (omega arith)
          (omega arith),
    ) refl
