-- CRC-32C (Castagnoli), bit by bit (on-disk format, "checksum"; the same as in RFC 3720, section 12.1).
--
-- The text is divided by the polynomial 0x11EDC6F41 over the integers modulo 2, bytes taken lowest bit first. So all
-- numbers here have their bits reversed: the polynomial is 0x82F63B78, its highest term left out, and a division moves
-- bits down.
use Rattle.std.specs.Prelude.{ℕ, zero, suc, ◌/◌, ◌%◌, ◌==◌, if◌then◌else◌, List, [], ◌∷◌, bit_xor}

-- the remainder after one more bit: all bits move down by one place, and where a 1 falls out the polynomial is taken
-- away
unfoldable pub shift : ℕ → ℕ
shift r = if r % 2 == 1 then bit_xor (r / 2) 0x82F63B78 else r / 2

-- the remainder after that many bits
unfoldable pub shifts : ℕ → ℕ → ℕ
shifts zero r = r
shifts (suc bits) r = shifts bits (shift r)

-- the remainder r after the bytes: each goes in at the lowest eight bits, and eight bits are divided
unfoldable pub remainder : ℕ → List ℕ → ℕ
remainder r [] = r
remainder r (byte ∷ bytes) = remainder (shifts 8 (bit_xor r byte)) bytes

-- the checksum of the bytes: the division starts at 0xFFFFFFFF, and its remainder is inverted
unfoldable pub crc32c_of : List ℕ → ℕ
crc32c_of bytes = bit_xor (remainder 0xFFFFFFFF bytes) 0xFFFFFFFF
