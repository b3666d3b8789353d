-- Texts that are put together of bytes, zeros and numbers are bytes.
use Rattle.std.proofs.Common.{ℕ, zero, suc, ◌<◌, List, [], ◌∷◌, ◌++◌, lit<}
use Rattle.qg_num.specs.Fields.{IsBytes, zeros, u16_bytes, u32_bytes, u64_bytes}
use Rattle.qg_num.proofs.Numbers.{IsBytes-append, IsBytes-zeros, IsBytes-u64_bytes, IsBytes-u32_bytes}
use Rattle.qg_num.proofs.Numbers.{IsBytes-u16_bytes}

-- a record, so that lists are found from the facts
pub record AreBytes (bytes : List ℕ) : Type 0 where
  pub are : IsBytes bytes

pub append : {front back : List ℕ} → AreBytes front → AreBytes back → AreBytes (front ++ back)
append {front} {back} first second = record { are = IsBytes-append front back first.are second.are }

one_byte : (byte : ℕ) → byte < 256 → IsBytes (byte ∷ [])
one_byte byte small zero = small
one_byte byte small (suc i) = lit< tt

pub of_byte : (byte : ℕ) → byte < 256 → AreBytes (byte ∷ [])
of_byte byte small = record { are = one_byte byte small }

pub of_zeros : (n : ℕ) → AreBytes (zeros n)
of_zeros n = record { are = IsBytes-zeros n }

pub of_u64 : (n : ℕ) → AreBytes (u64_bytes n)
of_u64 n = record { are = IsBytes-u64_bytes n }

pub of_u32 : (n : ℕ) → AreBytes (u32_bytes n)
of_u32 n = record { are = IsBytes-u32_bytes n }

pub of_u16 : (n : ℕ) → AreBytes (u16_bytes n)
of_u16 n = record { are = IsBytes-u16_bytes n }
