-- A number gives its bytes, and its bytes give the number.
use Rattle.std.proofs.Common.{◌≡◌, ℕ, zero, suc, ◌+◌, ◌-◌, ◌^◌, ◌≤◌, ◌<◌, List, [], ◌++◌, length, take, drop, refl, sym}
use Rattle.std.proofs.Common.{ap, ◌∙◌, arith, inl, inr, lit<}
use Rattle.std.specs.Int.{bytes_low_first}
use Rattle.std.proofs.lemmas.Bool.{cases_lt}
use Rattle.std.proofs.lemmas.List.{drop-drop, drop_at, get_or_append_left, get_or-append_right, get_or-drop}
use Rattle.std.proofs.lemmas.List.{get_or_past, get_or-replicate, get_or-take, length-drop, length-replicate}
use Rattle.std.proofs.lemmas.List.{length-take}
use Rattle.std.proofs.lemmas.Nat.{le_bytes_4, le_bytes_8}
use Rattle.byteorder.specs.Endian.{little_bytes, little_number}
use Rattle.byteorder.specs.Numbers.{little_from-lt, little_number-reads_back}
use Rattle.qg_num.specs.Fields.{IsBytes, u16_bytes, u32_bytes, u64_bytes, u32_at, u64_at, zeros}

-- ---- how many bytes a number has

pub length-u64_bytes : (n : ℕ) → length (u64_bytes n) ≡ 8
unfolding u64_bytes
length-u64_bytes n = refl

pub length-u32_bytes : (n : ℕ) → length (u32_bytes n) ≡ 4
unfolding u32_bytes
length-u32_bytes n = refl

-- ---- which lists are bytes

pub IsBytes-drop : (n : ℕ) (bytes : List ℕ) → IsBytes bytes → IsBytes (drop n bytes)
IsBytes-drop n bytes are i = rw get_or-drop (are (n + i))

pub IsBytes-take : (n : ℕ) (bytes : List ℕ) → IsBytes bytes → IsBytes (take n bytes)
IsBytes-take n bytes are i = elim (cases_lt i n) [
  | inl before ↦ rw (get_or-take n bytes i 0 before) (are i)
  | inr behind ↦ rw (get_or_past (take n bytes) i 0 (omega (arith, length-take n bytes))) (omega arith)
]

pub IsBytes-append : (front back : List ℕ) → IsBytes front → IsBytes back → IsBytes (front ++ back)
IsBytes-append front back first second i = elim (cases_lt i (length front)) [
  | inl before ↦ rw (get_or_append_left front back 0 i before) (first i)
  | inr behind ↦ rw (get_or-append_right front back (length front) i 0 refl behind) (second (i - length front))
]

pub IsBytes-zeros : (n : ℕ) → IsBytes (zeros n)
IsBytes-zeros n i = elim (cases_lt i n) [
  | inl before ↦ rw (get_or-replicate {A = ℕ} n i 0 0 before) (omega arith)
  | inr behind ↦ rw (get_or_past (zeros n) i 0 (omega (arith, length-replicate {A = ℕ} n 0))) (omega arith)
]

low_bytes : (k n m : ℕ) → IsBytes (bytes_low_first k n m)
low_bytes k zero m i = omega arith
low_bytes zero (suc n) m zero = omega arith
low_bytes (suc k) (suc n) m zero = omega arith
low_bytes k (suc n) m (suc i) = low_bytes (suc k) n m i

pub IsBytes-u64_bytes : (n : ℕ) → IsBytes (u64_bytes n)
unfolding u64_bytes
IsBytes-u64_bytes n = low_bytes 0 8 n

pub IsBytes-u32_bytes : (n : ℕ) → IsBytes (u32_bytes n)
unfolding u32_bytes
IsBytes-u32_bytes n = low_bytes 0 4 n

pub IsBytes-u16_bytes : (n : ℕ) → IsBytes (u16_bytes n)
unfolding u16_bytes
IsBytes-u16_bytes n = low_bytes 0 2 n

-- ---- a number that was written is read

pub u64_at-u64_bytes : (place n : ℕ) (front rest : List ℕ) → length front ≡ place → n < 2 ^ 64
    → u64_at place (front ++ (u64_bytes n ++ rest)) ≡ n
unfolding u64_at u64_bytes
u64_at-u64_bytes place n front rest long fits =
    ap (little_number 8) (drop_at front (little_bytes 8 n ++ rest) place long) ∙ little_number-reads_back 8 n rest fits

pub u32_at-u32_bytes : (place n : ℕ) (front rest : List ℕ) → length front ≡ place → n < 2 ^ 32
    → u32_at place (front ++ (u32_bytes n ++ rest)) ≡ n
unfolding u32_at u32_bytes
u32_at-u32_bytes place n front rest long fits =
    ap (little_number 4) (drop_at front (little_bytes 4 n ++ rest) place long) ∙ little_number-reads_back 4 n rest fits

-- two numbers with the same bytes are one
pub u64_bytes_cancel : (m n : ℕ) → m < 2 ^ 64 → n < 2 ^ 64 → u64_bytes m ≡ u64_bytes n → m ≡ n
u64_bytes_cancel m n fits_m fits_n same =
    sym (u64_at-u64_bytes 0 m [] [] refl fits_m) ∙ ap (λ (bytes : List ℕ). u64_at 0 (bytes ++ [])) same
    ∙ u64_at-u64_bytes 0 n [] [] refl fits_n

pub u32_bytes_cancel : (m n : ℕ) → m < 2 ^ 32 → n < 2 ^ 32 → u32_bytes m ≡ u32_bytes n → m ≡ n
u32_bytes_cancel m n fits_m fits_n same =
    sym (u32_at-u32_bytes 0 m [] [] refl fits_m) ∙ ap (λ (bytes : List ℕ). u32_at 0 (bytes ++ [])) same
    ∙ u32_at-u32_bytes 0 n [] [] refl fits_n

-- ---- a number that was read gives its bytes back

eight : (bytes : List ℕ) → IsBytes bytes → 8 ≤ length bytes → little_bytes 8 (little_number 8 bytes) ≡ take 8 bytes
eight bytes are long =
    le_bytes_8 (take 8 bytes) (little_number 8 bytes) (omega (arith, length-take 8 bytes)) (IsBytes-take 8 bytes are)
    (omega (
      arith,
      get_or-take 8 bytes 0 0 (lit< tt),
      get_or-take 8 bytes 1 0 (lit< tt),
      get_or-take 8 bytes 2 0
          (lit< tt),
      get_or-take 8 bytes 3 0 (lit< tt),
      get_or-take 8 bytes 4 0 (lit< tt),
      get_or-take 8 bytes 5 0
          (lit< tt),
      get_or-take 8 bytes 6 0 (lit< tt),
      get_or-take 8 bytes 7 0 (lit< tt),
    ))

four : (bytes : List ℕ) → IsBytes bytes → 4 ≤ length bytes → little_bytes 4 (little_number 4 bytes) ≡ take 4 bytes
four bytes are long =
    le_bytes_4 (take 4 bytes) (little_number 4 bytes) (omega (arith, length-take 4 bytes)) (IsBytes-take 4 bytes are)
    (omega (
      arith,
      get_or-take 4 bytes 0 0 (lit< tt),
      get_or-take 4 bytes 1 0 (lit< tt),
      get_or-take 4 bytes 2 0
          (lit< tt),
      get_or-take 4 bytes 3 0 (lit< tt),
    ))

pub u64_bytes-u64_at : (place : ℕ) (bytes : List ℕ) → IsBytes bytes → place + 8 ≤ length bytes
    → u64_bytes (u64_at place bytes) ≡ take 8 (drop place bytes)
unfolding u64_bytes u64_at
u64_bytes-u64_at place bytes are within = eight (drop place bytes) (IsBytes-drop place bytes are)
    (omega (arith, length-drop place bytes))

pub u32_bytes-u32_at : (place : ℕ) (bytes : List ℕ) → IsBytes bytes → place + 4 ≤ length bytes
    → u32_bytes (u32_at place bytes) ≡ take 4 (drop place bytes)
unfolding u32_bytes u32_at
u32_bytes-u32_at place bytes are within = four (drop place bytes) (IsBytes-drop place bytes are)
    (omega (arith, length-drop place bytes))

-- a number that was read is in range
pub u64_at-lt : (place : ℕ) (bytes : List ℕ) → IsBytes bytes → u64_at place bytes < 2 ^ 64
unfolding u64_at
u64_at-lt place bytes are = little_from-lt 0 8 (drop place bytes) (IsBytes-drop place bytes are)

pub u32_at-lt : (place : ℕ) (bytes : List ℕ) → IsBytes bytes → u32_at place bytes < 2 ^ 32
unfolding u32_at
u32_at-lt place bytes are = little_from-lt 0 4 (drop place bytes) (IsBytes-drop place bytes are)

-- ---- a number in a part of a text

pub u64_at-drop : (place from : ℕ) (bytes : List ℕ) → u64_at place (drop from bytes) ≡ u64_at (from + place) bytes
unfolding u64_at
u64_at-drop place from bytes = ap (little_number 8) (drop-drop place from bytes)

pub u32_at-drop : (place from : ℕ) (bytes : List ℕ) → u32_at place (drop from bytes) ≡ u32_at (from + place) bytes
unfolding u32_at
u32_at-drop place from bytes = ap (little_number 4) (drop-drop place from bytes)
