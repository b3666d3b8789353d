-- The first four rows of a text, with a register laid over them.
use Rattle.std.proofs.Common.{◌≡◌, ℕ, zero, suc, ◌+◌, ◌*◌, ◌^◌, ◌<◌, ◌≤◌, inl, inr, List, ◌++◌, length, drop, get_or}
use Rattle.std.proofs.Common.{replicate, refl, sym, ap, ◌∙◌, arith, w32}
use Rattle.std.specs.Prelude.{bit_xor}
use Rattle.std.specs.Int.{to_le_bytes}
use Rattle.std.specs.Int.Bits.{xor_assoc, xor_zero_l, xor_zero_r}
use Rattle.std.specs.Simd.Lanes.{zip2, chunk}
use Rattle.std.proofs.lemmas.Bool.{cases_lt}
use Rattle.std.proofs.lemmas.List.{get_or_past, drop_all, append-nil}
use Rattle.std.proofs.lemmas.Simd.{length-chunk, get_or-chunk, chunk-drop, length-replicate}
use Rattle.qg_crc32c.specs.Crc32c.{shifts, remainder}
use Rattle.qg_crc32c.specs.Rows.{IsRow, row_of_register}
use Rattle.qg_crc32c.proofs.Shifts.{shifts-xor, shifts-zero, shifts-add}
use Rattle.qg_crc32c.proofs.Remainders.{number, remainder-append, remainder-apart, remainder-number, remainder-zip2}
use Rattle.qg_crc32c.proofs.Spread.{spread, remainder-spread}

pub row-chunk : (i : ℕ) (xs : List ℕ) → ((k : ℕ) → get_or xs k 0 < 256) → i + 32 ≤ length xs → IsRow (chunk i 32 xs)
row-chunk i xs fits le =
    let long : length (chunk i 32 xs) ≡ 32 = length-chunk i 32 xs le in record {
      len = long;
      bytes = λ k. elim (cases_lt k 32) [
        | inl lt ↦ omega (arith, get_or-chunk i 32 xs k 0 lt, fits (i + k))
        | inr ge ↦ omega (arith, get_or_past (chunk i 32 xs) k 0 (omega arith))
      ];
    }

zeros_fit : (n k : ℕ) → get_or (replicate n 0) k 0 < 256
zeros_fit zero k = omega arith
zeros_fit (suc n) zero = omega arith
zeros_fit (suc n) (suc k) = zeros_fit n k

register_fits : (register k : ℕ) → get_or (to_le_bytes w32 register) k 0 < 256
register_fits register zero = omega arith
register_fits register (suc zero) = omega arith
register_fits register (suc (suc zero)) = omega arith
register_fits register (suc (suc (suc zero))) = omega arith
register_fits register (suc (suc (suc (suc k)))) = omega arith

row_of_register_fits : (register k : ℕ) → get_or (row_of_register register) k 0 < 256
row_of_register_fits register zero = omega arith
row_of_register_fits register (suc zero) = omega arith
row_of_register_fits register (suc (suc zero)) = omega arith
row_of_register_fits register (suc (suc (suc zero))) = omega arith
row_of_register_fits register (suc (suc (suc (suc k)))) = zeros_fit 28 k

pub row_of_register_is : (register : ℕ) → IsRow (row_of_register register)
row_of_register_is register = record { len = refl; bytes = row_of_register_fits register }

remainder-only_zeros : (n : ℕ) → remainder 0 (replicate n 0) ≡ 0
unfolding remainder
remainder-only_zeros zero = refl
remainder-only_zeros (suc n) = ap (λ (z : ℕ). remainder z (replicate n 0)) (shifts-zero 8) ∙ remainder-only_zeros n

-- zeros shift what was there before
remainder-zeros : (r n : ℕ) → remainder r (replicate n 0) ≡ shifts (8 * n) r
remainder-zeros r n =
    let zeros : List ℕ = replicate n 0 in
    let long : length zeros ≡ n = length-replicate n 0 in
    remainder-apart r zeros ∙ rw (remainder-only_zeros n, xor_zero_r (shifts (8 * length zeros) r), long) refl

pub remainder-row_of_register : (register : ℕ) → register < 2 ^ 32
    → remainder 0 (row_of_register register) ≡ shifts 256 register
remainder-row_of_register register fits =
    let whole : number (to_le_bytes w32 register) ≡ register = omega arith in
    remainder-append 0 (to_le_bytes w32 register) (replicate 28 0)
    ∙ remainder-zeros (remainder 0 (to_le_bytes w32 register)) 28
    ∙ ap (shifts 224) (remainder-number 0 (to_le_bytes w32 register) (register_fits register)
    ∙ ap (shifts 32) (xor_zero_l (number (to_le_bytes w32 register)) ∙ whole)) ∙ sym (shifts-add 32 224 register)

four_chunks : (front : List ℕ) → length front ≡ 128
    → chunk 0 32 front ++ (chunk 32 32 front ++ (chunk 64 32 front ++ chunk 96 32 front)) ≡ front
four_chunks front long =
    let last : drop 96 front ≡ chunk 96 32 front = chunk-drop 96 32 front
    ∙ ap (λ (l : List ℕ). chunk 96 32 front ++ l) (drop_all 128 front (omega arith))
    ∙ append-nil (chunk 96 32 front) in
    sym (chunk-drop 0 32 front ∙ ap (λ (l : List ℕ). chunk 0 32 front ++ l) (chunk-drop 32 32 front
    ∙ ap (λ (l : List ℕ). chunk 32 32 front ++ l) (chunk-drop 64 32 front
    ∙ ap (λ (l : List ℕ). chunk 64 32 front ++ l) last)))

-- what is laid over the first row is what was there before the text
pub remainder-first_rows : (register : ℕ) (over front : List ℕ) → IsRow over → remainder 0 over ≡ shifts 256 register
    → ((k : ℕ) → get_or front k 0 < 256) → length front ≡ 128
    → remainder 0 (zip2 bit_xor over (chunk 0 32 front)
    ++ (chunk 32 32 front ++ (chunk 64 32 front ++ chunk 96 32 front))) ≡ remainder register front
remainder-first_rows register over front is worth fits long =
    let first = row-chunk 0 front fits (omega arith) in
    let second = row-chunk 32 front fits (omega arith) in
    let third = row-chunk 64 front fits (omega arith) in
    let fourth = row-chunk 96 front fits (omega arith) in
    let r1 = remainder 0 (chunk 0 32 front) in
    let r2 = remainder 0 (chunk 32 32 front) in
    let r3 = remainder 0 (chunk 64 32 front) in
    let r4 = remainder 0 (chunk 96 32 front) in
    let bits : 8 * length front ≡ 1024 = omega arith in
    remainder-spread (zip2 bit_xor over (chunk 0 32 front)) (chunk 32 32 front) (chunk 64 32 front)
    (chunk 96 32 front) second.len third.len fourth.len
    ∙ ap (λ (z : ℕ). spread z r2 r3 r4) (remainder-zip2 over (chunk 0 32 front) (is.len ∙ sym first.len)
    ∙ ap (λ (z : ℕ). bit_xor z r1) worth)
    ∙ rw (shifts-xor 768 (shifts 256 register) r1, ← shifts-add 256 768 register)
    (xor_assoc (shifts 1024 register) (shifts 768 r1) (bit_xor (shifts 512 r2) (bit_xor (shifts 256 r3) r4)))
    ∙ ap (bit_xor (shifts 1024 register))
    (sym (remainder-spread (chunk 0 32 front) (chunk 32 32 front) (chunk 64 32 front) (chunk 96 32 front) second.len
    third.len fourth.len) ∙ ap (remainder 0) (four_chunks front long))
    ∙ ap (λ (n : ℕ). bit_xor (shifts n register) (remainder 0 front)) (sym bits) ∙ sym (remainder-apart register front)
