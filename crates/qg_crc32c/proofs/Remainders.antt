-- Laws of the remainder of a text.
use Rattle.std.proofs.Common.{◌≡◌, ℕ, suc, ◌+◌, ◌*◌, ◌<◌, List, [], ◌∷◌, ◌++◌, length, get_or, refl, sym, ap, ◌∙◌}
use Rattle.std.proofs.Common.{arith}
use Rattle.std.specs.Prelude.{bit_xor}
use Rattle.std.specs.Int.Bits.{xor_assoc, xor_zero_l, xor_zero_r}
use Rattle.std.specs.Simd.Lanes.{zip2}
use Rattle.std.proofs.lemmas.Simd.{length-zip2}
use Rattle.qg_crc32c.specs.Crc32c.{shifts, remainder}
use Rattle.qg_crc32c.proofs.Shifts.{xor_swap, shifts-xor, shifts-none, shifts-add, shifts-byte_of_zeros, xor-above_byte}

-- a text in two parts
pub remainder-append : (r : ℕ) (a b : List ℕ) → remainder r (a ++ b) ≡ remainder (remainder r a) b
unfolding remainder
remainder-append r [] b = refl
remainder-append r (x ∷ xs) b = remainder-append (shifts 8 (bit_xor r x)) xs b

-- what was there before goes on by itself
pub remainder-xor : (a c : ℕ) (bytes : List ℕ) → remainder (bit_xor a c) bytes ≡ bit_xor (shifts (8 * length bytes) a)
    (remainder c bytes)
unfolding remainder
remainder-xor a c [] = ap (λ (z : ℕ). bit_xor z c) (sym (shifts-none a))
remainder-xor a c (b ∷ bs) =
    let n : 8 * length (b ∷ bs) ≡ 8 + 8 * length bs = omega arith in
    ap (λ (z : ℕ). remainder (shifts 8 z) bs) (xor_assoc a c b)
    ∙ ap (λ (z : ℕ). remainder z bs) (shifts-xor 8 a (bit_xor c b))
    ∙ remainder-xor (shifts 8 a) (shifts 8 (bit_xor c b)) bs
    ∙ rw (n, shifts-add 8 (8 * length bs) a) refl

pub remainder-apart : (r : ℕ) (bytes : List ℕ)
    → remainder r bytes ≡ bit_xor (shifts (8 * length bytes) r) (remainder 0 bytes)
remainder-apart r bytes = ap (λ (z : ℕ). remainder z bytes) (sym (xor_zero_r r)) ∙ remainder-xor r 0 bytes

-- the first byte goes on by itself
pub remainder-cons : (b : ℕ) (bs : List ℕ)
    → remainder 0 (b ∷ bs) ≡ bit_xor (shifts (8 + 8 * length bs) b) (remainder 0 bs)
unfolding remainder
remainder-cons b bs =
    ap (λ (z : ℕ). remainder (shifts 8 z) bs) (xor_zero_l b) ∙ remainder-apart (shifts 8 b) bs
    ∙ ap (λ (z : ℕ). bit_xor z (remainder 0 bs)) (sym (shifts-add 8 (8 * length bs) b))

-- the first part goes on by itself
pub remainder-join : (a b : List ℕ) → remainder 0 (a ++ b) ≡ bit_xor (shifts (8 * length b) (remainder 0 a))
    (remainder 0 b)
remainder-join a b = remainder-append 0 a b ∙ remainder-apart (remainder 0 a) b

-- two texts laid over each other
pub remainder-zip2 : (xs ys : List ℕ) → length xs ≡ length ys
    → remainder 0 (zip2 bit_xor xs ys) ≡ bit_xor (remainder 0 xs) (remainder 0 ys)
unfolding remainder
remainder-zip2 [] [] e = refl
remainder-zip2 [] (y ∷ ys) e = absurd (omega arith)
remainder-zip2 (x ∷ xs) [] e = absurd (omega arith)
remainder-zip2 (x ∷ xs) (y ∷ ys) e =
    let same : length xs ≡ length ys = omega arith in
    let bits = 8 + 8 * length xs in
    remainder-cons (bit_xor x y) (zip2 bit_xor xs ys)
    ∙ rw (length-zip2 bit_xor xs ys same, remainder-zip2 xs ys same, shifts-xor bits x y)
    (xor_swap (shifts bits x) (shifts bits y) (remainder 0 xs) (remainder 0 ys))
    ∙ ap (λ (n : ℕ). bit_xor (bit_xor (shifts bits x) (remainder 0 xs))
    (bit_xor (shifts (8 + 8 * n) y) (remainder 0 ys))) same
    ∙ rw (remainder-cons x xs, remainder-cons y ys) refl

-- the text as one number, its first byte the lowest
abbrev pub number : List ℕ → ℕ
number [] = 0
number (byte ∷ bytes) = byte + 256 * number bytes

-- a text is divided as its number is
pub remainder-number : (r : ℕ) (bytes : List ℕ) → ((k : ℕ) → get_or bytes k 0 < 256)
    → remainder r bytes ≡ shifts (8 * length bytes) (bit_xor r (number bytes))
unfolding remainder
remainder-number r [] fits = sym (shifts-none (bit_xor r 0) ∙ xor_zero_r r)
remainder-number r (b ∷ bs) fits =
    let n : 8 * length (b ∷ bs) ≡ 8 + 8 * length bs = omega arith in
    remainder-number (shifts 8 (bit_xor r b)) bs (λ k. fits (suc k))
    ∙ ap (shifts (8 * length bs)) (ap (bit_xor (shifts 8 (bit_xor r b))) (sym (shifts-byte_of_zeros (number bs)))
    ∙ sym (shifts-xor 8 (bit_xor r b) (number bs * 256))
    ∙ ap (shifts 8) (xor_assoc r b (number bs * 256) ∙ ap (bit_xor r) (xor-above_byte b (number bs) (fits 0))))
    ∙ sym (shifts-add 8 (8 * length bs) (bit_xor r (b + 256 * number bs)))
    ∙ ap (λ (z : ℕ). shifts z (bit_xor r (b + 256 * number bs))) (sym n)
