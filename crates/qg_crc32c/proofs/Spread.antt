-- The first of five rows of 32 bytes is divided into the other four.
use Rattle.std.proofs.Common.{◌≡◌, ℕ, ◌+◌, ◌*◌, ◌<◌, List, [], ◌∷◌, ◌++◌, length, map, refl, sym, ap, ◌∙◌, arith}
use Rattle.std.proofs.Common.{append_assoc, length-append, suc, get_or}
use Rattle.std.specs.Prelude.{bit_xor}
use Rattle.std.specs.Simd.Lanes.{zip2}
use Rattle.std.proofs.lemmas.List.{length-map}
use Rattle.std.proofs.lemmas.Simd.{length-zip2}
use Rattle.std.proofs.lemmas.Nat.{xor_comm}
use Rattle.qg_crc32c.specs.Crc32c.{shifts, remainder}
use Rattle.qg_crc32c.specs.Rows.{IsRow}
use Rattle.qg_crc32c.proofs.Shifts.{xor_swap, shifts-xor, shifts-zero, shifts-turn}
use Rattle.qg_crc32c.proofs.Remainders.{remainder-cons, remainder-join, remainder-zip2}

-- the remainder of four rows by those of each
abbrev pub spread : ℕ → ℕ → ℕ → ℕ → ℕ
spread a b c d = bit_xor (shifts 768 a) (bit_xor (shifts 512 b) (bit_xor (shifts 256 c) d))

pub spread-xor : (a b c d w x y z : ℕ) → spread (bit_xor a w) (bit_xor b x) (bit_xor c y) (bit_xor d z)
    ≡ bit_xor (spread a b c d) (spread w x y z)
spread-xor a b c d w x y z =
    rw (shifts-xor 768 a w, shifts-xor 512 b x, shifts-xor 256 c y) (
    ap (λ (t : ℕ). bit_xor (bit_xor (shifts 768 a) (shifts 768 w)) (bit_xor (bit_xor (shifts 512 b) (shifts 512 x)) t))
    (xor_swap (shifts 256 c) (shifts 256 y) d z)
    ∙ ap (λ (t : ℕ). bit_xor (bit_xor (shifts 768 a) (shifts 768 w)) t)
    (xor_swap (shifts 512 b) (shifts 512 x) (bit_xor (shifts 256 c) d) (bit_xor (shifts 256 y) z))
    ∙ xor_swap (shifts 768 a) (shifts 768 w) (bit_xor (shifts 512 b) (bit_xor (shifts 256 c) d))
    (bit_xor (shifts 512 x) (bit_xor (shifts 256 y) z)))

shifts-spread : (k a b c d : ℕ) → shifts k (spread a b c d) ≡ spread (shifts k a) (shifts k b) (shifts k c) (shifts k d)
shifts-spread k a b c d =
    rw (
      shifts-xor k (shifts 768 a) (bit_xor (shifts 512 b) (bit_xor (shifts 256 c) d)),
      shifts-xor k (shifts 512 b)
          (bit_xor (shifts 256 c) d),
      shifts-xor k (shifts 256 c) d,
      shifts-turn k 768 a,
      shifts-turn k 512 b,
      shifts-turn
          k 256 c,
    ) refl

-- four rows
pub remainder-spread : (a b c d : List ℕ) → length b ≡ 32 → length c ≡ 32 → length d ≡ 32
    → remainder 0 (a ++ (b ++ (c ++ d))) ≡ spread (remainder 0 a) (remainder 0 b) (remainder 0 c) (remainder 0 d)
remainder-spread a b c d lb lc ld =
    let three : 8 * length (b ++ (c ++ d)) ≡ 768 = omega (arith, length-append b (c ++ d), length-append c d) in
    let two : 8 * length (c ++ d) ≡ 512 = omega (arith, length-append c d) in
    let one : 8 * length d ≡ 256 = omega arith in
    rw (remainder-join a (b ++ (c ++ d)), remainder-join b (c ++ d), remainder-join c d, three, two, one) refl

-- a byte with 128 bytes of 0 behind it has the remainder of four bytes, one in each of the next four rows
abbrev pub Moves : (ℕ → ℕ) → (ℕ → ℕ) → (ℕ → ℕ) → (ℕ → ℕ) → Type 0
Moves f g h i = (b : ℕ) → b < 256 → shifts 1024 b ≡ spread (f b) (g b) (h b) (i b)

-- so has each list of bytes
row_moves : (f g h i : ℕ → ℕ) → Moves f g h i → (row : List ℕ) → ((k : ℕ) → get_or row k 0 < 256)
    → shifts 1024 (remainder 0 row) ≡ spread (remainder 0 (map f row)) (remainder 0 (map g row))
    (remainder 0 (map h row)) (remainder 0 (map i row))
unfolding remainder
row_moves f g h i moves [] fits = rw (shifts-zero 1024, shifts-zero 768, shifts-zero 512, shifts-zero 256) refl
row_moves f g h i moves (b ∷ bs) fits =
    let bits = 8 + 8 * length bs in
    let one = λ (k : ℕ → ℕ). remainder-cons (k b) (map k bs)
    ∙ ap (λ (n : ℕ). bit_xor (shifts (8 + 8 * n) (k b)) (remainder 0 (map k bs))) (length-map bs k) in
    rw (one f, one g, one h, one i) (
    ap (shifts 1024) (remainder-cons b bs) ∙ shifts-xor 1024 (shifts bits b) (remainder 0 bs)
    ∙ rw (
      shifts-turn 1024 bits b,
      moves b (fits 0),
      shifts-spread bits (f b) (g b) (h b) (i b),
      row_moves f g h i moves
          bs (λ k. fits (suc k)),
    ) refl
    ∙ sym (spread-xor (shifts bits (f b)) (shifts bits (g b)) (shifts bits (h b)) (shifts bits (i b))
    (remainder 0 (map f bs)) (remainder 0 (map g bs)) (remainder 0 (map h bs)) (remainder 0 (map i bs))))

pub remainder-five_rows : (f g h i : ℕ → ℕ) → Moves f g h i → (first second third fourth next : List ℕ) → IsRow first
    → IsRow second → IsRow third → IsRow fourth → IsRow next
    → remainder 0 (zip2 bit_xor second (map f first)
    ++ (zip2 bit_xor third (map g first)
    ++ (zip2 bit_xor fourth (map h first) ++ zip2 bit_xor next (map i first))))
    ≡ remainder 0 ((first ++ (second ++ (third ++ fourth))) ++ next)
remainder-five_rows f g h i moves first second third fourth next r1 r2 r3 r4 r5 =
    let long = λ (k : ℕ → ℕ) (row : List ℕ) (l : length row ≡ 32). l ∙ sym (length-map first k ∙ r1.len) in
    let longer = λ (k : ℕ → ℕ) (row : List ℕ) (l : length row ≡ 32). length-zip2 bit_xor row (map k first)
    (long k row l) ∙ l in
    let others = remainder 0 (second ++ (third ++ (fourth ++ next))) in
    let bits : 8 * length (second ++ (third ++ (fourth ++ next))) ≡ 1024 =
    omega (
      arith,
      r2.len,
      r3.len,
      r4.len,
      r5.len,
      length-append second (third ++ (fourth ++ next)),
      length-append
          third (fourth ++ next),
      length-append fourth next,
    ) in
    remainder-spread (zip2 bit_xor second (map f first)) (zip2 bit_xor third (map g first))
    (zip2 bit_xor fourth (map h first)) (zip2 bit_xor next (map i first)) (longer g third r3.len)
    (longer h fourth r4.len) (longer i next r5.len)
    ∙ rw (
      remainder-zip2 second (map f first) (long f second r2.len),
      remainder-zip2 third (map g first)
          (long g third r3.len),
      remainder-zip2 fourth (map h first) (long h fourth r4.len),
      remainder-zip2 next
          (map i first) (long i next r5.len),
    ) refl
    ∙ spread-xor (remainder 0 second) (remainder 0 third) (remainder 0 fourth) (remainder 0 next)
    (remainder 0 (map f first)) (remainder 0 (map g first)) (remainder 0 (map h first)) (remainder 0 (map i first))
    ∙ rw (← row_moves f g h i moves first r1.bytes, ← remainder-spread second third fourth next r3.len r4.len r5.len)
    (xor_comm others (shifts 1024 (remainder 0 first)))
    ∙ ap (λ (n : ℕ). bit_xor (shifts n (remainder 0 first)) others) (sym bits)
    ∙ sym (remainder-join first (second ++ (third ++ (fourth ++ next))))
    ∙ ap (remainder 0) (sym (append_assoc first (second ++ (third ++ fourth)) next
    ∙ ap (λ (l : List ℕ). first ++ l) (append_assoc second (third ++ fourth) next
    ∙ ap (λ (l : List ℕ). second ++ l) (append_assoc third fourth next))))
