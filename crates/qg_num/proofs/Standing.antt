-- From one place of a text of bytes to another stands a text: what reading finds there, and what is read where it
-- stands.
use Rattle.std.proofs.Common.{◌≡◌, ℕ, zero, suc, ◌+◌, ◌-◌, ◌^◌, ◌≤◌, ◌<◌, true, List, [], ◌∷◌, ◌++◌, length, take, drop}
use Rattle.std.proofs.Common.{refl, sym, ap, subst, ◌∙◌, arith, add-one}
use Rattle.std.specs.Prelude.{slice_index, slice_range, ◌==◌}
use Rattle.std.specs.List.{list_all}
use Rattle.std.proofs.lemmas.Bool.{and_parts, eqb-true}
use Rattle.std.proofs.lemmas.List.{append-nil, append_assoc, drop-append-le, drop-drop, drop-replicate, drop_all}
use Rattle.std.proofs.lemmas.List.{drop_at, get_or-drop, length-append, length-drop, length-replicate, length-take}
use Rattle.std.proofs.lemmas.List.{take-replicate, take_at}
use Rattle.std.proofs.lemmas.List.Folds.{drop_split}
use Rattle.std.proofs.Math.Seq.{drop-cons}
use Rattle.byteorder.specs.Endian.{little_number}
use Rattle.qg_num.specs.Fields.{IsBytes, u32_bytes, u64_bytes, u32_at, u64_at, is_zero, zeros}
use Rattle.qg_num.proofs.Numbers.{u32_at-u32_bytes, u32_bytes-u32_at, u64_at-u64_bytes, u64_bytes-u64_at}

pub record Stands (bytes : List ℕ) (from to : ℕ) (text : List ℕ) : Type 0 where
  pub is : drop from bytes ≡ text ++ drop to bytes
  pub long : from + length text ≡ to

-- ---- texts one behind the other

behind : (bytes front rest : List ℕ) (a b : ℕ) → drop a bytes ≡ front ++ rest → a + length front ≡ b
    → drop b bytes ≡ rest
behind bytes front rest a b is long =
    ap (λ (n : ℕ). drop n bytes) (sym long) ∙ sym (drop-drop (length front) a bytes) ∙ ap (drop (length front)) is
    ∙ drop_at front rest (length front) refl

-- what the rest of the bytes begins with
pub Stands-in_front : {bytes : List ℕ} {a : ℕ} (b : ℕ) (front rest : List ℕ) → drop a bytes ≡ front ++ rest
    → a + length front ≡ b → Stands bytes a b front
Stands-in_front {bytes = bytes} {a = a} b front rest is long = record {
  is = is ∙ ap (λ (text : List ℕ). front ++ text) (sym (behind bytes front rest a b is long));
  long = long;
}

pub Stands-then : {bytes front back : List ℕ} {a b c : ℕ} → Stands bytes a b front → Stands bytes b c back
    → Stands bytes a c (front ++ back)
Stands-then {bytes = bytes} {front = front} {back = back} {c = c} first second = record {
  is = first.is ∙ ap (λ (text : List ℕ). front ++ text) second.is ∙ sym (append_assoc front back (drop c bytes));
  long = omega (arith, length-append front back, first.long, second.long);
}

-- the two parts of a text that stands, and the place between them
pub Stands-first : {bytes : List ℕ} {a c : ℕ} (b : ℕ) (front back : List ℕ) → a + length front ≡ b
    → Stands bytes a c (front ++ back) → Stands bytes a b front
Stands-first {bytes = bytes} {c = c} b front back long all =
    Stands-in_front b front (back ++ drop c bytes) (all.is ∙ append_assoc front back (drop c bytes)) long

pub Stands-second : {bytes : List ℕ} {a c : ℕ} (b : ℕ) (front back : List ℕ) → a + length front ≡ b
    → Stands bytes a c (front ++ back) → Stands bytes b c back
Stands-second {bytes = bytes} {a = a} {c = c} b front back long all = record {
  is = behind bytes front (back ++ drop c bytes) a b (all.is ∙ append_assoc front back (drop c bytes)) long;
  long = omega (arith, length-append front back, all.long);
}

-- what stands in a text that stands
pub Stands-inside : {bytes text piece : List ℕ} {a b from to : ℕ} → Stands bytes a b text → Stands text from to piece
    → from ≤ length text → to ≤ length text → Stands bytes (a + from) (a + to) piece
Stands-inside {bytes = bytes} {text = text} {piece = piece} {a = a} {b = b} {from = from} {to = to} outer inner first
    second = record {
      is =
          sym (drop-drop from a bytes) ∙ ap (drop from) outer.is ∙ drop-append-le from text (drop b bytes) first
          ∙ ap (λ (rest : List ℕ). rest ++ drop b bytes) inner.is
          ∙ append_assoc piece (drop to text) (drop b bytes)
          ∙ ap (λ (rest : List ℕ). piece ++ rest)
          (sym (sym (drop-drop to a bytes) ∙ ap (drop to) outer.is ∙ drop-append-le to text (drop b bytes) second));
      long = omega (arith, inner.long);
    }

-- the whole of the bytes
pub Stands-whole : {bytes text : List ℕ} {n : ℕ} → Stands bytes 0 n text → length bytes ≡ n → bytes ≡ text
Stands-whole {bytes = bytes} {text = text} {n = n} all long =
    all.is ∙ ap (λ (rest : List ℕ). text ++ rest) (drop_all n bytes (omega arith)) ∙ append-nil text

pub whole_stands : (text : List ℕ) (n : ℕ) → length text ≡ n → Stands text 0 n text
whole_stands text n long = record {
  is = sym (ap (λ (rest : List ℕ). text ++ rest) (drop_all n text (omega arith)) ∙ append-nil text);
  long = omega arith;
}

-- ---- what reading finds

pub slice_stands : (bytes : List ℕ) (a b : ℕ) → a ≤ b → b ≤ length bytes → Stands bytes a b (slice_range bytes a b)
slice_stands bytes a b order within = record {
  is = drop_split bytes a b order;
  long = omega (arith, length-take (b - a) (drop a bytes), length-drop a bytes);
}

first_n : (bytes text : List ℕ) (a n : ℕ) → a + n ≤ length bytes → text ≡ take n (drop a bytes)
    → Stands bytes a (a + n) text
first_n bytes text a n within is =
    let n_is : a + n - a ≡ n = omega arith in
    subst (λ (piece : List ℕ). Stands bytes a (a + n) piece) (ap (λ (k : ℕ). take k (drop a bytes)) n_is ∙ sym is)
    (slice_stands bytes a (a + n) (omega arith) within)

pub u64_stands : (bytes : List ℕ) (a : ℕ) → IsBytes bytes → a + 8 ≤ length bytes
    → Stands bytes a (a + 8) (u64_bytes (u64_at a bytes))
u64_stands bytes a are within =
    first_n bytes (u64_bytes (u64_at a bytes)) a 8 within (u64_bytes-u64_at a bytes are within)

pub u32_stands : (bytes : List ℕ) (a : ℕ) → IsBytes bytes → a + 4 ≤ length bytes
    → Stands bytes a (a + 4) (u32_bytes (u32_at a bytes))
u32_stands bytes a are within =
    first_n bytes (u32_bytes (u32_at a bytes)) a 4 within (u32_bytes-u32_at a bytes are within)

pub byte_stands : (bytes : List ℕ) (a : ℕ) → a < length bytes → Stands bytes a (a + 1) (slice_index bytes a ∷ [])
byte_stands bytes a within = record { is = rw (add-one, drop-cons bytes a 0) refl; long = refl }

all_zero : (xs : List ℕ) → list_all (λ b. b == 0) xs ≡ true → xs ≡ zeros (length xs)
all_zero [] are = refl
all_zero (x ∷ xs) are =
    let both = and_parts (x == 0) (list_all (λ b. b == 0) xs) are in
    let first : x ≡ 0 = eqb-true x 0 both.0 in
    let rest = all_zero xs both.1 in
    rw first (ap (λ (text : List ℕ). 0 ∷ text) rest)

pub zeros_stand : (bytes : List ℕ) (a b : ℕ) → a ≤ b → b ≤ length bytes → is_zero a b bytes ≡ true
    → Stands bytes a b (zeros (b - a))
zeros_stand bytes a b order within are =
    let piece = slice_range bytes a b in
    let long : length piece ≡ b - a = omega (arith, length-take (b - a) (drop a bytes), length-drop a bytes) in
    subst (λ (text : List ℕ). Stands bytes a b text) (all_zero piece are ∙ ap zeros long)
    (slice_stands bytes a b order within)

-- in bytes of 0
pub zeros_stand_in_zeros : (n a b : ℕ) → a ≤ b → b ≤ n → Stands (zeros n) a b (zeros (b - a))
zeros_stand_in_zeros n a b order within = record {
  is =
      drop_split (zeros n) a b order
      ∙ ap (λ (text : List ℕ). text ++ drop b (zeros n)) (ap (take (b - a)) (drop-replicate {X = ℕ} a n 0)
      ∙ take-replicate {X = ℕ} (b - a) (n - a) 0 (omega arith));
  long = omega (arith, length-replicate {A = ℕ} (b - a) 0);
}

-- ---- what is read where a text stands

pub u64_at-in_front : (bytes : List ℕ) (a n : ℕ) (rest : List ℕ) → n < 2 ^ 64 → drop a bytes ≡ u64_bytes n ++ rest
    → u64_at a bytes ≡ n
unfolding u64_at
u64_at-in_front bytes a n rest fits is = ap (little_number 8) is ∙ u64_at-u64_bytes 0 n [] rest refl fits

pub u32_at-in_front : (bytes : List ℕ) (a n : ℕ) (rest : List ℕ) → n < 2 ^ 32 → drop a bytes ≡ u32_bytes n ++ rest
    → u32_at a bytes ≡ n
unfolding u32_at
u32_at-in_front bytes a n rest fits is = ap (little_number 4) is ∙ u32_at-u32_bytes 0 n [] rest refl fits

pub slice_index-in_front : (bytes : List ℕ) (a byte : ℕ) (rest : List ℕ) → drop a bytes ≡ byte ∷ rest
    → slice_index bytes a ≡ byte
slice_index-in_front bytes a byte rest is =
    let here : a + 0 ≡ a = omega arith in
    ap (λ (i : ℕ). slice_index bytes i) (sym here) ∙ sym (get_or-drop a bytes 0 0)
    ∙ ap (λ (text : List ℕ). slice_index text 0) is

pub slice_range-in_front : (bytes : List ℕ) (a b : ℕ) (text rest : List ℕ) → length text ≡ b - a
    → drop a bytes ≡ text ++ rest → slice_range bytes a b ≡ text
slice_range-in_front bytes a b text rest long is = ap (take (b - a)) is ∙ take_at text rest (b - a) long

zeros_are : (n : ℕ) → list_all (λ b. b == 0) (zeros n) ≡ true
zeros_are zero = refl
zeros_are (suc n) = zeros_are n

pub is_zero-in_front : (bytes : List ℕ) (a b : ℕ) (rest : List ℕ) → drop a bytes ≡ zeros (b - a) ++ rest
    → is_zero a b bytes ≡ true
is_zero-in_front bytes a b rest is =
    ap (list_all (λ (x : ℕ). x == 0))
    (slice_range-in_front bytes a b (zeros (b - a)) rest (length-replicate {A = ℕ} (b - a) 0) is)
    ∙ zeros_are (b - a)

pub u64_at-stands : {bytes : List ℕ} {a b : ℕ} (n : ℕ) → n < 2 ^ 64 → Stands bytes a b (u64_bytes n)
    → u64_at a bytes ≡ n
u64_at-stands {bytes = bytes} {a = a} {b = b} n fits stands = u64_at-in_front bytes a n (drop b bytes) fits stands.is

pub u32_at-stands : {bytes : List ℕ} {a b : ℕ} (n : ℕ) → n < 2 ^ 32 → Stands bytes a b (u32_bytes n)
    → u32_at a bytes ≡ n
u32_at-stands {bytes = bytes} {a = a} {b = b} n fits stands = u32_at-in_front bytes a n (drop b bytes) fits stands.is

pub slice_index-stands : {bytes text : List ℕ} {a b byte : ℕ} → Stands bytes a b (byte ∷ text)
    → slice_index bytes a ≡ byte
slice_index-stands {bytes = bytes} {text = text} {a = a} {b = b} {byte = byte} stands =
    slice_index-in_front bytes a byte (text ++ drop b bytes) stands.is

pub slice_range-stands : {bytes text : List ℕ} {a b : ℕ} → Stands bytes a b text → slice_range bytes a b ≡ text
slice_range-stands {bytes = bytes} {text = text} {a = a} {b = b} stands =
    slice_range-in_front bytes a b text (drop b bytes) (omega (arith, stands.long)) stands.is

pub is_zero-stands : {bytes : List ℕ} {a b : ℕ} (n : ℕ) → Stands bytes a b (zeros n) → is_zero a b bytes ≡ true
is_zero-stands {bytes = bytes} {a = a} {b = b} n stands = ap (list_all (λ (x : ℕ). x == 0)) (slice_range-stands stands)
    ∙ zeros_are n
