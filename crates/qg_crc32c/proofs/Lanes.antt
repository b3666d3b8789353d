-- A row of 32 lanes, looked up by the halves of its bytes.
use Rattle.std.proofs.Common.{◌≡◌, ℕ, zero, suc, ◌+◌, ◌*◌, ◌/◌, ◌%◌, ◌^◌, ◌<◌, ◌⊎◌, inl, inr, List, length, map, take}
use Rattle.std.proofs.Common.{drop, get_or, replicate, bit_and, refl, sym, ap, ◌∙◌, arith, w8, Fits}
use Rattle.std.proofs.lemmas.List.{get_or-map, get_or-drop, get_or-take, length-map, ext_get_or, get_or_past}
use Rattle.std.proofs.lemmas.Nat.{and_le_r, and_mask, xor_of_8}
use Rattle.std.proofs.lemmas.Bool.{cases_lt}
use Rattle.std.specs.Prelude.{bit_xor}
use Rattle.qg_crc32c.specs.Rows.{IsRow}
use Rattle.std.proofs.lemmas.Simd.{Each1-all, Each1-get_or, Each1-weaker, Each1-zip2, Each2-splat, get_or-zip2}
use Rattle.std.proofs.lemmas.Simd.{below_from_Fits, length-zip2, zip2_splat, swz_l, SwzOk, SwzOk-from_below}
use Rattle.std.proofs.lemmas.Simd.{length-swz_l, get_or-swz_l_below}
use Rattle.std.specs.Simd.Lanes.{zip2, Each1}

abbrev pub IsVector : List ℕ → Type 0
IsVector row = (length row ≡ 32) × Each1 (Fits w8) row

abbrev pub down : ℕ → ℕ → ℕ
down a b = a / 2 ^ b

pub lane_fits : (row : List ℕ) → IsVector row → (i : ℕ) → i < 32 → get_or row i 0 < 256
lane_fits row is i lt = Each1-get_or (λ x. x < 256) row i 0 (omega (arith, is.0)) (below_from_Fits w8 row is.1)

pub row_of : (xs : List ℕ) → IsVector xs → IsRow xs
row_of xs is = record {
  len = is.0;
  bytes = λ i. elim (cases_lt i 32) [
    | inl lt ↦ lane_fits xs is i lt
    | inr le ↦ omega (arith, get_or_past xs i 0 (omega (arith, is.0)))
  ];
}

pub row-xor : (xs ys : List ℕ) → IsRow xs → IsRow ys → IsRow (zip2 bit_xor xs ys)
row-xor xs ys a b =
    let long : length (zip2 bit_xor xs ys) ≡ 32 = omega (arith, length-zip2 bit_xor xs ys (a.len ∙ sym b.len), a.len) in
    record {
      len = long;
      bytes = λ i. elim (cases_lt i 32) [
        | inl lt ↦ omega (
          arith,
          get_or-zip2 bit_xor xs ys i 0 0 0 (omega (arith, a.len))
              (omega (arith, b.len)),
          xor_of_8 (get_or xs i 0) (get_or ys i 0) (a.bytes i) (b.bytes i),
        )
        | inr le ↦ omega (arith, get_or_past (zip2 bit_xor xs ys) i 0 (omega arith))
      ];
    }

pub row-map : (f : ℕ → ℕ) (xs : List ℕ) → ((x : ℕ) → f x < 256) → IsRow xs → IsRow (map f xs)
row-map f xs small a =
    let long : length (map f xs) ≡ 32 = length-map xs f ∙ a.len in record {
      len = long;
      bytes = λ i. elim (cases_lt i 32) [
        | inl lt ↦ omega (arith, get_or-map f xs i 0 0 (omega (arith, a.len)), small (get_or xs i 0))
        | inr le ↦ omega (arith, get_or_past (map f xs) i 0 (omega arith))
      ];
    }

-- ---- each place is within sixteen lanes

pub low_halves_in_range : (row : List ℕ) → IsVector row → SwzOk w8 16 32 0 (zip2 bit_and row (replicate 32 15))
low_halves_in_range row is =
    let small = Each1-all (λ a. bit_and a 15 < 16) (λ a. omega (arith, and_le_r a 15)) row in
    SwzOk-from_below w8 16 2 32 0 (zip2 bit_and row (replicate 32 15)) refl
    (omega (arith, length-zip2 bit_and row (replicate 32 15) is.0))
    (Each1-zip2 bit_and (λ j. j < 16) row (replicate 32 15) (Each2-splat (λ a b. bit_and a b < 16) row 32 15 small))

pub high_halves_in_range : (row : List ℕ) → IsVector row → SwzOk w8 16 32 0 (zip2 down row (replicate 32 4))
high_halves_in_range row is =
    let small = Each1-weaker (λ a. a < 256) (λ a. a / 16 < 16) (λ a h. omega arith) row (below_from_Fits w8 row is.1) in
    SwzOk-from_below w8 16 2 32 0 (zip2 down row (replicate 32 4)) refl
    (omega (arith, length-zip2 down row (replicate 32 4) is.0))
    (Each1-zip2 down (λ j. j < 16) row (replicate 32 4) (Each2-splat (λ a b. down a b < 16) row 32 4 small))

-- ---- what is looked up

-- a table whose sixteen entries stand there twice, at a place of either half
twice-at : (table : List ℕ) (i j : ℕ) → drop 16 table ≡ take 16 table → i < 32 → j < 16
    → get_or table (16 * (i / 16) + j) 0 ≡ get_or table j 0
twice-at table i j twice lt below = elim (half (i / 16) (omega arith)) [
  | inl first ↦ ap (λ (k : ℕ). get_or table k 0) (omega arith)
  | inr second ↦ ap (λ (k : ℕ). get_or table k 0) (omega arith) ∙ sym (get_or-drop 16 table j 0)
      ∙ ap (λ (l : List ℕ). get_or l j 0) twice ∙ get_or-take 16 table j 0 below
] where
  half : (n : ℕ) → n < 2 → (n ≡ 0) ⊎ (n ≡ 1)
  half zero h = inl refl
  half (suc zero) h = inr refl
  half (suc (suc n)) h = absurd (omega arith)

looked_up : (table : List ℕ) (f g : ℕ → ℕ) (row places : List ℕ) → IsVector row → drop 16 table ≡ take 16 table
    → places ≡ map f row → ((x : ℕ) → f x ≡ g x) → ((x : ℕ) → x < 256 → g x < 16)
    → swz_l w8 16 table 0 places ≡ map (λ x. get_or table (g x) 0) row
looked_up table f g row places is twice e same small =
    let long : length places ≡ 32 = ap length e ∙ length-map row f ∙ is.0 in
    ext_get_or 0 _ _ (length-swz_l w8 16 table 0 places ∙ long
    ∙ sym (length-map row (λ x. get_or table (g x) 0) ∙ is.0)) (λ i h.
    let lt : i < 32 = omega (arith, length-swz_l w8 16 table 0 places) in
    let within : i < length row = omega (arith, is.0) in
    let here : get_or places i 0 ≡ g (get_or row i 0) = ap (λ (l : List ℕ). get_or l i 0) e
    ∙ get_or-map f row i 0 0 within ∙ same (get_or row i 0) in
    let below : get_or places i 0 < 16 = omega (arith, small (get_or row i 0) (lane_fits row is i lt)) in
    get_or-swz_l_below w8 16 table 0 places i (omega arith) below
    ∙ twice-at table (0 + i) (get_or places i 0) twice (omega arith) below
    ∙ ap (λ (k : ℕ). get_or table k 0) here ∙ sym (get_or-map (λ x. get_or table (g x) 0) row i 0 0 within))

pub by_low_halves : (table row : List ℕ) → IsVector row → drop 16 table ≡ take 16 table
    → swz_l w8 16 table 0 (zip2 bit_and row (replicate 32 15)) ≡ map (λ x. get_or table (x % 16) 0) row
by_low_halves table row is twice = looked_up table (λ x. bit_and x 15) (λ x. x % 16) row _ is twice
    (zip2_splat bit_and row 32 15 is.0) (λ x. and_mask x 4) (λ x h. omega arith)

pub by_high_halves : (table row : List ℕ) → IsVector row → drop 16 table ≡ take 16 table
    → swz_l w8 16 table 0 (zip2 down row (replicate 32 4)) ≡ map (λ x. get_or table (x / 16) 0) row
by_high_halves table row is twice = looked_up table (λ x. x / 16) (λ x. x / 16) row _ is twice
    (zip2_splat down row 32 4 is.0) (λ x. refl) (λ x h. omega arith)
