-- The tables of a row are those that move its bytes to the next four rows.
use Rattle.std.proofs.Common.{◌≡◌, ℕ, zero, suc, ◌*◌, ◌/◌, ◌%◌, ◌<◌, inl, inr, Bool, true, eqb, eqb→eq, T, List, get_or}
use Rattle.std.proofs.Common.{refl, sym, ap, ◌∙◌, arith}
use Rattle.std.specs.Prelude.{◌&&◌, bit_xor}
use Rattle.std.proofs.lemmas.Bool.{cases_lt}
use lib.Ieee.Fits.{and_l, and_r}
use Rattle.qg_crc32c.specs.Crc32c.{shift, shifts}
use Rattle.qg_crc32c.specs.Rows.{by_halves}
use Rattle.qg_crc32c.proofs.Shifts.{xor-above_half, shifts-xor}
use Rattle.qg_crc32c.proofs.Spread.{spread, spread-xor, Moves}
use Rattle.qg_crc32c.specs.declared.rows.TheConstants.{SECOND_LOW, SECOND_HIGH, THIRD_LOW, THIRD_HIGH, FOURTH_LOW}
use Rattle.qg_crc32c.specs.declared.rows.TheConstants.{FOURTH_HIGH, NEXT_LOW, NEXT_HIGH}

-- a half of a byte, at its worth, comes to these four entries: for each half below n
abbrev halves_move : ℕ → List ℕ → List ℕ → List ℕ → List ℕ → ℕ → Bool
halves_move worth a b c d zero = true
halves_move worth a b c d (suc n) =
    eqb (shifts 1024 (n * worth)) (spread (get_or a n 0) (get_or b n 0) (get_or c n 0) (get_or d n 0))
    && halves_move worth a b c d n

halves_move-at : (worth : ℕ) (a b c d : List ℕ) (n k : ℕ) → T (halves_move worth a b c d n) → k < n
    → shifts 1024 (k * worth) ≡ spread (get_or a k 0) (get_or b k 0) (get_or c k 0) (get_or d k 0)
halves_move-at worth a b c d zero k t lt = absurd (omega arith)
halves_move-at worth a b c d (suc n) k t lt =
    elim (cases_lt k n) [
      | inl below ↦ halves_move-at worth a b c d n k
          (and_r (eqb (shifts 1024 (n * worth)) (spread (get_or a n 0) (get_or b n 0) (get_or c n 0) (get_or d n 0))) _
          t) below
      | inr above ↦ let e : k ≡ n = omega arith in rw e (eqb→eq _ _ (and_l _ (halves_move worth a b c d n) t))
    ]

low_moves : T (halves_move 1 SECOND_LOW THIRD_LOW FOURTH_LOW NEXT_LOW 16)
unfolding shifts shift
low_moves = tt

high_moves : T (halves_move 16 SECOND_HIGH THIRD_HIGH FOURTH_HIGH NEXT_HIGH 16)
unfolding shifts shift
high_moves = tt

pub tables_move : Moves (by_halves SECOND_LOW SECOND_HIGH) (by_halves THIRD_LOW THIRD_HIGH)
    (by_halves FOURTH_LOW FOURTH_HIGH) (by_halves NEXT_LOW NEXT_HIGH)
tables_move b fits =
    let low = b % 16 in
    let high = b / 16 in
    let whole : b ≡ bit_xor (low * 1) (high * 16) = sym (ap (λ (z : ℕ). bit_xor z (high * 16)) (omega arith)
    ∙ xor-above_half low high (omega arith) ∙ omega arith) in
    ap (shifts 1024) whole ∙ shifts-xor 1024 (low * 1) (high * 16)
    ∙ rw (
      halves_move-at 1 SECOND_LOW THIRD_LOW FOURTH_LOW NEXT_LOW 16 low low_moves (omega arith),
      halves_move-at 16
          SECOND_HIGH THIRD_HIGH FOURTH_HIGH NEXT_HIGH 16 high high_moves (omega arith),
    ) refl
    ∙ sym (spread-xor (get_or SECOND_LOW low 0) (get_or THIRD_LOW low 0) (get_or FOURTH_LOW low 0)
    (get_or NEXT_LOW low 0) (get_or SECOND_HIGH high 0) (get_or THIRD_HIGH high 0) (get_or FOURTH_HIGH high 0)
    (get_or NEXT_HIGH high 0))
