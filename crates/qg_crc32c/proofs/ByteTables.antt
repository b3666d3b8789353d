-- Each table at each byte.
use Rattle.std.proofs.Common.{◌≡◌, ℕ, zero, suc, ◌+◌, ◌*◌, ◌<◌, Bool, true, false, eqb, eqb→eq, T, List, [], ◌∷◌}
use Rattle.std.proofs.Common.{length, get_or, refl, sym, ap, ◌∙◌, arith}
use Rattle.std.specs.Prelude.{◌&&◌}
use Rattle.std.specs.List.{range_with_len}
use Rattle.std.proofs.lemmas.List.FromFn.{get_or-range_with_len}
use lib.Ieee.Fits.{and_l, and_r}
use Rattle.qg_crc32c.specs.Crc32c.{shift, shifts}
use Rattle.qg_crc32c.proofs.Shifts.{shifts-none, shifts-add}
use Rattle.qg_crc32c.specs.declared.byte_tables.TheConstants.{AFTER}

-- each entry is that of the other table, eight shifts on
abbrev follows : List ℕ → List ℕ → Bool
follows [] [] = true
follows [] (y ∷ ys) = false
follows (x ∷ xs) [] = false
follows (x ∷ xs) (y ∷ ys) = eqb y (shifts 8 x) && follows xs ys

-- each table follows the one before it
abbrev all_follow : List ℕ → List (List ℕ) → Bool
all_follow xs [] = true
all_follow xs (ys ∷ tables) = follows xs ys && all_follow ys tables

follows-at : (xs ys : List ℕ) (k : ℕ) → T (follows xs ys) → k < length xs → get_or ys k 0 ≡ shifts 8 (get_or xs k 0)
follows-at [] ys k t lt = absurd (omega arith)
follows-at (x ∷ xs) [] k t lt = absurd t
follows-at (x ∷ xs) (y ∷ ys) zero t lt = eqb→eq _ _ (and_l _ (follows xs ys) t)
follows-at (x ∷ xs) (y ∷ ys) (suc k) t lt = follows-at xs ys k (and_r (eqb y (shifts 8 x)) _ t) (omega arith)

follows-length : (xs ys : List ℕ) → T (follows xs ys) → length ys ≡ length xs
follows-length [] [] t = refl
follows-length [] (y ∷ ys) t = absurd t
follows-length (x ∷ xs) [] t = absurd t
follows-length (x ∷ xs) (y ∷ ys) t = ap suc (follows-length xs ys (and_r (eqb y (shifts 8 x)) _ t))

all_follow-at : (n : ℕ) (xs : List ℕ) (tables : List (List ℕ)) → T (all_follow xs tables) → length xs ≡ 256
    → ((b : ℕ) → b < 256 → get_or xs b 0 ≡ shifts n b)
    → (k : ℕ) (d : List ℕ) → k < length tables → (b : ℕ) → b < 256
    → get_or (get_or tables k d) b 0 ≡ shifts (n + 8 * k + 8) b
all_follow-at n xs [] t long at k d lt b fits = absurd (omega arith)
all_follow-at n xs (ys ∷ tables) t long at zero d lt b fits =
    let e : n + 8 * 0 + 8 ≡ n + 8 = omega arith in
    rw e (follows-at xs ys b (and_l _ (all_follow ys tables) t) (omega arith) ∙ ap (shifts 8) (at b fits)
    ∙ sym (shifts-add n 8 b))
all_follow-at n xs (ys ∷ tables) t long at (suc k) d lt b fits =
    let first = and_l (follows xs ys) (all_follow ys tables) t in
    let e : n + 8 * suc k + 8 ≡ n + 8 + 8 * k + 8 = omega arith in
    rw e (all_follow-at (n + 8) ys tables (and_r (follows xs ys) (all_follow ys tables) t) (follows-length xs ys first
    ∙ long) (λ b fits. follows-at xs ys b first (omega arith) ∙ ap (shifts 8) (at b fits)
    ∙ sym (shifts-add n 8 b)) k d (omega arith) b fits)

AFTER_follows : T (all_follow (range_with_len 0 256) AFTER)
unfolding shifts shift
AFTER_follows = tt

pub AFTER_at : (k : ℕ) (d : List ℕ) (b : ℕ) → k < 8 → b < 256 → get_or (get_or AFTER k d) b 0 ≡ shifts (8 * k + 8) b
AFTER_at k d b lt fits =
    let e : 0 + 8 * k + 8 ≡ 8 * k + 8 = omega arith in
    all_follow-at 0 (range_with_len 0 256) AFTER AFTER_follows refl (λ b fits. get_or-range_with_len 0 256 b 0 fits
    ∙ omega arith ∙ sym (shifts-none b)) k d lt b fits ∙ ap (λ (z : ℕ). shifts z b) e
