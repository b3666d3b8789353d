-- Numbers that ascend, no two the same.
use Rattle.std.proofs.Common.{◌≡◌, ℕ, zero, suc, ◌+◌, ◌<◌, ◌≤◌, List, [], ◌∷◌, ◌++◌, length, get_or, subst, arith}
use Rattle.std.proofs.Common.{add-one}
use Rattle.std.specs.List.Sorted.{IsStrictlyIncreasing}

-- numbers that ascend, the first no less than a bound
unfoldable pub AscendFrom : ℕ → List ℕ → Type 0
AscendFrom from [] = Unit {0}
AscendFrom from (n ∷ ns) = (from ≤ n) × AscendFrom (n + 1) ns

-- ---- from numbers that increase strictly, and back

rest_increases : (n : ℕ) (ns : List ℕ) → IsStrictlyIncreasing (n ∷ ns) → IsStrictlyIncreasing ns
rest_increases n ns up = λ k short.
    let next : suc k + 1 ≡ suc (k + 1) = omega arith in
    subst (λ j. get_or ns k 0 < get_or (n ∷ ns) j 0) next (up (suc k) (omega arith))

ascend_on : (from n : ℕ) (ns : List ℕ) → from ≤ n → IsStrictlyIncreasing (n ∷ ns) → AscendFrom from (n ∷ ns)
unfolding AscendFrom
ascend_on from n [] begins up = (begins, tt)
ascend_on from n (next ∷ ns) begins up =
    let here = up 0 (omega arith) in
    (begins, ascend_on (n + 1) next ns (omega (arith, here)) (rest_increases n (next ∷ ns) up))

pub AscendFrom-increasing : (ns : List ℕ) → IsStrictlyIncreasing ns → AscendFrom 0 ns
unfolding AscendFrom
AscendFrom-increasing [] up = tt
AscendFrom-increasing (n ∷ ns) up = ascend_on 0 n ns (omega arith) up

neighbours : (from : ℕ) (ns : List ℕ) (k : ℕ) → AscendFrom from ns → suc k < length ns
    → get_or ns k 0 < get_or ns (suc k) 0
unfolding AscendFrom
neighbours from [] k ascend short = absurd (omega arith)
neighbours from (n ∷ []) k ascend short = absurd (omega arith)
neighbours from (n ∷ next ∷ ns) zero ascend short = omega (arith, ascend.1.0)
neighbours from (n ∷ next ∷ ns) (suc k) ascend short = neighbours (n + 1) (next ∷ ns) k ascend.1 (omega arith)

pub increasing-AscendFrom : (from : ℕ) (ns : List ℕ) → AscendFrom from ns → IsStrictlyIncreasing ns
increasing-AscendFrom from ns ascend = λ k short. rw add-one (neighbours from ns k ascend (omega arith))

-- ---- parts

pub ascend-lower : (from low : ℕ) (ns : List ℕ) → low ≤ from → AscendFrom from ns → AscendFrom low ns
unfolding AscendFrom
ascend-lower from low [] lower ascend = tt
ascend-lower from low (n ∷ ns) lower ascend = (omega (arith, ascend.0), ascend.1)

pub ascend-front : (from : ℕ) (ns ms : List ℕ) → AscendFrom from (ns ++ ms) → AscendFrom from ns
unfolding AscendFrom
ascend-front from [] ms ascend = tt
ascend-front from (n ∷ ns) ms ascend = (ascend.0, ascend-front (n + 1) ns ms ascend.1)

pub ascend-back : (from : ℕ) (ns ms : List ℕ) → AscendFrom from (ns ++ ms) → AscendFrom from ms
unfolding AscendFrom
ascend-back from [] ms ascend = ascend
ascend-back from (n ∷ ns) ms ascend =
    let later = ascend-back (n + 1) ns ms ascend.1 in
    ascend-lower (n + 1) from ms (omega (arith, ascend.0)) later
