-- Tables whose numbers ascend.
use Rattle.std.proofs.Common.{◌≡◌, ℕ, zero, suc, ◌+◌, ◌<◌, ◌≤◌, Bool, List, [], ◌∷◌, length, get_or, subst, arith}
use Rattle.std.proofs.Common.{add-one}
use Rattle.std.specs.Prelude.{◌==◌, nat_lt}
use Rattle.std.specs.List.{AllByRecursion, filter}
use Rattle.std.specs.List.Sorted.{IsStrictlyIncreasing}
use Rattle.std.proofs.lemmas.Bool.{cond_both, ltb-true, ltb-false, eqb-true, eqb-false}
use Rattle.qg_image.specs.Table.{keys_of, with_value}

-- numbers that ascend, the first no less than a bound
unfoldable pub Ascends : {A : Type 0} → ℕ → List (ℕ × A) → Type 0
Ascends from [] = Unit {0}
Ascends from (entry ∷ table) = (from ≤ entry.0) × Ascends (entry.0 + 1) table

-- ---- from a list of numbers, and back

rest_increases : (n : ℕ) (ns : List ℕ) → IsStrictlyIncreasing (n ∷ ns) → IsStrictlyIncreasing ns
rest_increases n ns up = λ k short.
    let next : suc k + 1 ≡ suc (k + 1) = omega arith in
    subst (λ j. get_or ns k 0 < get_or (n ∷ ns) j 0) next (up (suc k) (omega arith))

ascends_on : {A : Type 0} (from : ℕ) (entry : ℕ × A) (table : List (ℕ × A)) → from ≤ entry.0
    → IsStrictlyIncreasing (keys_of (entry ∷ table)) → Ascends from (entry ∷ table)
unfolding Ascends
ascends_on from entry [] begins up = (begins, tt)
ascends_on from entry (next ∷ table) begins up =
    let here = up 0 (omega arith) in (
      begins,
      ascends_on (entry.0 + 1) next table (omega (arith, here))
          (rest_increases entry.0 (keys_of (next ∷ table)) up),
    )

pub Ascends-increasing : {A : Type 0} (table : List (ℕ × A)) → IsStrictlyIncreasing (keys_of table) → Ascends 0 table
unfolding Ascends
Ascends-increasing [] up = tt
Ascends-increasing (entry ∷ table) up = ascends_on 0 entry table (omega arith) up

neighbours : {A : Type 0} (from : ℕ) (table : List (ℕ × A)) (k : ℕ) → Ascends from table
    → suc k < length (keys_of table) → get_or (keys_of table) k 0 < get_or (keys_of table) (suc k) 0
unfolding Ascends
neighbours from [] k ascends short = absurd (omega arith)
neighbours from (entry ∷ []) k ascends short = absurd (omega arith)
neighbours from (entry ∷ next ∷ table) zero ascends short = omega (arith, ascends.1.0)
neighbours from (entry ∷ next ∷ table) (suc k) ascends short =
    neighbours (entry.0 + 1) (next ∷ table) k ascends.1 (omega arith)

pub increasing-Ascends : {A : Type 0} (from : ℕ) (table : List (ℕ × A)) → Ascends from table
    → IsStrictlyIncreasing (keys_of table)
increasing-Ascends from table ascends = λ k short. rw add-one (neighbours from table k ascends (omega arith))

-- ---- parts

ascends_from_lower : {A : Type 0} (a b : ℕ) (table : List (ℕ × A)) → b ≤ a → Ascends a table → Ascends b table
unfolding Ascends
ascends_from_lower a b [] lower ascends = tt
ascends_from_lower a b (entry ∷ table) lower ascends = (omega (arith, ascends.0), ascends.1)

pub all_past : {A : Type 0} (n : ℕ) (table : List (ℕ × A)) → Ascends (n + 1) table
    → AllByRecursion (λ entry. n < entry.0) table
unfolding Ascends
all_past n [] ascends = tt
all_past n (entry ∷ table) ascends = (
  omega (arith, ascends.0),
  all_past n table
      (ascends_from_lower (entry.0 + 1) (n + 1) table (omega (arith, ascends.0)) ascends.1),
)

-- ---- kept

pub ascends-with_value : {A : Type 0} (a n : ℕ) (value : A) (table : List (ℕ × A)) → a ≤ n → Ascends a table
    → Ascends a (with_value n value table)
unfolding Ascends
ascends-with_value a n value [] begins ascends = (begins, tt)
ascends-with_value a n value (entry ∷ table) begins ascends =
    cond_both (nat_lt n entry.0) _ _ (Ascends a)
    (λ before. (begins, (let less = ltb-true n entry.0 before in omega arith, ascends.1)))
    (λ not'. cond_both (entry.0 == n) _ _ (Ascends a)
    (λ same. let is = eqb-true entry.0 n same in
    (begins, ascends_from_lower (entry.0 + 1) (n + 1) table (omega arith) ascends.1))
    (λ other. (
      ascends.0,
      ascends-with_value (entry.0 + 1) n value table
          (past (ltb-false n entry.0 not') (eqb-false entry.0 n other)) ascends.1,
    )))
  where
    past : entry.0 ≤ n → (entry.0 ≡ n → ⊥) → entry.0 + 1 ≤ n
    past by differ = omega (arith, differ)

pub ascends-filter : {A : Type 0} (a : ℕ) (test : ℕ × A → Bool) (table : List (ℕ × A)) → Ascends a table
    → Ascends a (filter test table)
unfolding Ascends
ascends-filter a test [] ascends = tt
ascends-filter a test (entry ∷ table) ascends =
    cond_both (test entry) _ _ (Ascends a)
    (λ passes. (ascends.0, ascends-filter (entry.0 + 1) test table ascends.1))
    (λ fails. ascends-filter a test table
    (ascends_from_lower (entry.0 + 1) a table (omega (arith, ascends.0)) ascends.1))

pub all-with_value : {A : Type 0} (P : ℕ × A → Type 0) (n : ℕ) (value : A) (table : List (ℕ × A)) → P (n, value)
    → AllByRecursion P table → AllByRecursion P (with_value n value table)
all-with_value P n value [] new all = (new, tt)
all-with_value P n value (entry ∷ table) new all =
    cond_both (nat_lt n entry.0) _ _ (AllByRecursion P)
    (λ before. (new, (all.0, all.1)))
    (λ not'. cond_both (entry.0 == n) _ _ (AllByRecursion P) (λ same. (new, all.1))
    (λ other. (all.0, all-with_value P n value table new all.1)))
