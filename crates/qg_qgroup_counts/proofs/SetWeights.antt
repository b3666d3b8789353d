-- Sums of bytes by set, one portion and one set after the other.
use Rattle.std.proofs.Common.{◌≡◌, ℕ, zero, suc, ◌+◌, ◌<◌, ◌≤◌, Bool, true, false, List, [], ◌∷◌, ◌++◌, length, take}
use Rattle.std.proofs.Common.{get_or, set}
use Rattle.std.proofs.Common.{refl, sym, ap, ◌∙◌, arith, ◌↔◌, length-take}
use Rattle.std.specs.Prelude.{◌&&◌, replicate}
use Rattle.std.proofs.lemmas.Bool.{eq-eqb, ne_eqb, true≢false}
use Rattle.std.proofs.lemmas.List.{take_more}
use Rattle.qg_num.specs.declared.counters.Counters.{Counters}
use Rattle.qg_qgroup_counts.specs.Sets.{HasMember}
use Rattle.qg_qgroup_counts.specs.declared.counting.Portion.{Portion}
use Rattle.qg_qgroup_counts.specs.Portions.{given, bytes_where, sum_where, row_has, member_count}

-- ---- a number or 0

pub given_is : (b : Bool) (n : ℕ) → b ≡ true → given b n ≡ n
unfolding given
given_is b n is = ap (λ c. given c n) is

pub given_not : (b : Bool) (n : ℕ) → b ≡ false → given b n ≡ 0
unfolding given
given_not b n is = ap (λ c. given c n) is

given_sum : (b : Bool) (n m : ℕ) → given b (n + m) ≡ given b n + given b m
given_sum true n m = omega (arith, given_is true (n + m) refl, given_is true n refl, given_is true m refl)
given_sum false n m = omega (arith, given_not false (n + m) refl, given_not false n refl, given_not false m refl)

given_le : (b : Bool) (n : ℕ) → given b n ≤ n
given_le true n = omega (arith, given_is true n refl)
given_le false n = omega (arith, given_not false n refl)

given_none : (b : Bool) → given b 0 ≡ 0
given_none true = given_is true 0 refl
given_none false = given_not false 0 refl

-- ---- members

pub has_is : (b : Bool) (row : List ℕ) (member : ℕ) → (b ≡ true) ↔ HasMember row member → b ≡ row_has row member
has_is true row member is = sym (eq-eqb _ _ (is.0 refl))
has_is false row member is = sym (ne_eqb _ _ (λ has. true≢false (sym (is.1 has))))

pub count_first : (row : List ℕ) → member_count row 0 ≡ 0
unfolding member_count
count_first row = refl

pub count_suc : (row : List ℕ) (n : ℕ) → member_count row (suc n) ≡ given (row_has row n) 1 + member_count row n
unfolding member_count
count_suc row n = refl

-- ---- sums by index

sum_none : (test : ℕ → Bool) (first : ℕ) → sum_where test first [] ≡ 0
unfolding sum_where
sum_none test first = refl

sum_one : (test : ℕ → Bool) (first n : ℕ) (ns : List ℕ)
    → sum_where test first (n ∷ ns) ≡ given (test first) n + sum_where test (first + 1) ns
unfolding sum_where
sum_one test first n ns = refl

sum_more : (test : ℕ → Bool) (first : ℕ) (ns : List ℕ) (n : ℕ)
    → sum_where test first (ns ++ n ∷ []) ≡ sum_where test first ns + given (test (first + length ns)) n
sum_more test first [] n =
    let here : first + 0 ≡ first = omega arith in
    let same : given (test (first + length {A = ℕ} [])) n ≡ given (test first) n = ap (λ k. given (test k) n) here in
    let one : sum_where test first ([] ++ n ∷ []) ≡ given (test first) n + sum_where test (first + 1) [] =
    sum_one test first n [] in
    omega (arith, same, one, sum_none test first, sum_none test (first + 1))
sum_more test first (m ∷ ns) n =
    let next : first + length (m ∷ ns) ≡ first + 1 + length ns = omega arith in
    let same = ap (λ k. given (test k) n) next in
    let one : sum_where test first ((m ∷ ns) ++ n ∷ []) ≡ given (test first) m + sum_where test (first + 1)
    (ns ++ n ∷ []) =
    sum_one test first m (ns ++ n ∷ []) in
    omega (arith, one, sum_one test first m ns, sum_more test (first + 1) ns n, same)

pub sum_next : (test : ℕ → Bool) (ns : List ℕ) (i : ℕ) → i < length ns
    → sum_where test 0 (take (i + 1) ns) ≡ sum_where test 0 (take i ns) + given (test i) (get_or ns i 0)
sum_next test ns i short =
    let long : 0 + length (take i ns) ≡ i = omega (arith, length-take i ns, short) in
    ap (sum_where test 0) (take_more ns i 0 short) ∙ sum_more test 0 (take i ns) (get_or ns i 0)
    ∙ ap (λ k. sum_where test 0 (take i ns) + given (test k) (get_or ns i 0)) long

sum_written : (test : ℕ → Bool) (first : ℕ) (ns : List ℕ) (k n : ℕ) → k < length ns
    → sum_where test first (set ns k (get_or ns k 0 + n)) ≡ sum_where test first ns + given (test (first + k)) n
sum_written test first [] k n short = absurd (omega (arith, short))
sum_written test first (m ∷ ns) zero n short =
    let here : first + 0 ≡ first = omega arith in
    let same : given (test (first + 0)) n ≡ given (test first) n = ap (λ k. given (test k) n) here in
    let new : sum_where test first (set (m ∷ ns) 0 (get_or (m ∷ ns) 0 0 + n))
    ≡ given (test first) (m + n) + sum_where test (first + 1) ns = sum_one test first (m + n) ns in
    omega (arith, new, given_sum (test first) m n, same, sum_one test first m ns)
sum_written test first (m ∷ ns) (suc k) n short =
    let next : first + suc k ≡ first + 1 + k = omega arith in
    let same = ap (λ j. given (test j) n) next in
    let rest = sum_written test (first + 1) ns k n (omega (arith, short)) in
    let new : sum_where test first (set (m ∷ ns) (suc k) (get_or (m ∷ ns) (suc k) 0 + n))
    ≡ given (test first) m + sum_where test (first + 1) (set ns k (get_or ns k 0 + n)) =
    sum_one test first m (set ns k (get_or ns k 0 + n)) in
    omega (arith, new, rest, same, sum_one test first m ns)

pub written : (test : ℕ → Bool) (ns : List ℕ) (k n : ℕ) → k < length ns
    → sum_where test 0 (set ns k (get_or ns k 0 + n)) ≡ sum_where test 0 ns + given (test k) n
written test ns k n short =
    let here : 0 + k ≡ k = omega arith in
    sum_written test 0 ns k n short ∙ ap (λ j. sum_where test 0 ns + given (test j) n) here

pub sum_le : (test : ℕ → Bool) (first : ℕ) (ns : List ℕ) → sum_where test first ns ≤ sum_where (λ _. true) first ns
sum_le test first [] = omega (arith, sum_none test first, sum_none (λ _. true) first)
sum_le test first (n ∷ ns) =
    omega (
      arith,
      sum_one test first n ns,
      sum_one (λ _. true) first n ns,
      given_le (test first) n,
      given_is true n refl,
      sum_le test (first + 1) ns,
    )

pub take_le : (test : ℕ → Bool) (first i : ℕ) (ns : List ℕ) → sum_where test first (take i ns) ≤ sum_where test first ns
take_le test first zero ns =
    let is : sum_where test first (take 0 ns) ≡ 0 = sum_none test first in omega (arith, is)
take_le test first (suc i) [] =
    let is : sum_where test first (take (suc i) []) ≡ 0 = sum_none test first in omega (arith, is)
take_le test first (suc i) (n ∷ ns) =
    let is : sum_where test first (take (suc i) (n ∷ ns))
    ≡ given (test first) n + sum_where test (first + 1) (take i ns) = sum_one test first n (take i ns) in
    omega (arith, is, sum_one test first n ns, take_le test (first + 1) i ns)

at_le : (first : ℕ) (ns : List ℕ) (k : ℕ) → k < length ns → get_or ns k 0 ≤ sum_where (λ _. true) first ns
at_le first [] k short = absurd (omega (arith, short))
at_le first (n ∷ ns) zero short =
    let is : get_or (n ∷ ns) 0 0 ≡ n = refl in
    omega (arith, is, sum_one (λ _. true) first n ns, given_is true n refl)
at_le first (n ∷ ns) (suc k) short =
    let is : get_or (n ∷ ns) (suc k) 0 ≡ get_or ns k 0 = refl in
    omega (arith, is, sum_one (λ _. true) first n ns, at_le (first + 1) ns k (omega (arith, short)))

pub sum_zeros : (test : ℕ → Bool) (first n : ℕ) → sum_where test first (replicate n 0) ≡ 0
sum_zeros test first zero = sum_none test first
sum_zeros test first (suc n) =
    let is : sum_where test first (replicate (suc n) 0)
    ≡ given (test first) 0 + sum_where test (first + 1) (replicate n 0) = sum_one test first 0 (replicate n 0) in
    omega (arith, is, given_none (test first), sum_zeros test (first + 1) n)

pub sum_start : (test : ℕ → Bool) → 0 ≡ sum_where test 0 []
sum_start test = sym (sum_none test 0)

pub first_false : (a b : Bool) → a ≡ false → (a && b) ≡ false
first_false false b _ = refl
first_false true b wrong = absurd (true≢false wrong)

-- ---- bytes of portions

bytes_none : (test : ℕ → Bool) → bytes_where test [] ≡ 0
unfolding bytes_where
bytes_none test = refl

bytes_one : (test : ℕ → Bool) (p : Portion) (ps : List Portion)
    → bytes_where test (p ∷ ps) ≡ given (test p.set) p.bytes + bytes_where test ps
unfolding bytes_where
bytes_one test p ps = refl

bytes_more : (test : ℕ → Bool) (ps : List Portion) (p : Portion)
    → bytes_where test (ps ++ p ∷ []) ≡ bytes_where test ps + given (test p.set) p.bytes
bytes_more test [] p =
    let is : bytes_where test ([] ++ p ∷ []) ≡ given (test p.set) p.bytes + bytes_where test [] = bytes_one test p [] in
    omega (arith, is, bytes_none test)
bytes_more test (q ∷ ps) p =
    let is : bytes_where test ((q ∷ ps) ++ p ∷ []) ≡ given (test q.set) q.bytes + bytes_where test (ps ++ p ∷ []) =
    bytes_one test q (ps ++ p ∷ []) in
    omega (arith, is, bytes_one test q ps, bytes_more test ps p)

pub bytes_next : (test : ℕ → Bool) (ps : List Portion) (i : ℕ) (p : Portion) → i < length ps → p ≡ get_or ps i p
    → bytes_where test (take (i + 1) ps) ≡ bytes_where test (take i ps) + given (test p.set) p.bytes
bytes_next test ps i p short is =
    ap (bytes_where test) (take_more ps i p short) ∙ bytes_more test (take i ps) (get_or ps i p)
    ∙ ap (λ (q : Portion). bytes_where test (take i ps) + given (test q.set) q.bytes) (sym is)

bytes_take_le : (test : ℕ → Bool) (i : ℕ) (ps : List Portion) → bytes_where test (take i ps) ≤ bytes_where test ps
bytes_take_le test zero ps =
    let is : bytes_where test (take 0 ps) ≡ 0 = bytes_none test in omega (arith, is)
bytes_take_le test (suc i) [] =
    let is : bytes_where test (take (suc i) []) ≡ 0 = bytes_none test in omega (arith, is)
bytes_take_le test (suc i) (p ∷ ps) =
    let is : bytes_where test (take (suc i) (p ∷ ps)) ≡ given (test p.set) p.bytes + bytes_where test (take i ps) =
    bytes_one test p (take i ps) in
    omega (arith, is, bytes_one test p ps, bytes_take_le test i ps)

pub bytes_start : (test : ℕ → Bool) (ps : List Portion) → bytes_where test (take 0 ps) ≡ 0
bytes_start test ps = bytes_none test

-- a sum of a set and one portion more are below the bytes of all
pub added_small : (sums : List ℕ) (ps : List Portion) (i : ℕ) (p : Portion) (k bound : ℕ) → i < length ps
    → p ≡ get_or ps i p → k < length sums
    → sum_where (λ _. true) 0 sums ≡ bytes_where (λ _. true) (take i ps) → bytes_where (λ _. true) ps < bound
    → get_or sums k 0 + p.bytes < bound
added_small sums ps i p k bound short is inside same small =
    omega (
      arith,
      at_le 0 sums k inside,
      same,
      bytes_next (λ _. true) ps i p short is,
      given_is true p.bytes refl,
      bytes_take_le (λ _. true) (i + 1) ps,
      small,
    )

-- the bytes of one portion fit
pub one_small : (p : Portion) (bound : ℕ) → p.bytes < bound → bytes_where (λ _. true) (p ∷ []) < bound
one_small p bound small =
    omega (arith, bytes_one (λ _. true) p [], bytes_none (λ _. true), given_is true p.bytes refl, small)

-- ---- counters

abbrev pub made : ℕ → ℕ → Counters
made rfer excl = record { rfer = rfer; excl = excl }

pub counters_same : (a b : Counters) → a.rfer ≡ b.rfer → a.excl ≡ b.excl → a ≡ b
counters_same a b first second = ap (λ n. made n a.excl) first ∙ ap (made b.rfer) second
