-- Lists by number without one number, and numbers that ascend with one in front of the others.
use Rattle.std.proofs.Common.{◌≡◌, ◌≢◌, ℕ, zero, suc, ◌+◌, ◌<◌, Bool, true, false, List, [], ◌∷◌, ◌++◌, arith, drop}
use Rattle.std.proofs.Common.{get_or, length, map, set, take, Option, Some, None, refl, sym, ap, subst, ◌∙◌, inl, inr}
use Rattle.std.specs.Prelude.{◌==◌, not, nat_lt, if◌then◌else◌}
use Rattle.std.specs.List.{All, Contains, filter}
use Rattle.std.specs.List.Sorted.{IsPermutation, IsStrictlyIncreasing}
use Rattle.std.proofs.lemmas.Bool.{cases_Bool, cond-false, cond-true, eq-eqb, eqb-true, false≢true, le-ltb, ne_eqb}
use Rattle.std.proofs.lemmas.Bool.{not_from_false, not_from_true, true≢false}
use Rattle.std.proofs.lemmas.List.Elements.{All-contains}
use Rattle.std.proofs.lemmas.List.Kept.{AllPairs-from_increasing}
use Rattle.std.proofs.lemmas.List.Sorted.{IsPermutation-append_comm, IsPermutation-append_left, IsPermutation-cons}
use Rattle.std.proofs.lemmas.List.Sorted.{IsPermutation-refl, IsPermutation-trans}
use Rattle.std.proofs.lemmas.Option.{none-some}
use Rattle.qg_image.specs.Table.{keys_of, value_at, with_value}
use Rattle.qg_image.proofs.Contained.{contains_cases, contains_here, contains_later, none_contained}
use Rattle.qg_owner_rule.proofs.Reaching.{entry_of_value}
use Rattle.qg_open_image.proofs.Lists.{from-mapped}
use Rattle.qg_reach.proofs.Ascending.{tables_same}

-- ---- without a number

pub not-same : (a b : ℕ) → not (a == b) ≡ true → a ≢ b
not-same a b is same = false≢true (sym (not_from_true (a == b) (eq-eqb a b same)) ∙ is)

pub other-number : (a b : ℕ) → a ≢ b → not (a == b) ≡ true
other-number a b differ = not_from_false (a == b) (ne_eqb a b differ)

-- what is told of elements by number, where some of them go
step_without : {A : Type 0} (number : A → ℕ) (n : ℕ) (x : A) (rest : List A) (ns : List ℕ) (b : Bool)
    → map number rest ≡ ns → map number (if b then x ∷ rest else rest) ≡ (if b then number x ∷ ns else ns)
step_without number n x rest ns true is = ap (λ (ms : List ℕ). number x ∷ ms) is
step_without number n x rest ns false is = is

pub numbers-without : {A : Type 0} (number : A → ℕ) (n : ℕ) (xs : List A)
    → map number (filter (λ x. not (number x == n)) xs) ≡ filter (λ m. not (m == n)) (map number xs)
numbers-without number n [] = refl
numbers-without {A} number n (x ∷ xs) =
    step_without number n x (filter (λ (y : A). not (number y == n)) xs)
    (filter (λ (m : ℕ). not (m == n)) (map number xs))
    (not (number x == n)) (numbers-without number n xs)

-- ---- numbers that ascend

tail_up : (n : ℕ) (ns : List ℕ) → IsStrictlyIncreasing (n ∷ ns) → IsStrictlyIncreasing ns
tail_up n ns up = λ k short.
    let next : suc k + 1 ≡ suc (k + 1) = omega arith in
    subst (λ (j : ℕ). get_or ns k 0 < get_or (n ∷ ns) j 0) next (up (suc k) (omega (arith, short)))

-- a later one of numbers that ascend is none of the first
later_differs : (m : ℕ) (ns : List ℕ) (k : ℕ) → IsStrictlyIncreasing (m ∷ ns) → Contains ns k → k ≢ m
later_differs m ns k up has same =
    let rise = AllPairs-from_increasing (m ∷ ns) up 0 (suc has.0) k (omega arith) (omega (arith, has.1)) in
    let is = has.2 in
    omega (arith, rise, is, same)

-- nothing goes where the number isn't there
pub all-stay : {A : Type 0} (number : A → ℕ) (n : ℕ) (xs : List A) → ((m : ℕ) → Contains (map number xs) m → m ≢ n)
    → filter (λ x. not (number x == n)) xs ≡ xs
all-stay number n [] others = refl
all-stay {A} number n (x ∷ xs) others =
    cond-true (not (number x == n)) (x ∷ filter (λ (y : A). not (number y == n)) xs)
    (filter (λ (y : A). not (number y == n)) xs)
    (other-number (number x) n (others (number x) (contains_here (number x) (map number xs))))
    ∙ ap (λ (rest : List A). x ∷ rest)
    (all-stay number n xs (λ k has. others k (contains_later (number x) (map number xs) k has)))

-- where no element is of a number, no number is that one
pub none-of : {A : Type 0} (number : A → ℕ) (n : ℕ) (xs : List A) → All (λ x. number x ≢ n) xs → (m : ℕ)
    → Contains (map number xs) m → m ≢ n
none-of {A} number n xs none m has same =
    let found = from-mapped number xs m has in
    All-contains (λ (x : A). number x ≢ n) xs found.0 none found.1 (found.2 ∙ same)

exchanged : (n m : ℕ) (ns : List ℕ) → IsPermutation (n ∷ m ∷ ns) (m ∷ n ∷ ns)
exchanged n m ns =
    IsPermutation-append_left ns (n ∷ m ∷ []) (m ∷ n ∷ []) (IsPermutation-append_comm (n ∷ []) (m ∷ []))

-- a number in front of the others is all of them
pub in-front : (n : ℕ) (ns : List ℕ) → IsStrictlyIncreasing ns → Contains ns n
    → IsPermutation (n ∷ filter (λ m. not (m == n)) ns) ns
in-front n [] up has = absurd (none_contained n has)
in-front n (m ∷ ns) up has = elim (cases_Bool (m == n)) [
  | inl same ↦
      let is : m ≡ n = eqb-true m n same in
      let gone : filter (λ (k : ℕ). not (k == n)) (m ∷ ns) ≡ ns =
      cond-false (not (m == n)) (m ∷ filter (λ (k : ℕ). not (k == n)) ns) (filter (λ (k : ℕ). not (k == n)) ns)
      (not_from_true (m == n) same)
      ∙ front_gone n m ns up is in
      subst (λ (list : List ℕ). IsPermutation (n ∷ filter (λ (k : ℕ). not (k == n)) (m ∷ ns)) list)
      (λ i. sym is i ∷ ns)
      (subst (λ (rest : List ℕ). IsPermutation (n ∷ rest) (n ∷ ns)) (sym gone) (IsPermutation-refl (n ∷ ns)))
  | inr other ↦
      let stays : filter (λ (k : ℕ). not (k == n)) (m ∷ ns) ≡ m ∷ filter (λ (k : ℕ). not (k == n)) ns =
      cond-true (not (m == n)) (m ∷ filter (λ (k : ℕ). not (k == n)) ns) (filter (λ (k : ℕ). not (k == n)) ns)
      (not_from_false (m == n) other) in
      let behind : Contains ns n = elim (contains_cases m ns n has) [
        | inl same ↦ absurd (true≢false (sym (eq-eqb m n same) ∙ other))
        | inr later ↦ later
      ] in
      let rest = in-front n ns (tail_up m ns up) behind in
      subst (λ (list : List ℕ). IsPermutation (n ∷ list) (m ∷ ns)) (sym stays)
      (IsPermutation-trans (n ∷ m ∷ filter (λ (k : ℕ). not (k == n)) ns)
      (m ∷ n ∷ filter (λ (k : ℕ). not (k == n)) ns) (m ∷ ns)
      (exchanged n m (filter (λ (k : ℕ). not (k == n)) ns))
      (IsPermutation-cons m (n ∷ filter (λ (k : ℕ). not (k == n)) ns) ns rest))
]
  where
    among : (ns : List ℕ) (j : ℕ) → Contains (map (λ k. k) ns) j → Contains ns j
    among ns j has =
        let found = from-mapped (λ (k : ℕ). k) ns j has in
        subst (λ (k : ℕ). Contains ns k) found.2 found.1

    front_gone : (n m : ℕ) (ns : List ℕ) → IsStrictlyIncreasing (m ∷ ns) → m ≡ n
        → filter (λ k. not (k == n)) ns ≡ ns
    front_gone n m ns up is =
        all-stay (λ (j : ℕ). j) n ns
        (λ j has same. later_differs m ns j up (among ns j has) (same ∙ sym is))

-- ---- the same numbers

abbrev pair : ℕ → ℕ × ℕ
pair number = (number, 0)

pairs_keys : (numbers : List ℕ) → keys_of (map pair numbers) ≡ numbers
pairs_keys [] = refl
pairs_keys (number ∷ numbers) = ap (λ (ns : List ℕ). number ∷ ns) (pairs_keys numbers)

either_zero : (b : Bool) (o : Option ℕ) → o ≡ Some 0 → (if b then Some 0 else o) ≡ Some 0
either_zero true o is = refl
either_zero false o is = is

pair_there : (numbers : List ℕ) (n : ℕ) → Contains numbers n → value_at n (map pair numbers) ≡ Some 0
pair_there [] n has = absurd (none_contained n has)
pair_there (m ∷ numbers) n has = elim (contains_cases m numbers n has) [
  | inl same ↦ cond-true (m == n) (Some 0) (value_at n (map pair numbers)) (eq-eqb m n same)
  | inr later ↦ either_zero (m == n) (value_at n (map pair numbers)) (pair_there numbers n later)
]

there_pair : (numbers : List ℕ) (n value : ℕ) → value_at n (map pair numbers) ≡ Some value → Contains numbers n
there_pair numbers n value is =
    let found = from-mapped pair numbers (n, value) (entry_of_value n value (map pair numbers) is) in
    subst (λ (k : ℕ). Contains numbers k) (ap (λ (e : ℕ × ℕ). e.0) found.2) found.1

pairs_alike : (xs ys : List ℕ) → ((n : ℕ) → Contains xs n → Contains ys n) → ((n : ℕ) → Contains ys n → Contains xs n)
    → (n : ℕ) (o p : Option ℕ) → value_at n (map pair xs) ≡ o → value_at n (map pair ys) ≡ p
    → value_at n (map pair xs) ≡ value_at n (map pair ys)
pairs_alike xs ys into back n None None first second = first ∙ sym second
pairs_alike xs ys into back n None (Some value) first second =
    absurd (none-some 0 (sym first ∙ pair_there xs n (back n (there_pair ys n value second))))
pairs_alike xs ys into back n (Some value) p first second =
    let has = there_pair xs n value first in
    pair_there xs n has ∙ sym (pair_there ys n (into n has))

-- numbers that ascend are the same where each of one list is in the other
pub numbers-same : (xs ys : List ℕ) → IsStrictlyIncreasing xs → IsStrictlyIncreasing ys
    → ((n : ℕ) → Contains xs n → Contains ys n) → ((n : ℕ) → Contains ys n → Contains xs n) → xs ≡ ys
numbers-same xs ys up up' into back =
    sym (pairs_keys xs)
    ∙ ap (λ (table : List (ℕ × ℕ)). keys_of table)
    (tables_same (map pair xs) (map pair ys)
    (subst (λ (ns : List ℕ). IsStrictlyIncreasing ns) (sym (pairs_keys xs)) up)
    (subst (λ (ns : List ℕ). IsStrictlyIncreasing ns) (sym (pairs_keys ys)) up')
    (λ n. pairs_alike xs ys into back n (value_at n (map pair xs)) (value_at n (map pair ys)) refl refl))
    ∙ pairs_keys ys

-- ---- one taken out at its place

-- the first is of no later number
first_apart : {A : Type 0} (number : A → ℕ) (x : A) (xs : List A) (i : ℕ) (d : A)
    → IsStrictlyIncreasing (number x ∷ map number xs) → i < length xs → number x ≢ number (get_or xs i d)
first_apart {A} number x xs i d up inside same =
    later_differs (number x) (map number xs) (number (get_or xs i d)) up
    (mapped xs i inside) (sym same)
  where
    mapped : (ys : List A) (k : ℕ) → k < length ys → Contains (map number ys) (number (get_or ys k d))
    mapped [] k below = absurd (omega (arith, below))
    mapped (y ∷ ys) zero below = contains_here (number y) (map number ys)
    mapped (y ∷ ys) (suc k) below =
        contains_later (number y) (map number ys) (number (get_or ys k d)) (mapped ys k (omega (arith, below)))

-- where numbers ascend, what is left where one is taken out is the rest without its number
pub removed-without : {A : Type 0} (number : A → ℕ) (xs : List A) (i : ℕ) (d : A) (n : ℕ)
    → IsStrictlyIncreasing (map number xs) → i < length xs → number (get_or xs i d) ≡ n
    → take i xs ++ drop (suc i) xs ≡ filter (λ x. not (number x == n)) xs
removed-without number [] i d n up inside is = absurd (omega (arith, inside))
removed-without {A} number (x ∷ xs) zero d n up inside is =
    sym (cond-false (not (number x == n)) (x ∷ filter (λ (y : A). not (number y == n)) xs)
    (filter (λ (y : A). not (number y == n)) xs) (not_from_true (number x == n) (eq-eqb (number x) n is))
    ∙ all-stay number n xs (λ m has same. later_differs (number x) (map number xs) m up has (same ∙ sym is)))
removed-without {A} number (x ∷ xs) (suc i) d n up inside is =
    let below : i < length xs = omega (arith, inside) in
    ap (λ (rest : List A). x ∷ rest)
    (removed-without number xs i d n (tail_up (number x) (map number xs) up) below is)
    ∙ sym (cond-true (not (number x == n)) (x ∷ filter (λ (y : A). not (number y == n)) xs)
    (filter (λ (y : A). not (number y == n)) xs)
    (other-number (number x) n (λ same. first_apart number x xs i d up below (same ∙ sym is))))

-- and another value in its place is the table with that value
pub set-with : {A : Type 0} (table : List (ℕ × A)) (i : ℕ) (d : ℕ × A) (n : ℕ) (value : A)
    → IsStrictlyIncreasing (keys_of table) → i < length table → (get_or table i d).0 ≡ n
    → set table i (n, value) ≡ with_value n value table
set-with [] i d n value up inside is = absurd (omega (arith, inside))
set-with {A} (entry ∷ table) zero d n value up inside is =
    sym (cond-false (nat_lt n entry.0) ((n, value) ∷ entry ∷ table)
    (if entry.0 == n then (n, value) ∷ table else entry ∷ with_value n value table)
    (le-ltb n entry.0 (omega (arith, is)))
    ∙ cond-true (entry.0 == n) ((n, value) ∷ table) (entry ∷ with_value n value table) (eq-eqb entry.0 n is))
set-with {A} (entry ∷ table) (suc i) d n value up inside is =
    let below : i < length table = omega (arith, inside) in
    let first = less (entry.0) (keys_of table) up n
    (subst (λ (m : ℕ). Contains (keys_of table) m) is (keyed table i d below)) in
    ap (λ (rest : List (ℕ × A)). entry ∷ rest)
    (set-with table i d n value (tail_up entry.0 (keys_of table) up) below is)
    ∙ sym (cond-false (nat_lt n entry.0) ((n, value) ∷ entry ∷ table)
    (if entry.0 == n then (n, value) ∷ table else entry ∷ with_value n value table)
    (le-ltb n entry.0 (omega (arith, first)))
    ∙ cond-false (entry.0 == n) ((n, value) ∷ table) (entry ∷ with_value n value table)
    (ne_eqb entry.0 n (λ same. omega (arith, first, same))))
  where
    keyed : {B : Type 0} (rest : List (ℕ × B)) (k : ℕ) (e : ℕ × B) → k < length rest
        → Contains (keys_of rest) (get_or rest k e).0
    keyed [] k e below = absurd (omega (arith, below))
    keyed (f ∷ rest) zero e below = contains_here f.0 (keys_of rest)
    keyed (f ∷ rest) (suc k) e below =
        contains_later f.0 (keys_of rest) (get_or rest k e).0 (keyed rest k e (omega (arith, below)))

    less : (m : ℕ) (ns : List ℕ) → IsStrictlyIncreasing (m ∷ ns) → (k : ℕ) → Contains ns k → m < k
    less m ns rises k has =
        let rise = AllPairs-from_increasing (m ∷ ns) rises 0 (suc has.0) k (omega arith) (omega (arith, has.1)) in
        let is = has.2 in
        omega (arith, rise, is)
