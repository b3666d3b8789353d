-- Tables by number that ascend: what an edit at a place leaves.
use Rattle.std.proofs.Common.{◌≡◌, ℕ, zero, suc, ◌+◌, ◌<◌, ◌≤◌, Bool, true, false, List, [], ◌∷◌, ◌++◌, arith, drop}
use Rattle.std.proofs.Common.{get_or, length, map, take, Option, Some, None, refl, sym, ap, subst, ◌∙◌, inl, inr, cond}
use Rattle.std.proofs.Common.{nat_lt}
use Rattle.std.specs.Prelude.{◌==◌, ◌||◌, if◌then◌else◌, is_some, not, remove, slice_set}
use Rattle.std.specs.List.{All}
use Rattle.std.specs.Option.{option_map}
use Rattle.std.specs.List.Sorted.{IsStrictlySortedBy, IsNonDecreasingBy}
use Rattle.std.specs.Ordering.{nat_cmp}
use Rattle.std.proofs.lemmas.Bool.{cases_Bool, cases_eq, cases_lt, cond-false, cond-true, eq-eqb, eqb-false, eqb-true}
use Rattle.std.proofs.lemmas.Bool.{le-ltb, lt-ltb, ltb-true, ne_eqb, true≢false}
use Rattle.std.proofs.lemmas.Bool.Decides.{eqb_tells, nat_tests}
use Rattle.std.proofs.lemmas.List.{drop_all, get_or-map, get_or_default, get_or-take, length-map, length-take-le}
use Rattle.std.proofs.lemmas.List.{take_all, take_more}
use Rattle.std.proofs.lemmas.Map.Keys.{below_from_sorted, sorted_tail}
use Rattle.qg_image.specs.Table.{keys_of, value_at, with_value, without_key}
use Rattle.qg_qgroups.specs.Groups.{has_number}

same_turned : (a b : ℕ) → (a == b) ≡ (b == a)
same_turned a b = grind (arith, nat_tests)

module _ {A : Type 0} where
  -- ---- numbers by place

  -- of two entries the later one has the greater number
  pub later-greater : (table : List (ℕ × A)) (i j : ℕ) (d e : ℕ × A) → IsStrictlySortedBy nat_cmp (keys_of table)
      → i < j → j < length table
      → (get_or table i d).0 < (get_or table j e).0
  later-greater table i j d e ascend less inside =
      let first : get_or (keys_of table) i 0 ≡ (get_or table i d).0 =
      get_or-map (λ (entry : ℕ × A). entry.0) table i d 0 (omega (arith, less, inside)) in
      let second : get_or (keys_of table) j 0 ≡ (get_or table j e).0 =
      get_or-map (λ (entry : ℕ × A). entry.0) table j e 0 inside in
      let many : length (keys_of table) ≡ length table = length-map table (λ (entry : ℕ × A). entry.0) in
      let rises : get_or (keys_of table) i 0 < get_or (keys_of table) j 0 =
      below_from_sorted (keys_of table) i j 0 ascend less (omega (arith, many, inside)) in
      omega (arith, first, second, rises)

  -- numbers don't fall
  pub numbers-rise : (table : List (ℕ × A)) → IsStrictlySortedBy nat_cmp (keys_of table)
      → IsNonDecreasingBy (λ entry. entry.0) table
  numbers-rise table ascend i j d le inside = elim (eqb_tells i j) [
    | inl (equal, here) ↦
        let same : (get_or table i d).0 ≡ (get_or table j d).0 = ap (λ (k : ℕ). (get_or table k d).0) here in
        omega (arith, same)
    | inr (unequal, apart) ↦
        let rises : (get_or table i d).0 < (get_or table j d).0 =
        later-greater table i j d d ascend (omega (arith, le, apart)) inside in
        omega (arith, rises)
  ]

  -- where the entry at a place has a greater number, so have those behind
  pub behind-greater : (table : List (ℕ × A)) (n place : ℕ) → IsStrictlySortedBy nat_cmp (keys_of table)
      → ((d : ℕ × A) → place < length table → n < (get_or table place d).0)
      → (k : ℕ) (d : ℕ × A) → place ≤ k → k < length table → n < (get_or table k d).0
  behind-greater table n place ascend here k d le inside = elim (eqb_tells place k) [
    | inl (equal, same) ↦
        let moved : (get_or table place d).0 ≡ (get_or table k d).0 = ap (λ (i : ℕ). (get_or table i d).0) same in
        let first : n < (get_or table place d).0 = here d (omega (arith, same, inside)) in
        omega (arith, moved, first)
    | inr (unequal, apart) ↦
        let first : n < (get_or table place d).0 = here d (omega (arith, le, inside)) in
        let rises : (get_or table place d).0 < (get_or table k d).0 =
        later-greater table place k d d ascend (omega (arith, le, apart)) inside in
        omega (arith, first, rises)
  ]

  -- ---- an edit at a place

  -- a number that none behind its place has is put in front of them
  pub put-new : (n : ℕ) (value : A) (table : List (ℕ × A)) (place : ℕ) → place ≤ length table
      → ((k : ℕ) (d : ℕ × A) → k < place → (get_or table k d).0 < n)
      → ((d : ℕ × A) → place < length table → n < (get_or table place d).0)
      → with_value n value table ≡ take place table ++ (n, value) ∷ drop place table
  put-new n value [] zero inside before behind = refl
  put-new n value [] (suc place) inside before behind = absurd (omega (arith, inside))
  put-new n value (e ∷ table) zero inside before behind = cond-true _ _ _ (lt-ltb n e.0 (behind e (omega arith)))
  put-new n value (e ∷ table) (suc place) inside before behind =
      let low : e.0 < n = before 0 e (omega arith) in
      cond-false _ _ _ (le-ltb n e.0 (omega (arith, low)))
      ∙ cond-false _ _ _ (ne_eqb e.0 n (λ same. omega (arith, low, same)))
      ∙ ap (λ (later : List (ℕ × A)). e ∷ later)
      (put-new n value table place (omega (arith, inside)) (λ k d less. before (suc k) d (omega (arith, less)))
      (λ d less. behind d (omega (arith, less))))

  -- the entry of a number that is there is put in its place
  pub put-old : (n : ℕ) (value : A) (table : List (ℕ × A)) (place : ℕ) → place < length table
      → ((k : ℕ) (d : ℕ × A) → k < place → (get_or table k d).0 < n) → ((d : ℕ × A) → (get_or table place d).0 ≡ n)
      → with_value n value table ≡ slice_set table place (n, value)
  put-old n value [] place inside before at = absurd (omega (arith, inside))
  put-old n value (e ∷ table) zero inside before at =
      let same : e.0 ≡ n = at e in
      cond-false _ _ _ (le-ltb n e.0 (omega (arith, same))) ∙ cond-true _ _ _ (eq-eqb e.0 n same)
  put-old n value (e ∷ table) (suc place) inside before at =
      let low : e.0 < n = before 0 e (omega arith) in
      cond-false _ _ _ (le-ltb n e.0 (omega (arith, low)))
      ∙ cond-false _ _ _ (ne_eqb e.0 n (λ same. omega (arith, low, same)))
      ∙ ap (λ (later : List (ℕ × A)). e ∷ later)
      (put-old n value table place (omega (arith, inside)) (λ k d less. before (suc k) d (omega (arith, less))) at)

  pub found-there : (n : ℕ) (table : List (ℕ × A)) (place : ℕ) (one : ℕ × A) → place < length table
      → ((k : ℕ) (d : ℕ × A) → k < place → (get_or table k d).0 < n) → one ≡ get_or table place one → one.0 ≡ n
      → value_at n table ≡ Some one.1
  found-there n [] place one inside before is same = absurd (omega (arith, inside))
  found-there n (e ∷ table) zero one inside before is same =
      let own : e.0 ≡ n = ap (λ (x : ℕ × A). x.0) (sym is) ∙ same in
      cond-true _ _ _ (eq-eqb e.0 n own) ∙ ap (λ (x : ℕ × A). Some x.1) (sym is)
  found-there n (e ∷ table) (suc place) one inside before is same =
      let low : e.0 < n = before 0 e (omega arith) in
      cond-false _ _ _ (ne_eqb e.0 n (λ equal. omega (arith, low, equal)))
      ∙ found-there n table place one (omega (arith, inside)) (λ k d less. before (suc k) d (omega (arith, less))) is
      same

  -- no number is there that all others differ from
  pub none-there : (n : ℕ) (table : List (ℕ × A)) → ((k : ℕ) (d : ℕ × A) → k < length table → (get_or table k d).0 ≡ n
      → ⊥) → value_at n table ≡ None
  none-there n [] apart = refl
  none-there n (e ∷ table) apart =
      cond-false _ _ _ (ne_eqb e.0 n (λ same. apart 0 e (omega arith) same))
      ∙ none-there n table (λ k d inside same. apart (suc k) d (omega (arith, inside)) same)

  -- and nothing is taken away then
  pub kept-all : (n : ℕ) (table : List (ℕ × A)) → ((k : ℕ) (d : ℕ × A) → k < length table → (get_or table k d).0 ≡ n
      → ⊥) → without_key n table ≡ table
  kept-all n [] apart = refl
  kept-all n (e ∷ table) apart =
      cond-true _ _ _ (ap not (ne_eqb e.0 n (λ same. apart 0 e (omega arith) same)))
      ∙ ap (λ (later : List (ℕ × A)). e ∷ later)
      (kept-all n table (λ k d inside same. apart (suc k) d (omega (arith, inside)) same))

  -- the one entry of a number is taken out of its place
  pub taken-out : (n : ℕ) (table : List (ℕ × A)) (place : ℕ) → place < length table
      → ((k : ℕ) (d : ℕ × A) → k < place → (get_or table k d).0 < n) → ((d : ℕ × A) → (get_or table place d).0 ≡ n)
      → ((k : ℕ) (d : ℕ × A) → place < k → k < length table → n < (get_or table k d).0)
      → without_key n table ≡ remove table place
  taken-out n [] place inside before at behind = absurd (omega (arith, inside))
  taken-out n (e ∷ table) zero inside before at behind =
      cond-false _ _ _ (ap not (eq-eqb e.0 n (at e)))
      ∙ kept-all n table (λ k d less same. omega (arith, same, behind (suc k) d (omega arith) (omega (arith, less))))
  taken-out n (e ∷ table) (suc place) inside before at behind =
      let low : e.0 < n = before 0 e (omega arith) in
      cond-true _ _ _ (ap not (ne_eqb e.0 n (λ same. omega (arith, low, same))))
      ∙ ap (λ (later : List (ℕ × A)). e ∷ later)
      (taken-out n table place (omega (arith, inside)) (λ k d less. before (suc k) d (omega (arith, less))) at
      (λ k d less within. behind (suc k) d (omega (arith, less)) (omega (arith, within))))

  -- ---- what is found after an edit

  put_here : (a b c : Bool) (x y z : Option A) → a ≡ b → (b ≡ false → c ≡ false) → cond a x y ≡ cond b x (cond c z y)
  put_here a true c x y z is other = ap (λ (t : Bool). cond t x y) is
  put_here a false c x y z is other = ap (λ (t : Bool). cond t x y) is ∙ sym (cond-false c z y (other refl))

  put_later : (b c : Bool) (x y z w : Option A) → w ≡ cond b x y → (b ≡ true → c ≡ false)
      → cond c z w ≡ cond b x (cond c z y)
  put_later true c x y z w is other = cond-false c z w (other refl) ∙ is
  put_later false c x y z w is other = ap (λ (t : Option A). cond c z t) is

  -- what was put at a number is found there alone
  pub value-put : (n : ℕ) (value : A) (table : List (ℕ × A)) (m : ℕ)
      → value_at m (with_value n value table) ≡ (if m == n then Some value else value_at m table)
  value-put n value [] m = ap (λ (b : Bool). if b then Some value else None) (same_turned n m)
  value-put n value (e ∷ table) m = elim (cases_Bool (nat_lt n e.0)) [
    | inl less ↦
        ap (λ (t : List (ℕ × A)). value_at m t) (cond-true (nat_lt n e.0) ((n, value) ∷ e ∷ table) _ less)
        ∙ ap (λ (b : Bool). if b then Some value else value_at m (e ∷ table)) (same_turned n m)
    | inr no_less ↦
        ap (λ (t : List (ℕ × A)). value_at m t) (cond-false (nat_lt n e.0) ((n, value) ∷ e ∷ table) _ no_less)
        ∙ elim (cases_Bool (e.0 == n)) [
          | inl same ↦
              ap (λ (t : List (ℕ × A)). value_at m t)
              (cond-true (e.0 == n) ((n, value) ∷ table) (e ∷ with_value n value table) same)
              ∙ put_here (n == m) (m == n) (e.0 == m) (Some value) (value_at m table) (Some e.1) (same_turned n m)
              (λ apart. ne_eqb e.0 m (λ here. eqb-false m n apart (sym here ∙ eqb-true e.0 n same)))
          | inr differ ↦
              ap (λ (t : List (ℕ × A)). value_at m t)
              (cond-false (e.0 == n) ((n, value) ∷ table) (e ∷ with_value n value table) differ)
              ∙ put_later (m == n) (e.0 == m) (Some value) (value_at m table) (Some e.1)
              (value_at m (with_value n value table)) (value-put n value table m)
              (λ here. ne_eqb e.0 m (λ own. eqb-false e.0 n differ (own ∙ eqb-true m n here)))
        ]
  ]

  -- what was taken away at a number is missing there alone
  pub value-left : (n : ℕ) (table : List (ℕ × A)) (m : ℕ)
      → value_at m (without_key n table) ≡ (if m == n then None else value_at m table)
  value-left n [] m = elim (cases_Bool (m == n)) [
    | inl here ↦ sym (cond-true (m == n) None None here)
    | inr apart ↦ sym (cond-false (m == n) None None apart)
  ]
  value-left n (e ∷ table) m = elim (cases_Bool (e.0 == n)) [
    | inl same ↦
        ap (λ (t : List (ℕ × A)). value_at m t)
        (cond-false (not (e.0 == n)) (e ∷ without_key n table) (without_key n table) (ap not same))
        ∙ value-left n table m
        ∙ put_here (m == n) (m == n) (e.0 == m) None (value_at m table) (Some e.1) refl
        (λ apart. ne_eqb e.0 m (λ here. eqb-false m n apart (sym here ∙ eqb-true e.0 n same)))
    | inr differ ↦
        ap (λ (t : List (ℕ × A)). value_at m t)
        (cond-true (not (e.0 == n)) (e ∷ without_key n table) (without_key n table) (ap not differ))
        ∙ put_later (m == n) (e.0 == m) None (value_at m table) (Some e.1) (value_at m (without_key n table))
        (value-left n table m)
        (λ here. ne_eqb e.0 m (λ own. eqb-false e.0 n differ (own ∙ eqb-true m n here)))
  ]

  -- ---- keys

  -- a number is among the keys exactly if something is found at it
  pub key-found : (n : ℕ) (table : List (ℕ × A)) → has_number n (keys_of table) ≡ is_some (value_at n table)
  key-found n [] = refl
  key-found n (e ∷ table) = choice (e.0 == n) (key-found n table) where
    choice : (b : Bool) → has_number n (keys_of table) ≡ is_some (value_at n table)
        → (b || has_number n (keys_of table)) ≡ is_some (if b then Some e.1 else value_at n table)
    choice true rest = refl
    choice false rest = rest

  -- another value at a number that is there leaves the keys
  pub keys-still : (n : ℕ) (value : A) (table : List (ℕ × A)) → IsStrictlySortedBy nat_cmp (keys_of table)
      → is_some (value_at n table) ≡ true
      → keys_of (with_value n value table) ≡ keys_of table
  keys-still n value [] ascend had = absurd (true≢false (sym had))
  keys-still n value (e ∷ table) ascend had = elim (cases_Bool (nat_lt n e.0)) [
    | inl less ↦
        let absent : value_at n (e ∷ table) ≡ None = none-there n (e ∷ table)
        (λ k d inside same. omega (
          arith,
          same,
          behind-greater (e ∷ table) n 0 ascend (λ d some. ltb-true n e.0 less) k
              d (omega arith) inside,
        )) in
        absurd (true≢false (sym had ∙ ap (λ (o : Option A). is_some o) absent))
    | inr no_less ↦
        ap (λ (t : List (ℕ × A)). keys_of t) (cond-false (nat_lt n e.0) ((n, value) ∷ e ∷ table) _ no_less)
        ∙ elim (cases_Bool (e.0 == n)) [
          | inl same ↦
              ap (λ (t : List (ℕ × A)). keys_of t)
              (cond-true (e.0 == n) ((n, value) ∷ table) (e ∷ with_value n value table) same)
              ∙ ap (λ (k : ℕ). k ∷ keys_of table) (sym (eqb-true e.0 n same))
          | inr differ ↦
              ap (λ (t : List (ℕ × A)). keys_of t)
              (cond-false (e.0 == n) ((n, value) ∷ table) (e ∷ with_value n value table) differ)
              ∙ ap (λ (ks : List ℕ). e.0 ∷ ks)
              (keys-still n value table (sorted_tail nat_cmp e.0 (keys_of table) ascend)
              (sym (ap (λ (o : Option A). is_some o) (cond-false (e.0 == n) (Some e.1) (value_at n table) differ))
              ∙ had))
        ]
  ]

  -- ---- a table that is made from its front

  -- each entry is found at its number
  pub each-found : (table : List (ℕ × A)) → IsStrictlySortedBy nat_cmp (keys_of table)
      → All (λ entry. value_at entry.0 table ≡ Some entry.1) table
  each-found table ascend = λ k d inside.
      found-there (get_or table k d).0 table k (get_or table k d) inside
      (λ j e less. later-greater table j k e d ascend less inside) (get_or_default table k d (get_or table k d) inside)
      refl

  -- nothing is found in front of the entry at a place at its number
  pub none-before : (table : List (ℕ × A)) (i : ℕ) (one : ℕ × A) → IsStrictlySortedBy nat_cmp (keys_of table)
      → i < length table → one ≡ get_or table i one
      → value_at one.0 (take i table) ≡ None
  none-before table i one ascend inside is = none-there one.0 (take i table) (λ k d within same.
      let many : length (take i table) ≡ i = length-take-le i table (omega (arith, inside)) in
      let at : (get_or (take i table) k d).0 ≡ (get_or table k d).0 =
      ap (λ (e : ℕ × A). e.0) (get_or-take i table k d (omega (arith, within, many))) in
      let own : one.0 ≡ (get_or table i one).0 = ap (λ (e : ℕ × A). e.0) is in
      let rises : (get_or table k d).0 < (get_or table i one).0 =
      later-greater table k i d one ascend (omega (arith, within, many)) inside in
      omega (arith, at, own, rises, same))

  -- the front with the next entry put into it is the next front
  pub next-front : (table : List (ℕ × A)) (i : ℕ) (one : ℕ × A) → IsStrictlySortedBy nat_cmp (keys_of table)
      → i < length table → one ≡ get_or table i one
      → with_value one.0 one.1 (take i table) ≡ take (i + 1) table
  next-front table i one ascend inside is =
      let many : length (take i table) ≡ i = length-take-le i table (omega (arith, inside)) in
      let low : (k : ℕ) (d : ℕ × A) → k < i → (get_or (take i table) k d).0 < one.0 = λ k d less.
      let at : (get_or (take i table) k d).0 ≡ (get_or table k d).0 =
      ap (λ (e : ℕ × A). e.0) (get_or-take i table k d less) in
      let own : one.0 ≡ (get_or table i one).0 = ap (λ (e : ℕ × A). e.0) is in
      let rises : (get_or table k d).0 < (get_or table i one).0 = later-greater table k i d one ascend less inside in
      omega (arith, at, own, rises) in
      let put = put-new one.0 one.1 (take i table) i (omega (arith, many)) low
      (λ d less. absurd (omega (arith, less, many))) in
      put ∙ ap (λ (front : List (ℕ × A)). front ++ one ∷ drop i (take i table))
      (take_all i (take i table) (omega (arith, many)))
      ∙ ap (λ (back : List (ℕ × A)). take i table ++ one ∷ back) (drop_all i (take i table) (omega (arith, many)))
      ∙ ap (λ (e : ℕ × A). take i table ++ e ∷ []) is ∙ sym (take_more table i one inside)

-- ---- a place among others

-- how many entries have lesser numbers
module _ {A : Type 0} (n : ℕ) (table : List (ℕ × A)) (place : ℕ) (ascend : IsStrictlySortedBy nat_cmp (keys_of table))
    (bound : place ≤ length table)
    (before : (k : ℕ) (d : ℕ × A) → 0 ≤ k → k < place → (get_or table k d).0 < n)
    (behind : (k : ℕ) (d : ℕ × A) → place ≤ k → k < length table → n ≤ (get_or table k d).0) where
  below : (k : ℕ) (d : ℕ × A) → k < place → (get_or table k d).0 < n
  below k d less = before k d (omega arith) less

  at-of : (d : ℕ × A) → place < length table → ((get_or table place d).0 == n) ≡ true → (e : ℕ × A)
      → (get_or table place e).0 ≡ n
  at-of d inside same e = ap (λ (x : ℕ × A). x.0) (get_or_default table place e d inside)
      ∙ eqb-true (get_or table place d).0 n same

  -- the entry at the place is of a greater number
  abbrev pub IsAbove : Type 0
  IsAbove = (e : ℕ × A) → place < length table → n < (get_or table place e).0

  pub above-of : (d : ℕ × A) → ((get_or table place d).0 == n) ≡ false → IsAbove
  above-of d differ e inside =
      let le : n ≤ (get_or table place e).0 = behind place e (omega arith) inside in
      let moved : (get_or table place d).0 ≡ (get_or table place e).0 =
      ap (λ (x : ℕ × A). x.0) (get_or_default table place d e inside) in
      elim (cases_eq (get_or table place e).0 n) [
        | inl same ↦ absurd (eqb-false (get_or table place d).0 n differ (moved ∙ same))
        | inr apart ↦ omega (arith, le, apart)
      ]

  apart-of : IsAbove → (k : ℕ) (d : ℕ × A) → k < length table → (get_or table k d).0 ≡ n → ⊥
  apart-of above k d inside same = elim (cases_lt k place) [
    | inl less ↦ omega (arith, same, below k d less)
    | inr le ↦ omega (arith, same, behind-greater table n place ascend above k d le inside)
  ]

  pub found-at : (d e : ℕ × A) → place < length table → ((get_or table place d).0 == n) ≡ true
      → Some (get_or table place e).1 ≡ value_at n table
  found-at d e inside same =
      sym (found-there n table place (get_or table place e) inside below
      (get_or_default table place e (get_or table place e) inside) (at-of d inside same e))

  pub missing-at : IsAbove → None ≡ value_at n table
  missing-at above = sym (none-there n table (apart-of above))

  pub put-at : (value : A) (d : ℕ × A) → place < length table → ((get_or table place d).0 == n) ≡ true
      → slice_set table place (n, value) ≡ with_value n value table
  put-at value d inside same = sym (put-old n value table place inside below (at-of d inside same))

  pub insert-at : (value : A) → IsAbove → take place table ++ (n, value) ∷ drop place table ≡ with_value n value table
  insert-at value above = sym (put-new n value table place bound below above)

  pub take-at : (d : ℕ × A) → place < length table → ((get_or table place d).0 == n) ≡ true
      → remove table place ≡ without_key n table
  take-at d inside same = sym (taken-out n table place inside below (at-of d inside same) (λ k e less within.
      let own = at-of d inside same e in
      let rises : (get_or table place e).0 < (get_or table k e).0 =
      later-greater table place k e e ascend less within in
      omega (arith, own, rises)))

  pub keep-at : IsAbove → table ≡ without_key n table
  keep-at above = sym (kept-all n table (apart-of above))

-- so many entries of a table have lesser numbers than one
pub record IsPlace {A : Type 0} (n : ℕ) (table : List (ℕ × A)) (place : ℕ) : Type 0 where
  pub bound : place ≤ length table
  pub before : (k : ℕ) (d : ℕ × A) → 0 ≤ k → k < place → (get_or table k d).0 < n
  pub behind : (k : ℕ) (d : ℕ × A) → place ≤ k → k < length table → n ≤ (get_or table k d).0

-- the same of a table by what is seen of it
pub place-seen : {A : Type 0} (n : ℕ) (seen table : List (ℕ × A)) (place : ℕ) → seen ≡ table → place ≤ length seen
    → ((k : ℕ) (d : ℕ × A) → 0 ≤ k → k < place → (get_or seen k d).0 < n)
    → ((k : ℕ) (d : ℕ × A) → place ≤ k → k < length seen → n ≤ (get_or seen k d).0)
    → IsPlace n table place
place-seen {A} n seen table place is bound before behind =
    subst (λ (t : List (ℕ × A)). IsPlace n t place) is (record { bound = bound; before = before; behind = behind })

pub test-seen : {A : Type 0} (n : ℕ) (seen table : List (ℕ × A)) (place : ℕ) (one : ℕ × A) (test answer : Bool)
    → seen ≡ table
    → test ≡ ((get_or seen place one).0 == n) → test ≡ answer → ((get_or table place one).0 == n) ≡ answer
test-seen {A} n seen table place one test answer is told known =
    sym (ap (λ (t : List (ℕ × A)). (get_or t place one).0 == n) is) ∙ sym told ∙ known

-- ---- a table made of another

-- what is found in a table whose values were made of another's
pub value-made : {A B : Type 0} (f : A → B) (n : ℕ) (table : List (ℕ × A))
    → value_at n (map (λ entry. (entry.0, f entry.1)) table) ≡ option_map f (value_at n table)
value-made f n [] = refl
value-made {A} {B} f n (e ∷ table) = choice (e.0 == n) (value-made f n table) where
  choice : (b : Bool) → value_at n (map (λ entry. (entry.0, f entry.1)) table) ≡ option_map f (value_at n table)
      → (if b then Some (f e.1) else value_at n (map (λ entry. (entry.0, f entry.1)) table)) ≡ option_map f
      (if b then Some e.1 else value_at n table)
  choice true rest = refl
  choice false rest = rest

-- and its numbers are those of the other
pub keys-made : {A B : Type 0} (f : A → B) (table : List (ℕ × A))
    → keys_of (map (λ entry. (entry.0, f entry.1)) table) ≡ keys_of table
keys-made f [] = refl
keys-made f (e ∷ table) = ap (λ (ks : List ℕ). e.0 ∷ ks) (keys-made f table)
