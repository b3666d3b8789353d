-- What a search among keys that ascend tells of the parts on its two sides.
use Rattle.std.proofs.Common.{◌≡◌, ℕ, zero, suc, ◌+◌, ◌-◌, ◌<◌, ◌≤◌, Bool, true, false, List, [], ◌∷◌, map, length}
use Rattle.std.proofs.Common.{refl, sym, ap, subst, ◌∙◌, arith, take, drop, get_or, inl, inr}
use Rattle.std.specs.Prelude.{not}
use Rattle.std.specs.List.{list_all}
use Rattle.std.specs.List.Sorted.{IsPartitionedBy, IsPartitionPoint}
use Rattle.std.specs.Ordering.{is_lt}
use Rattle.std.proofs.lemmas.Bool.{and_parts, cases_lt}
use Rattle.std.proofs.lemmas.List.{get_or_default, get_or-take, get_or-drop, length-take-le, length-drop, length-map}
use Rattle.std.proofs.lemmas.List.{take-map, drop-map}
use Rattle.std.proofs.lemmas.List.Folds.{list_all-map}
use Rattle.std.proofs.lemmas.List.Sums.{AllPass-from_list_all, list_all-from_AllPass}
use Rattle.qg_num.specs.declared.key.Key.{Key}
use Rattle.qg_num.specs.Key.{key_cmp}
use Rattle.qg_node.specs.Nodes.{ascends_from, is_ascending}
use Rattle.qg_shape.specs.Places.{GoesAt, LeadsTo}
use Rattle.qg_shape.proofs.Ascending.{ascending_tail, less_trans}

-- all of the first so many, and all from an index on
each_front : {A : Type 0} (p : A → Bool) (xs : List A) (i : ℕ) → i ≤ length xs
    → ((k : ℕ) (d : A) → k < i → p (get_or xs k d) ≡ true) → list_all p (take i xs) ≡ true
each_front p xs i bound each =
    list_all-from_AllPass p (take i xs) (λ k d short.
    let inside : k < i = omega (arith, length-take-le i xs bound) in
    ap p (get_or-take i xs k d inside) ∙ each k d inside)

each_back : {A : Type 0} (p : A → Bool) (xs : List A) (i : ℕ)
    → ((k : ℕ) (d : A) → i ≤ k → k < length xs → p (get_or xs k d) ≡ true) → list_all p (drop i xs) ≡ true
each_back p xs i each =
    list_all-from_AllPass p (drop i xs) (λ k d short. ap p (get_or-drop i xs k d)
    ∙ each (i + k) d (omega arith) (omega (arith, length-drop i xs)))

module _ {A : Type 0} (key_of : A → Key) where
  -- each is greater than a key that they ascend from
  after_it : (before : Key) (xs : List A) → ascends_from before (map key_of xs) ≡ true → (j : ℕ) (d : A) → j < length xs
      → is_lt (key_cmp before (key_of (get_or xs j d))) ≡ true
  unfolding ascends_from
  after_it before [] h j d short = absurd (omega arith)
  after_it before (x ∷ xs) h zero d short =
      (and_parts (is_lt (key_cmp before (key_of x))) (ascends_from (key_of x) (map key_of xs)) h).0
  after_it before (x ∷ xs) h (suc j) d short =
      let parts = and_parts (is_lt (key_cmp before (key_of x))) (ascends_from (key_of x) (map key_of xs)) h in
      less_trans before (key_of x) (key_of (get_or xs j d)) parts.0 (after_it (key_of x) xs parts.1 j d (omega arith))

  -- each is less than those behind it
  pub ascend_by : (xs : List A) → is_ascending (map key_of xs) ≡ true → (i j : ℕ) (d : A) → i < j → j < length xs
      → is_lt (key_cmp (key_of (get_or xs i d)) (key_of (get_or xs j d))) ≡ true
  unfolding is_ascending
  ascend_by [] h i j d order short = absurd (omega arith)
  ascend_by (x ∷ xs) h i zero d order short = absurd (omega arith)
  ascend_by (x ∷ xs) h zero (suc j) d order short = after_it (key_of x) xs h j d (omega arith)
  ascend_by (x ∷ xs) h (suc i) (suc j) d order short = ascend_by xs (ascending_tail (key_of x) (map key_of xs) h) i j d
      (omega arith) (omega arith)

  -- a test that passes what is less than something that passes
  parted : (p : A → Bool) (xs : List A) → ((x y : A) → is_lt (key_cmp (key_of x) (key_of y)) ≡ true → p y ≡ true
      → p x ≡ true) → is_ascending (map key_of xs) ≡ true → IsPartitionedBy p xs
  parted p xs closed ascending = λ i j d order short passes. elim (cases_lt i j) [
    | inl less ↦ closed (get_or xs i d) (get_or xs j d) (ascend_by xs ascending i j d less short) passes
    | inr not_less ↦ let same : i ≡ j = omega (arith, order, not_less) in
        subst (λ (n : ℕ). p (get_or xs n d) ≡ true) (sym same) passes
  ]

  pub parted_below : (key : Key) (xs : List A) → is_ascending (map key_of xs) ≡ true
      → IsPartitionedBy (λ x. is_lt (key_cmp (key_of x) key)) xs
  parted_below key xs = parted (λ x. is_lt (key_cmp (key_of x) key)) xs
      (λ x y less passes. less_trans (key_of x) (key_of y) key less passes)

  not_above : (key x y : Key) → is_lt (key_cmp x y) ≡ true → not (is_lt (key_cmp key y)) ≡ true
      → not (is_lt (key_cmp key x)) ≡ true
  not_above key x y less passes = cases (is_lt (key_cmp key x)) refl where
    cases : (above : Bool) → is_lt (key_cmp key x) ≡ above → not above ≡ true
    cases true e = let past = less_trans key x y e less in absurd cc
    cases false e = refl

  pub parted_upto : (key : Key) (xs : List A) → is_ascending (map key_of xs) ≡ true
      → IsPartitionedBy (λ x. not (is_lt (key_cmp key (key_of x)))) xs
  parted_upto key xs = parted (λ x. not (is_lt (key_cmp key (key_of x)))) xs
      (λ x y less passes. not_above key (key_of x) (key_of y) less passes)

  front_keys : (p : Key → Bool) (xs : List A) (i : ℕ) → list_all (λ x. p (key_of x)) (take i xs) ≡ true
      → list_all p (take i (map key_of xs)) ≡ true
  front_keys p xs i h = ap (list_all p) (take-map key_of i xs) ∙ list_all-map p key_of (take i xs) ∙ h

  back_keys : (p : Key → Bool) (xs : List A) (i : ℕ) → list_all (λ x. p (key_of x)) (drop i xs) ≡ true
      → list_all p (drop i (map key_of xs)) ≡ true
  back_keys p xs i h = ap (list_all p) (drop-map key_of i xs) ∙ list_all-map p key_of (drop i xs) ∙ h

  -- where a key is less than the one at an index, if any, it is less than all from there on
  pub less_from : (key : Key) (xs : List A) (i : ℕ) → is_ascending (map key_of xs) ≡ true
      → ((d : A) → i < length xs → is_lt (key_cmp key (key_of (get_or xs i d))) ≡ true)
      → list_all (λ other. is_lt (key_cmp key other)) (drop i (map key_of xs)) ≡ true
  less_from key xs i ascending less =
      back_keys (λ other. is_lt (key_cmp key other)) xs i
      (each_back (λ x. is_lt (key_cmp key (key_of x))) xs i each) where
        each : (k : ℕ) (d : A) → i ≤ k → k < length xs → is_lt (key_cmp key (key_of (get_or xs k d))) ≡ true
        each k d order short = elim (cases_lt i k) [
          | inl before ↦ less_trans key (key_of (get_or xs i d)) (key_of (get_or xs k d))
              (less d (omega (arith, before, short))) (ascend_by xs ascending i k d before short)
          | inr not_before ↦ let same : i ≡ k = omega (arith, order, not_before) in
              subst (λ (n : ℕ). is_lt (key_cmp key (key_of (get_or xs n d))) ≡ true) same
              (less d (omega (arith, short, same)))
        ]

  -- where a key is greater than the one at an index, it is greater than all up to there
  pub greater_upto : (key : Key) (xs : List A) (i : ℕ) (d : A) → i < length xs → is_ascending (map key_of xs) ≡ true
      → is_lt (key_cmp (key_of (get_or xs i d)) key) ≡ true
      → list_all (λ other. is_lt (key_cmp other key)) (take (i + 1) (map key_of xs)) ≡ true
  greater_upto key xs i d inside ascending greater =
      front_keys (λ other. is_lt (key_cmp other key)) xs (i + 1)
      (each_front (λ x. is_lt (key_cmp (key_of x) key)) xs (i + 1) (omega (arith, inside)) each) where
        there : (e : A) → is_lt (key_cmp (key_of (get_or xs i e)) key) ≡ true
        there e = subst (λ (x : A). is_lt (key_cmp (key_of x) key) ≡ true) (get_or_default xs i d e inside) greater

        each : (k : ℕ) (e : A) → k < i + 1 → is_lt (key_cmp (key_of (get_or xs k e)) key) ≡ true
        each k e short = elim (cases_lt k i) [
          | inl before ↦ less_trans (key_of (get_or xs k e)) (key_of (get_or xs i e)) key
              (ascend_by xs ascending k i e before inside) (there e)
          | inr not_before ↦ let same : i ≡ k = omega (arith, short, not_before) in
              subst (λ (n : ℕ). is_lt (key_cmp (key_of (get_or xs n e)) key) ≡ true) same (there e)
        ]

  -- a key goes behind one that it is greater than, where it is less than the next one, if any
  pub goes_behind : (key : Key) (xs : List A) (i : ℕ) (d : A) → i < length xs → is_ascending (map key_of xs) ≡ true
      → is_lt (key_cmp (key_of (get_or xs i d)) key) ≡ true
      → ((e : A) → i + 1 < length xs → is_lt (key_cmp key (key_of (get_or xs (i + 1) e))) ≡ true)
      → GoesAt (map key_of xs) key (i + 1)
  goes_behind key xs i d inside ascending greater less = record {
    within = omega (arith, inside, length-map xs key_of);
    between = record {
      less = greater_upto key xs i d inside ascending greater;
      greater = less_from key xs (i + 1) ascending less;
    };
  }

  -- a key goes where those before are less, and the one there, if any, is greater
  pub goes_there : (key : Key) (xs : List A) (i : ℕ) → is_ascending (map key_of xs) ≡ true → i ≤ length xs
      → IsPartitionPoint (λ x. is_lt (key_cmp (key_of x) key) ≡ true) (λ x. is_lt (key_cmp (key_of x) key) ≡ false) xs i
      → ((d : A) → i < length xs → is_lt (key_cmp key (key_of (get_or xs i d))) ≡ true) → GoesAt (map key_of xs) key i
  goes_there key xs i ascending bound point greater = record {
    within = omega (arith, length-map xs key_of);
    between = record {
      less = front_keys (λ other. is_lt (key_cmp other key)) xs i
          (each_front (λ x. is_lt (key_cmp (key_of x) key)) xs i bound (λ k d short. point.0 k d (omega arith) short));
      greater = less_from key xs i ascending greater;
    };
  }

  passed : (a : Bool) → not a ≡ false → a ≡ true
  passed true h = refl
  passed false h = absurd cc

  -- what is not greater than a key ends in front of a place, and the last of it leads to the key
  pub leads_there : (key : Key) (xs : List A) (i : ℕ) → 0 < length xs → i ≤ length xs
      → IsPartitionPoint (λ x. not (is_lt (key_cmp key (key_of x))) ≡ true) (λ x. not (is_lt (key_cmp key (key_of x)))
      ≡ false) xs i
      → LeadsTo (map key_of xs) key (i - 1)
  leads_there key xs i some bound point = record {
    within = omega (arith, length-map xs key_of, some, bound);
    upto = λ above.
        let next : i - 1 + 1 ≡ i = omega (arith, above) in
        rw next (front_keys (λ other. not (is_lt (key_cmp key other))) xs i
        (each_front (λ x. not (is_lt (key_cmp key (key_of x)))) xs i bound
        (λ k d short. point.0 k d (omega arith) short)));
    past = back_keys (λ other. is_lt (key_cmp key other)) xs (i - 1 + 1)
        (each_back (λ x. is_lt (key_cmp key (key_of x))) xs (i - 1 + 1)
        (λ k d order short. passed (is_lt (key_cmp key (key_of (get_or xs k d))))
        (point.1 k d (omega (arith, order)) short)));
  }

-- ---- what is known of the keys round a place that a key leads to

-- the key there is not greater, unless it is the first
pub leads_upto : (keys : List Key) (key : Key) (place : ℕ) (d : Key) → LeadsTo keys key place → 0 < place
    → not (is_lt (key_cmp key (get_or keys place d))) ≡ true
leads_upto keys key place d leads above =
    let front = take (place + 1) keys in
    let long : place < length front =
    omega (arith, leads.within, length-take-le (place + 1) keys (omega (arith, leads.within))) in
    ap (λ (other : Key). not (is_lt (key_cmp key other))) (sym (get_or-take (place + 1) keys place d (omega arith)))
    ∙ AllPass-from_list_all (λ (other : Key). not (is_lt (key_cmp key other))) front (leads.upto above) place d long

-- the next one, if any, is greater
pub leads_before : (keys : List Key) (key : Key) (place : ℕ) (d : Key) → LeadsTo keys key place
    → place + 1 < length keys → is_lt (key_cmp key (get_or keys (place + 1) d)) ≡ true
leads_before keys key place d leads more =
    let back = drop (place + 1) keys in
    let none : place + 1 + 0 ≡ place + 1 = omega arith in
    ap (λ (n : ℕ). is_lt (key_cmp key (get_or keys n d))) (sym none)
    ∙ ap (λ (other : Key). is_lt (key_cmp key other)) (sym (get_or-drop (place + 1) keys 0 d))
    ∙ AllPass-from_list_all (λ (other : Key). is_lt (key_cmp key other)) back leads.past 0 d
    (omega (arith, more, length-drop (place + 1) keys))
