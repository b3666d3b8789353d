-- Sets of numbers and of pairs of numbers, by their keys in order.
use Rattle.std.proofs.Common.{◌≡◌, ℕ, ◌<◌, ◌^◌, Bool, true, false, List, [], ◌∷◌, refl, sym, ap, ◌∙◌, arith, cond}
use Rattle.std.proofs.Common.{nat_lt}
use Rattle.std.specs.Prelude.{◌&&◌, ◌||◌, ◌==◌, not}
use Rattle.std.specs.List.{All, filter, list_any}
use Rattle.std.specs.List.Sorted.{IsStrictlySortedBy}
use Rattle.std.specs.BTreeSet.{BTreeSet, Updates, contains, insert_key}
use Rattle.std.specs.BTreeMap.{is_at}
use Rattle.std.specs.BTreeMap.Range.{range_contains}
use Rattle.std.specs.Cmp.{IsTotalOrder}
use Rattle.std.specs.Set.{remove_key}
use Rattle.std.specs.Ordering.{eq_by_cmp, is_eq, match_ordering, nat_cmp, ordering_then}
use Rattle.std.specs.declared.cmp.Ordering.{Ordering}
use Rattle.std.specs.declared.cmp.Ordering.TheVariants.{Less, Equal, Greater}
use Rattle.std.specs.declared.ops.Bound.TheVariants.{Included}
use Rattle.std.proofs.lemmas.Bool.Decides.{nat_tests}
use Rattle.std.proofs.lemmas.Cmp.{nat_cmp_total, on_total, then_total}
use Rattle.std.proofs.lemmas.Map.Keys.{IsDistinct-from_sorted}
use Rattle.std.proofs.lemmas.List.Elements.{All-head, All-tail}
use Rattle.qg_machine.specs.Table.{with_number}
use Rattle.qg_machine.specs.GroupChange.{has_pair, same_pair, with_pair}
use Rattle.qg_qgroups.specs.Groups.{has_number, pair_cmp}
use Rattle.qg_qgroups.proofs.Lists.{any_filtered, any_same, both_true, filter_same, removed}

-- ---- equal keys

equal_numbers : (a b : ℕ) → is_eq (nat_cmp a b) ≡ (a == b)
equal_numbers a b = grind (arith, nat_tests)

pub flipped : (a b : ℕ) → (a == b) ≡ (b == a)
flipped a b = grind (arith, nat_tests)

pub number_is : (a b : ℕ) → (a == b) ≡ true → a ≡ b
number_is a b same = grind (arith, nat_tests)

equal_then : (first second : Ordering) → is_eq (ordering_then first second) ≡ (is_eq first && is_eq second)
equal_then Less second = refl
equal_then Equal second = refl
equal_then Greater second = refl

pub equal_pairs : (a b : ℕ × ℕ) → is_eq (pair_cmp a b) ≡ same_pair a b
equal_pairs a b =
    equal_then (nat_cmp a.0 b.0) (nat_cmp a.1 b.1) ∙ ap (λ (here : Bool). here && is_eq (nat_cmp a.1 b.1))
    (equal_numbers a.0 b.0)
    ∙ ap (λ (here : Bool). (a.0 == b.0) && here) (equal_numbers a.1 b.1)

pub pair_is : (a b : ℕ × ℕ) → same_pair a b ≡ true → a ≡ b
pair_is a b same =
    let parts = both_true (a.0 == b.0) (a.1 == b.1) same in
    ap (λ (n : ℕ). (n, a.1)) (number_is a.0 b.0 parts.0) ∙ ap (λ (n : ℕ). (b.0, n)) (number_is a.1 b.1 parts.1)

pub pair_flipped : (a b : ℕ × ℕ) → same_pair a b ≡ same_pair b a
pair_flipped a b = ap (λ (here : Bool). here && (a.1 == b.1)) (flipped a.0 b.0)
    ∙ ap (λ (here : Bool). (b.0 == a.0) && here) (flipped a.1 b.1)

pub pair_order : IsTotalOrder pair_cmp
pair_order = then_total (on_total (λ (pair : ℕ × ℕ). pair.0) nat_cmp_total)
    (on_total (λ (pair : ℕ × ℕ). pair.1) nat_cmp_total)

-- ---- what a set has

pub number_found : (n : ℕ) (numbers : List ℕ) → has_number n numbers ≡ list_any (is_at (nat_cmp n)) numbers
number_found n numbers = any_same (λ m. m == n) (is_at (nat_cmp n)) (λ m. flipped m n ∙ sym (equal_numbers n m)) numbers

pub pair_found : (a b : ℕ) (pairs : List (ℕ × ℕ)) → has_pair a b pairs ≡ list_any (is_at (pair_cmp (a, b))) pairs
pair_found a b pairs = any_same (same_pair (a, b)) (is_at (pair_cmp (a, b))) (λ pair. sym (equal_pairs (a, b) pair))
    pairs

-- ---- a key is put in

number_choice : {A : Type 0} (a b : Bool) (less equal greater : A)
    → match_ordering (cond a Less (cond b Equal Greater)) less equal greater ≡ cond a less (cond b equal greater)
number_choice true b less equal greater = refl
number_choice false true less equal greater = refl
number_choice false false less equal greater = refl

pair_choice : {A : Type 0} (a b c d : Bool) (less equal greater : A)
    → match_ordering (ordering_then (cond a Less (cond b Equal Greater)) (cond c Less (cond d Equal Greater))) less
    equal greater ≡ cond (a || (b && c)) less (cond (b && d) equal greater)
pair_choice true b c d less equal greater = refl
pair_choice false true true d less equal greater = refl
pair_choice false true false true less equal greater = refl
pair_choice false true false false less equal greater = refl
pair_choice false false c d less equal greater = refl

pub number_put : (n : ℕ) (numbers : List ℕ) → insert_key nat_cmp numbers n ≡ with_number n numbers
number_put n [] = refl
number_put n (m ∷ ms) =
    number_choice (nat_lt n m) (n == m) (n ∷ m ∷ ms) (m ∷ ms) (m ∷ insert_key nat_cmp ms n)
    ∙ ap (λ (rest : List ℕ). cond (nat_lt n m) (n ∷ m ∷ ms) (cond (n == m) (m ∷ ms) (m ∷ rest))) (number_put n ms)

pub pair_put : (pair : ℕ × ℕ) (pairs : List (ℕ × ℕ)) → insert_key pair_cmp pairs pair ≡ with_pair pair pairs
pair_put pair [] = refl
pair_put pair (other ∷ others) =
    pair_choice (nat_lt pair.0 other.0) (pair.0 == other.0) (nat_lt pair.1 other.1) (pair.1 == other.1)
    (pair ∷ other ∷ others) (other ∷ others) (other ∷ insert_key pair_cmp others pair)
    ∙ ap (λ (rest : List (ℕ × ℕ)). cond (nat_lt pair.0 other.0 || ((pair.0 == other.0) && nat_lt pair.1 other.1))
    (pair ∷ other ∷ others) (cond (same_pair pair other) (other ∷ others) (other ∷ rest))) (pair_put pair others)

put_choice : (a b : Bool) → cond a true b ≡ a || b
put_choice true b = refl
put_choice false b = refl

taken_choice : (a b : Bool) → cond a false b ≡ not a && b
taken_choice true b = refl
taken_choice false b = refl

pub number_now : (old new : BTreeSet ℕ) (n : ℕ) → Updates nat_cmp old new n true → (other : ℕ)
    → has_number other new.keys ≡ ((n == other) || has_number other old.keys)
number_now old new n sets other =
    number_found other new.keys ∙ sets.0 other ∙ put_choice (is_at (nat_cmp n) other) (contains nat_cmp old other)
    ∙ ap (λ (here : Bool). here || contains nat_cmp old other) (equal_numbers n other)
    ∙ ap (λ (had : Bool). (n == other) || had) (sym (number_found other old.keys))

pub pair_now : (old new : BTreeSet (ℕ × ℕ)) (pair : ℕ × ℕ) → Updates pair_cmp old new pair true → (a b : ℕ)
    → has_pair a b new.keys ≡ (same_pair (a, b) pair || has_pair a b old.keys)
pair_now old new pair sets a b =
    pair_found a b new.keys ∙ sets.0 (a, b) ∙ put_choice (is_at (pair_cmp pair) (a, b)) (contains pair_cmp old (a, b))
    ∙ ap (λ (here : Bool). here || contains pair_cmp old (a, b)) (equal_pairs pair (a, b) ∙ pair_flipped pair (a, b))
    ∙ ap (λ (had : Bool). same_pair (a, b) pair || had) (sym (pair_found a b old.keys))

-- ---- a key is taken out

pub number_gone : (old new : BTreeSet ℕ) (n : ℕ) → Updates nat_cmp old new n false → (other : ℕ)
    → has_number other new.keys ≡ (not (n == other) && has_number other old.keys)
number_gone old new n sets other =
    number_found other new.keys ∙ sets.0 other ∙ taken_choice (is_at (nat_cmp n) other) (contains nat_cmp old other)
    ∙ ap (λ (here : Bool). not here && contains nat_cmp old other) (equal_numbers n other)
    ∙ ap (λ (had : Bool). not (n == other) && had) (sym (number_found other old.keys))

pub pair_gone : (old new : BTreeSet (ℕ × ℕ)) (pair : ℕ × ℕ) → Updates pair_cmp old new pair false → (a b : ℕ)
    → has_pair a b new.keys ≡ (not (same_pair (a, b) pair) && has_pair a b old.keys)
pair_gone old new pair sets a b =
    pair_found a b new.keys ∙ sets.0 (a, b) ∙ taken_choice (is_at (pair_cmp pair) (a, b)) (contains pair_cmp old (a, b))
    ∙ ap (λ (here : Bool). not here && contains pair_cmp old (a, b)) (equal_pairs pair (a, b)
    ∙ pair_flipped pair (a, b)) ∙ ap (λ (had : Bool). not (same_pair (a, b) pair) && had)
    (sym (pair_found a b old.keys))

pub number_left : (n : ℕ) (numbers : List ℕ) → IsStrictlySortedBy nat_cmp numbers
    → remove_key (is_at (nat_cmp n)) numbers ≡ filter (λ kept. not (kept == n)) numbers
number_left n numbers ascend =
    removed (eq_by_cmp nat_cmp) (λ x y same. number_is x y (sym (equal_numbers x y) ∙ same)) n numbers
    (IsDistinct-from_sorted nat_cmp numbers ascend)
    ∙ filter_same (λ x. not (is_eq (nat_cmp n x))) (λ kept. not (kept == n))
    (λ x. ap not (equal_numbers n x ∙ flipped n x)) numbers

pub pair_left : (pair : ℕ × ℕ) (pairs : List (ℕ × ℕ)) → IsStrictlySortedBy pair_cmp pairs
    → remove_key (is_at (pair_cmp pair)) pairs ≡ filter (λ other. not (same_pair other pair)) pairs
pair_left pair pairs ascend =
    removed (eq_by_cmp pair_cmp) (λ x y same. pair_is x y (sym (equal_pairs x y) ∙ same)) pair pairs
    (IsDistinct-from_sorted pair_cmp pairs ascend)
    ∙ filter_same (λ x. not (is_eq (pair_cmp pair x))) (λ other. not (same_pair other pair))
    (λ x. ap not (equal_pairs pair x ∙ pair_flipped pair x)) pairs

-- ---- the pairs of one number

-- a number is the second of some pair
abbrev pub is_second : ℕ → List (ℕ × ℕ) → Bool
is_second n pairs = list_any (λ pair. pair.1 == n) pairs

-- a pair lies from one with 0 to one with the greatest number exactly if its first number is theirs
in_row : (of : ℕ) (pair : ℕ × ℕ) → pair.1 < 2 ^ 64
    → range_contains pair_cmp (Included (of, 0)) (Included (of, 18446744073709551615)) pair ≡ (of == pair.0)
in_row of pair fits = grind (arith, nat_tests)

pub others_of : (of other : ℕ) (pairs : List (ℕ × ℕ)) → All (λ pair. (pair.0 < 2 ^ 64) × (pair.1 < 2 ^ 64)) pairs
    → is_second other (filter (range_contains pair_cmp (Included (of, 0)) (Included (of, 18446744073709551615))) pairs)
    ≡ has_pair of other pairs
others_of of other pairs fit =
    any_filtered (λ pair. pair.1 == other)
    (range_contains pair_cmp (Included (of, 0)) (Included (of, 18446744073709551615))) pairs ∙ each pairs fit where
      each : (pairs : List (ℕ × ℕ)) → All (λ pair. (pair.0 < 2 ^ 64) × (pair.1 < 2 ^ 64)) pairs
          → list_any (λ pair. range_contains pair_cmp (Included (of, 0)) (Included (of, 18446744073709551615)) pair
          && (pair.1 == other)) pairs ≡ has_pair of other pairs
      each [] fit = refl
      each (pair ∷ pairs) fit =
          ap (λ (here : Bool). (here && (pair.1 == other))
          || list_any (λ pair. range_contains pair_cmp (Included (of, 0)) (Included (of, 18446744073709551615)) pair
          && (pair.1 == other)) pairs)
          (in_row of pair (All-head (λ (p : ℕ × ℕ). (p.0 < 2 ^ 64) × (p.1 < 2 ^ 64)) pair pairs fit).1)
          ∙ ap (λ (there : Bool). ((of == pair.0) && there)
          || list_any (λ pair. range_contains pair_cmp (Included (of, 0)) (Included (of, 18446744073709551615)) pair
          && (pair.1 == other)) pairs) (flipped pair.1 other)
          ∙ ap (λ (rest : Bool). same_pair (of, other) pair || rest)
          (each pairs (All-tail (λ (p : ℕ × ℕ). (p.0 < 2 ^ 64) × (p.1 < 2 ^ 64)) pair pairs fit))
