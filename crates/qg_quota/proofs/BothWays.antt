-- Relations put into a list in order, each both ways.
use Rattle.std.proofs.Common.{◌≡◌, ℕ, ◌+◌, ◌*◌, ◌<◌, Bool, true, false, List, [], ◌∷◌, arith, get_or, length, take}
use Rattle.std.proofs.Common.{refl, sym, ap, ◌∙◌, inl, inr, cond, nat_lt}
use Rattle.std.specs.Prelude.{◌==◌, ◌&&◌, ◌||◌, IsTrue}
use Rattle.std.specs.List.{All, AllByRecursion, fold, list_any}
use Rattle.std.specs.List.Sorted.{IsStrictlySortedBy}
use Rattle.std.specs.declared.cmp.Ordering.TheVariants.{Less}
use Rattle.std.proofs.lemmas.Bool.{cases_Bool, true≢false}
use Rattle.std.proofs.lemmas.Bool.Decides.{nat_tests}
use Rattle.std.proofs.lemmas.List.{get_or_default}
use Rattle.std.proofs.lemmas.List.Elements.{recursion_from_All}
use Rattle.std.proofs.lemmas.List.Sums.{fold_more}
use Rattle.std.proofs.lemmas.Map.Keys.{sorted_head, sorted_tail}
use Rattle.qg_image.specs.Members.{level_of_group}
use Rattle.qg_machine.specs.GroupChange.{has_pair, same_pair, with_pair}
use Rattle.qg_qgroups.specs.Groups.{pair_cmp}
use Rattle.qg_qgroups.proofs.Lists.{any_same, or_false}
use Rattle.qg_qgroups.proofs.Sets.{pair_order}
use Rattle.qg_qgroups.proofs.RelatedPairs.{pair-put, pair-there}
use Rattle.qg_quota.specs.Written.{both_ways}

-- ---- one pair

-- a pair turned round
abbrev pub turned : ℕ × ℕ → ℕ × ℕ
turned pair = (pair.1, pair.0)

less_tells : (a b c d : ℕ) → (nat_lt a c || ((a == c) && nat_lt b d)) ≡ true → pair_cmp (a, b) (c, d) ≡ Less
less_tells a b c d less = grind (arith, nat_tests)

greater_tells : (a b c d : ℕ) → (nat_lt a c || ((a == c) && nat_lt b d)) ≡ false → ((a == c) && (b == d)) ≡ false
    → pair_cmp (c, d) (a, b) ≡ Less
greater_tells a b c d no_less other = grind (arith, nat_tests)

not_same : (a b c d : ℕ) → pair_cmp (a, b) (c, d) ≡ Less → ((c == a) && (d == b)) ≡ false
not_same a b c d less = grind (arith, nat_tests)

and_turned : (a b : Bool) → a && b ≡ b && a
and_turned true true = refl
and_turned true false = refl
and_turned false true = refl
and_turned false false = refl

-- ---- what is there

or_none : (a : Bool) → a || false ≡ a
or_none true = refl
or_none false = refl

moved : (x y z : Bool) → x || (y || z) ≡ (y || x) || z
moved true true z = refl
moved true false z = refl
moved false true z = refl
moved false false z = refl

fold_has : (f : ℕ × ℕ → ℕ × ℕ) (a b : ℕ) (pairs made : List (ℕ × ℕ))
    → has_pair a b (fold (λ made pair. with_pair (f pair) made) made pairs)
    ≡ (list_any (λ (pair : ℕ × ℕ). same_pair (a, b) (f pair)) pairs || has_pair a b made)
fold_has f a b [] made = refl
fold_has f a b (pair ∷ pairs) made =
    fold_has f a b pairs (with_pair (f pair) made)
    ∙ ap (λ (h : Bool). list_any (λ (pair : ℕ × ℕ). same_pair (a, b) (f pair)) pairs || h) (pair-put a b (f pair) made)
    ∙ moved (list_any (λ (pair : ℕ × ℕ). same_pair (a, b) (f pair)) pairs) (same_pair (a, b) (f pair))
    (has_pair a b made)

-- the pairs put into an empty list
abbrev once : List (ℕ × ℕ) → List (ℕ × ℕ)
once pairs = fold (λ made pair. with_pair pair made) [] pairs

once_has : (a b : ℕ) (pairs : List (ℕ × ℕ)) → has_pair a b (once pairs) ≡ has_pair a b pairs
once_has a b pairs = fold_has (λ pair. pair) a b pairs [] ∙ or_none (has_pair a b pairs)

-- a pair is there both ways if it is there one way
pub both-has : (a b : ℕ) (pairs : List (ℕ × ℕ))
    → has_pair a b (both_ways pairs) ≡ (has_pair b a pairs || has_pair a b pairs)
both-has a b pairs =
    fold_has turned a b pairs (once pairs)
    ∙ ap (λ (h : Bool). list_any (λ (pair : ℕ × ℕ). same_pair (a, b) (turned pair)) pairs || h) (once_has a b pairs)
    ∙ ap (λ (h : Bool). h || has_pair a b pairs)
    (any_same (λ (pair : ℕ × ℕ). same_pair (a, b) (turned pair)) (same_pair (b, a))
    (λ pair. and_turned (a == pair.1) (b == pair.0)) pairs)

-- ---- the order

all_put : (pair one : ℕ × ℕ) (pairs : List (ℕ × ℕ)) → pair_cmp one pair ≡ Less
    → AllByRecursion (λ y. pair_cmp one y ≡ Less) pairs
    → AllByRecursion (λ y. pair_cmp one y ≡ Less) (with_pair pair pairs)
all_put pair one [] here all = (here, tt)
all_put pair one (other ∷ others) here all =
    choice (nat_lt pair.0 other.0 || ((pair.0 == other.0) && nat_lt pair.1 other.1)) (same_pair pair other)
    (all_put pair one others here all.1) where
      choice : (less same : Bool) → AllByRecursion (λ y. pair_cmp one y ≡ Less) (with_pair pair others)
          → AllByRecursion (λ y. pair_cmp one y ≡ Less)
          (cond less (pair ∷ other ∷ others) (cond same (other ∷ others) (other ∷ with_pair pair others)))
      choice true same rest = (here, all)
      choice false true rest = all
      choice false false rest = (all.0, rest)

all_after : (pair other : ℕ × ℕ) (others : List (ℕ × ℕ)) → pair_cmp pair other ≡ Less
    → AllByRecursion (λ y. pair_cmp other y ≡ Less) others
    → AllByRecursion (λ y. pair_cmp pair y ≡ Less) others
all_after pair other [] less all = tt
all_after pair other (one ∷ others) less all =
    (pair_order.trans pair other one less all.0, all_after pair other others less all.1)

put_sorted : (pair : ℕ × ℕ) (pairs : List (ℕ × ℕ)) → IsStrictlySortedBy pair_cmp pairs
    → IsStrictlySortedBy pair_cmp (with_pair pair pairs)
unfolding IsStrictlySortedBy
put_sorted pair [] up = (tt, tt)
put_sorted pair (other ∷ others) up =
    choice (nat_lt pair.0 other.0 || ((pair.0 == other.0) && nat_lt pair.1 other.1)) (same_pair pair other)
    (less_tells pair.0 pair.1 other.0 other.1) (greater_tells pair.0 pair.1 other.0 other.1)
    (put_sorted pair others up.1) where
      choice : (less same : Bool) → (less ≡ true → pair_cmp pair other ≡ Less)
          → (less ≡ false → same ≡ false → pair_cmp other pair ≡ Less)
          → IsStrictlySortedBy pair_cmp (with_pair pair others)
          → IsStrictlySortedBy pair_cmp
          (cond less (pair ∷ other ∷ others) (cond same (other ∷ others) (other ∷ with_pair pair others)))
      choice true same front back rest = ((front refl, all_after pair other others (front refl) up.0), up)
      choice false true front back rest = up
      choice false false front back rest = (all_put pair other others (back refl refl) up.0, rest)

fold_sorted : (f : ℕ × ℕ → ℕ × ℕ) (pairs made : List (ℕ × ℕ)) → IsStrictlySortedBy pair_cmp made
    → IsStrictlySortedBy pair_cmp (fold (λ made pair. with_pair (f pair) made) made pairs)
fold_sorted f [] made up = up
fold_sorted f (pair ∷ pairs) made up = fold_sorted f pairs (with_pair (f pair) made) (put_sorted (f pair) made up)

none_sorted : IsStrictlySortedBy pair_cmp []
unfolding IsStrictlySortedBy
none_sorted = tt

pub both-sorted : (pairs : List (ℕ × ℕ)) → IsStrictlySortedBy pair_cmp (both_ways pairs)
both-sorted pairs = fold_sorted turned pairs (once pairs) (fold_sorted (λ pair. pair) pairs [] none_sorted)

-- ---- how many there are

put_length : (pair : ℕ × ℕ) (pairs : List (ℕ × ℕ)) → has_pair pair.0 pair.1 pairs ≡ false
    → length (with_pair pair pairs) ≡ 1 + length pairs
put_length pair [] none = refl
put_length pair (other ∷ others) none =
    choice (nat_lt pair.0 other.0 || ((pair.0 == other.0) && nat_lt pair.1 other.1)) (same_pair pair other) parts.0
    (put_length pair others parts.1) where
      parts : (same_pair (pair.0, pair.1) other ≡ false) × (has_pair pair.0 pair.1 others ≡ false)
      parts = or_false (same_pair (pair.0, pair.1) other) (has_pair pair.0 pair.1 others) none

      choice : (less same : Bool) → same ≡ false → length (with_pair pair others) ≡ 1 + length others
          → length (cond less (pair ∷ other ∷ others) (cond same (other ∷ others) (other ∷ with_pair pair others)))
          ≡ 1 + length (other ∷ others)
      choice true same apart rest = omega arith
      choice false true apart rest = absurd (true≢false apart)
      choice false false apart rest = omega (arith, rest)

-- pairs that are put into others that have none of them
fold_length : (f : ℕ × ℕ → ℕ × ℕ) → ((p q : ℕ × ℕ) → same_pair (f p) (f q) ≡ same_pair p q)
    → (pairs made : List (ℕ × ℕ)) → IsStrictlySortedBy pair_cmp pairs
    → AllByRecursion (λ p. has_pair (f p).0 (f p).1 made ≡ false) pairs
    → length (fold (λ made pair. with_pair (f pair) made) made pairs) ≡ length pairs + length made
fold_length f same [] made up none = omega arith
fold_length f same (pair ∷ pairs) made up none =
    let first = put_length (f pair) made none.0 in
    let rest = fold_length f same pairs (with_pair (f pair) made) (sorted_tail pair_cmp pair pairs up)
    (still pairs (sorted_head pair_cmp pair pairs up) none.1) in
    omega (arith, first, rest) where
      still : (others : List (ℕ × ℕ)) → AllByRecursion (λ y. pair_cmp pair y ≡ Less) others
          → AllByRecursion (λ p. has_pair (f p).0 (f p).1 made ≡ false) others
          → AllByRecursion (λ p. has_pair (f p).0 (f p).1 (with_pair (f pair) made) ≡ false) others
      still [] less none = tt
      still (other ∷ others) less none = (
        pair-put (f other).0 (f other).1 (f pair) made
            ∙ ap (λ (b : Bool). b || has_pair (f other).0 (f other).1 made) (same other pair
            ∙ not_same pair.0 pair.1 other.0 other.1 less.0) ∙ none.0,
        still others less.1 none.1,
      )

nothing_there : (pairs : List (ℕ × ℕ)) → AllByRecursion (λ p. has_pair p.0 p.1 [] ≡ false) pairs
nothing_there [] = tt
nothing_there (pair ∷ pairs) = (refl, nothing_there pairs)

-- each relation stands twice, where none is the twin of another
pub both-length : (pairs : List (ℕ × ℕ)) → IsStrictlySortedBy pair_cmp pairs
    → ((a b : ℕ) → IsTrue (has_pair a b pairs) → level_of_group a < level_of_group b)
    → length (both_ways pairs) ≡ 2 * length pairs
both-length pairs up rising =
    let first = fold_length (λ pair. pair) (λ p q. refl) pairs [] up (nothing_there pairs) in
    let second = fold_length turned (λ p q. and_turned (p.1 == q.1) (p.0 == q.0)) pairs (once pairs) up
    (recursion_from_All (λ (p : ℕ × ℕ). has_pair p.1 p.0 (once pairs) ≡ false) pairs apart) in
    omega (arith, first, second) where
      apart : All (λ (p : ℕ × ℕ). has_pair p.1 p.0 (once pairs) ≡ false) pairs
      apart k d inside = elim (cases_Bool (has_pair (get_or pairs k d).1 (get_or pairs k d).0 (once pairs))) [
        | inl has ↦
            let one = get_or pairs k d in
            let low = rising one.0 one.1 (pair-there pairs k one inside (get_or_default pairs k d one inside)) in
            let high = rising one.1 one.0 (sym (once_has one.1 one.0 pairs) ∙ has) in
            absurd (omega (arith, low, high))
        | inr none ↦ none
      ]

-- ---- one pair more is put

pub one-put : (f : ℕ × ℕ → ℕ × ℕ) (start : List (ℕ × ℕ)) (made more pairs : List (ℕ × ℕ)) (i : ℕ) (pair : ℕ × ℕ)
    → i < length pairs → pair ≡ get_or pairs i pair
    → made ≡ fold (λ made pair. with_pair (f pair) made) start (take i pairs) → more ≡ with_pair (f pair) made
    → more ≡ fold (λ made pair. with_pair (f pair) made) start (take (i + 1) pairs)
one-put f start made more pairs i pair inside is before put =
    put ∙ ap (λ (list : List (ℕ × ℕ)). with_pair (f pair) list) before
    ∙ ap (λ (p : ℕ × ℕ). with_pair (f p) (fold (λ made pair. with_pair (f pair) made) start (take i pairs))) is
    ∙ sym (fold_more (λ (made : List (ℕ × ℕ)) (pair : ℕ × ℕ). with_pair (f pair) made) start pairs i pair inside)
