-- Relations that ascend are told by what is there.
use Rattle.std.proofs.Common.{◌≡◌, ℕ, true, List, [], ◌∷◌, refl, sym, ap, ◌∙◌, inl, inr, arith}
use Rattle.std.specs.List.{AllByRecursion}
use Rattle.std.specs.List.Sorted.{IsStrictlySortedBy}
use Rattle.std.specs.declared.cmp.Ordering.{Ordering}
use Rattle.std.specs.declared.cmp.Ordering.TheVariants.{Less, Equal}
use Rattle.std.proofs.lemmas.Bool.{or_cases, or_left, or_right, true≢false}
use Rattle.std.proofs.lemmas.Bool.Decides.{nat_tests}
use Rattle.std.proofs.lemmas.Cmp.{tied_itself}
use Rattle.std.proofs.lemmas.Map.Keys.{sorted_head, sorted_tail}
use Rattle.qg_machine.specs.GroupChange.{has_pair, same_pair}
use Rattle.qg_qgroups.specs.Groups.{pair_cmp}
use Rattle.qg_qgroups.proofs.Lists.{same_tests}
use Rattle.qg_qgroups.proofs.Sets.{pair_is, pair_order}

own : (a b : ℕ) → same_pair (a, b) (a, b) ≡ true
own a b = grind (arith, nat_tests)

has_own : (pair : ℕ × ℕ) (pairs : List (ℕ × ℕ)) → has_pair pair.0 pair.1 (pair ∷ pairs) ≡ true
has_own pair pairs = or_left (same_pair (pair.0, pair.1) pair) (has_pair pair.0 pair.1 pairs) (own pair.0 pair.1)

-- the first is before all others
first_before : (pair : ℕ × ℕ) (pairs : List (ℕ × ℕ)) → AllByRecursion (λ other. pair_cmp pair other ≡ Less) pairs
    → (a b : ℕ) → has_pair a b pairs ≡ true
    → pair_cmp pair (a, b) ≡ Less
first_before pair [] all a b has = absurd (true≢false (sym has))
first_before pair (other ∷ others) all a b has = elim (or_cases (same_pair (a, b) other) (has_pair a b others) has) [
  | inl here ↦ ap (λ (p : ℕ × ℕ). pair_cmp pair p) (pair_is (a, b) other here) ∙ all.0
  | inr later ↦ first_before pair others all.1 a b later
]

both_less : (x y : ℕ × ℕ) → pair_cmp x y ≡ Less → pair_cmp y x ≡ Less → ⊥
both_less x y there back =
    let clash : ◌≡◌ {A = Ordering} Less Equal = sym (pair_order.trans x y x there back) ∙ tied_itself pair_order x in
    cc

not_itself : (x y : ℕ × ℕ) → x ≡ y → pair_cmp x y ≡ Less → ⊥
not_itself x y is less =
    let again : pair_cmp x x ≡ Less = ap (λ (p : ℕ × ℕ). pair_cmp x p) is ∙ less in
    both_less x x again again

-- lists that ascend and have the same pairs are one
pub same-pairs : (xs ys : List (ℕ × ℕ)) → IsStrictlySortedBy pair_cmp xs → IsStrictlySortedBy pair_cmp ys
    → ((a b : ℕ) → has_pair a b xs ≡ has_pair a b ys) → xs ≡ ys
same-pairs [] [] up up' same = refl
same-pairs [] (y ∷ ys) up up' same = absurd (true≢false (sym (has_own y ys) ∙ sym (same y.0 y.1)))
same-pairs (x ∷ xs) [] up up' same = absurd (true≢false (sym (has_own x xs) ∙ same x.0 x.1))
same-pairs (x ∷ xs) (y ∷ ys) up up' same =
    let is : x ≡ y = first_same in
    let rest : xs ≡ ys =
    same-pairs xs ys (sorted_tail pair_cmp x xs up) (sorted_tail pair_cmp y ys up')
    (λ a b. same_tests (has_pair a b xs) (has_pair a b ys) (there a b is) (back a b is)) in
    ap (λ (p : ℕ × ℕ). p ∷ xs) is ∙ ap (λ (ps : List (ℕ × ℕ)). y ∷ ps) rest where
      behind : (a b : ℕ) → has_pair a b xs ≡ true → pair_cmp x (a, b) ≡ Less
      behind a b has = first_before x xs (sorted_head pair_cmp x xs up) a b has

      behind' : (a b : ℕ) → has_pair a b ys ≡ true → pair_cmp y (a, b) ≡ Less
      behind' a b has = first_before y ys (sorted_head pair_cmp y ys up') a b has

      first_same : x ≡ y
      first_same = elim (or_cases (same_pair (x.0, x.1) y) (has_pair x.0 x.1 ys) (sym (same x.0 x.1) ∙ has_own x xs)) [
        | inl here ↦ pair_is x y here
        | inr later ↦ elim (or_cases (same_pair (y.0, y.1) x) (has_pair y.0 y.1 xs) (same y.0 y.1 ∙ has_own y ys)) [
          | inl here ↦ sym (pair_is y x here)
          | inr other ↦ absurd (both_less x y (behind y.0 y.1 other) (behind' x.0 x.1 later))
        ]
      ]

      there : (a b : ℕ) → x ≡ y → has_pair a b xs ≡ true → has_pair a b ys ≡ true
      there a b is has = elim (or_cases (same_pair (a, b) y) (has_pair a b ys) (sym (same a b)
          ∙ or_right (same_pair (a, b) x) (has_pair a b xs) has)) [
            | inl here ↦ absurd (not_itself x (a, b) (is ∙ sym (pair_is (a, b) y here)) (behind a b has))
            | inr later ↦ later
          ]

      back : (a b : ℕ) → x ≡ y → has_pair a b ys ≡ true → has_pair a b xs ≡ true
      back a b is has = elim (or_cases (same_pair (a, b) x) (has_pair a b xs) (same a b
          ∙ or_right (same_pair (a, b) y) (has_pair a b ys) has)) [
            | inl here ↦ absurd (not_itself y (a, b) (sym is ∙ sym (pair_is (a, b) x here)) (behind' a b has))
            | inr later ↦ later
          ]
