-- The numbers of trees: those of the others ascend, and the one at hand is none of them, whichever it is.
use Rattle.std.proofs.Common.{◌≡◌, ◌≢◌, ℕ, zero, suc, ◌+◌, ◌<◌, true, false, eqb, List, [], ◌∷◌, map, length, get_or}
use Rattle.std.proofs.Common.{arith, sym, ap, ◌∙◌, inl, inr}
use Rattle.std.specs.Prelude.{◌==◌}
use Rattle.std.specs.List.{Contains, IsDistinct}
use Rattle.std.specs.List.Sorted.{IsNonDecreasing, IsNonDecreasingBy, IsPermutation, IsStrictlyIncreasing}
use Rattle.std.proofs.lemmas.Bool.{eq-eqb, ne_eqb}
use Rattle.std.proofs.lemmas.Bool.Decides.{eqb_tells, nat_tests}
use Rattle.std.proofs.lemmas.List.{get_or-map, length-map}
use Rattle.std.proofs.lemmas.List.Kept.{AllPairs-from_increasing}
use Rattle.std.proofs.lemmas.List.Sorted.{IsPermutation-map}
use Rattle.std.proofs.lemmas.Map.Keys.{IsDistinct-IsPermutation, IsDistinct-from_apart, IsDistinct-tail}
use Rattle.std.proofs.lemmas.Map.Keys.{IsStrictlyIncreasing-from_distinct, apart_from_distinct}
use Rattle.qg_tree_edits.specs.Tree.{Root}
use Rattle.qg_fs_tree.specs.declared.fs_tree.FsTree.{FsTree}
use Rattle.qg_fs_tree.specs.Standing.{AreNumbered, trees_of}
use Rattle.qg_fs_tree.proofs.Before.{index_among, index_same}
use Rattle.qg_fs_tree.proofs.Lists.{from-mapped, has-mapped}

-- the number of a tree
abbrev pub number_of : Root → ℕ
number_of tree = tree.owner

-- numbers that ascend, and one that is none of them
distinct_with : (x : ℕ) (xs : List ℕ) → IsStrictlyIncreasing xs → ((y : ℕ) → Contains xs y → y ≢ x)
    → IsDistinct eqb (x ∷ xs)
distinct_with x xs up apart = IsDistinct-from_apart eqb (x ∷ xs) each where
  each : (i j : ℕ) (d : ℕ) → i < j → j < length (x ∷ xs)
      → eqb (get_or (x ∷ xs) i d) (get_or (x ∷ xs) j d) ≡ false
  each i zero d order inside = absurd (omega (arith, order))
  each zero (suc j) d order inside =
      ne_eqb x (get_or xs j d)
      (λ same. apart (get_or xs j d) (index_among xs j d (omega (arith, inside))) (sym same))
  each (suc i) (suc j) d order inside =
      let less = AllPairs-from_increasing xs up i j d (omega (arith, order)) (omega (arith, inside)) in
      ne_eqb (get_or xs i d) (get_or xs j d) (λ same. omega (arith, less, same))

-- and back: none of those behind is the first
apart_behind : (x : ℕ) (xs : List ℕ) → IsDistinct eqb (x ∷ xs) → (y : ℕ) → Contains xs y → y ≢ x
apart_behind x xs distinct y has same =
    let differ = apart_from_distinct eqb (x ∷ xs) 0 (suc has.0) y distinct (omega arith)
    (let inside = has.1 in omega (arith, inside)) in
    let equal = eq-eqb x (get_or xs has.0 y) (sym same ∙ sym has.2) in
    let wrong : true ≡ false = sym equal ∙ differ in
    cc

-- numbers that do not fall
rising_numbers : {X : Type 0} (number : X → ℕ) (xs : List X) → IsNonDecreasingBy number xs
    → IsNonDecreasing (map number xs)
rising_numbers number [] up = λ i j d order short. absurd (omega (arith, short))
rising_numbers number (x ∷ xs) up = λ i j d order short.
    let all = x ∷ xs in
    let inside : j < length all = omega (arith, short, length-map all number) in
    let here = get_or-map number all i x d (omega (arith, order, inside)) in
    let there = get_or-map number all j x d inside in
    omega (arith, here, there, up i j x order inside)

-- the same trees in another order, the others put in order
pub AreNumbered-turned : (old new : FsTree) → IsPermutation (trees_of old) (trees_of new)
    → IsNonDecreasingBy (λ tree. tree.owner) new.others.items → AreNumbered old → AreNumbered new
AreNumbered-turned old new trees rises numbered =
    let was = distinct_with old.tree.owner (map number_of old.others.items) numbered.ascending (λ y has same.
    let tree = from-mapped number_of old.others.items y has in
    numbered.apart_at tree.0 tree.1 (tree.2 ∙ same)) in
    let is = IsDistinct-IsPermutation eqb (λ a b. grind (arith, nat_tests)) (map number_of (trees_of old))
    (map number_of (trees_of new)) (IsPermutation-map number_of (trees_of old) (trees_of new) trees) was in
    record {
      ascending = IsStrictlyIncreasing-from_distinct (map number_of new.others.items)
          (rising_numbers number_of new.others.items rises)
          (IsDistinct-tail eqb new.tree.owner (map number_of new.others.items) is);
      apart_at = λ tree has same. apart_behind new.tree.owner (map number_of new.others.items) is tree.owner
          (has-mapped number_of new.others.items tree has) same;
    }

-- ---- the tree of a number

-- one tree more that is not the one of a number
pub not-there : (trees : List Root) (number i : ℕ) (found : Root) → i < length trees → found ≡ get_or trees i found
    → (found.owner == number) ≡ false → ((k : ℕ) (d : Root) → k < i → (get_or trees k d).owner ≢ number)
    → (k : ℕ) (d : Root) → k < i + 1 → (get_or trees k d).owner ≢ number
not-there trees number i found inside is differs before k d less same = elim (eqb_tells k i) [
  | inl (equal, here) ↦
      let own : (get_or trees i d).owner ≡ number = ap (λ (j : ℕ). (get_or trees j d).owner) (sym here) ∙ same in
      let there = ap (λ (tree : Root). tree.owner) (is ∙ index_same trees i found d inside) in
      let equals = eq-eqb found.owner number (there ∙ own) in
      let wrong : true ≡ false = sym equals ∙ differs in
      cc
  | inr (unequal, differ) ↦ before k d (omega (arith, less, differ)) same
]
