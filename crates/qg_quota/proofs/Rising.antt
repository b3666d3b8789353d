-- Tables that ascend by number and relations that ascend, from what stands before them, and the keys of their items.
use Rattle.std.proofs.Common.{◌≡◌, ℕ, suc, ◌+◌, ◌<◌, Bool, true, List, [], ◌∷◌, map, refl, sym, ap, subst, inl, inr}
use Rattle.std.proofs.Common.{arith}
use Rattle.std.specs.Prelude.{◌&&◌, slice_index}
use Rattle.std.specs.List.Sorted.{IsStrictlyIncreasing, IsStrictlySortedBy}
use Rattle.std.specs.Ordering.{is_lt, nat_cmp}
use Rattle.std.specs.Cmp.{nat_cmp_is}
use Rattle.std.specs.declared.cmp.Ordering.{Ordering}
use Rattle.std.specs.declared.cmp.Ordering.TheVariants.{Less}
use Rattle.std.proofs.lemmas.Bool.{cases_lt}
use Rattle.std.proofs.lemmas.Map.Keys.{IsStrictlyIncreasing-from_sorted, sorted_head, sorted_tail}
use Rattle.qg_num.specs.Key.{key_cmp}
use Rattle.qg_node.specs.declared.item.Item.{Item}
use Rattle.qg_node.specs.Nodes.{ascends_from}
use Rattle.qg_image.specs.Table.{keys_of}
use Rattle.qg_tree_items.specs.Keys.{key_with}
use Rattle.qg_qgroups.specs.Groups.{pair_cmp}
use Rattle.qg_quota.specs.Written.{item_of_relation}

-- entries ascend by number, and all are above one
abbrev pub Above : {A : Type 0} → ℕ → List (ℕ × A) → Type 0
Above n [] = Unit {0}
Above n (entry ∷ entries) = (n < entry.0) × Above entry.0 entries

-- entries ascend by number
abbrev pub Rises : {A : Type 0} → List (ℕ × A) → Type 0
Rises [] = Unit {0}
Rises (entry ∷ entries) = Above entry.0 entries

later_increasing : (x : ℕ) (xs : List ℕ) → IsStrictlyIncreasing (x ∷ xs) → IsStrictlyIncreasing xs
later_increasing x xs h k inside =
    let next : suc k + 1 ≡ suc (k + 1) = omega arith in
    subst (λ (n : ℕ). slice_index xs k < slice_index (x ∷ xs) n) next (h (suc k) (omega arith))

above_increasing : {A : Type 0} (n : ℕ) (entries : List (ℕ × A)) → IsStrictlyIncreasing (n ∷ keys_of entries)
    → Above n entries
above_increasing n [] h = tt
above_increasing n (entry ∷ entries) h =
    (h 0 (omega arith), above_increasing entry.0 entries (later_increasing n (keys_of (entry ∷ entries)) h))

rises_increasing : {A : Type 0} (entries : List (ℕ × A)) → IsStrictlyIncreasing (keys_of entries) → Rises entries
rises_increasing [] h = tt
rises_increasing (entry ∷ entries) h = above_increasing entry.0 entries h

pub Rises-sorted : {A : Type 0} (entries : List (ℕ × A)) → IsStrictlySortedBy nat_cmp (keys_of entries) → Rises entries
Rises-sorted entries up = rises_increasing entries (IsStrictlyIncreasing-from_sorted (keys_of entries) up)

-- ---- keys

pub less_is : (a b : ℕ) → a < b → nat_cmp a b ≡ Less
less_is a b h = sym (nat_cmp_is a b Less h)

-- a key of a lesser offset is before
pub before_info : (a b : ℕ) → a < b → is_lt (key_cmp (key_with 0 242 a) (key_with 0 242 b)) ≡ true
before_info a b h = rw (less_is a b h) refl

pub before_limit : (a b : ℕ) → a < b → is_lt (key_cmp (key_with 0 244 a) (key_with 0 244 b)) ≡ true
before_limit a b h = rw (less_is a b h) refl

-- and so is one of a lesser relation
before_relation : (a b : ℕ × ℕ) → pair_cmp a b ≡ Less
    → is_lt (key_cmp (key_with a.0 246 a.1) (key_with b.0 246 b.1)) ≡ true
before_relation a b less = ap (λ (found : Ordering). is_lt found) less

-- relations stand behind what else the tree has
pub before_relations : (kind n a b : ℕ) → kind < 246 → is_lt (key_cmp (key_with 0 kind n) (key_with a 246 b)) ≡ true
before_relations kind n a b lesser = elim (cases_lt 0 a) [
  | inl above ↦ rw (less_is 0 a above) refl
  | inr none ↦
      let is : 0 ≡ a = omega (arith, none) in
      subst (λ (m : ℕ). is_lt (key_cmp (key_with 0 kind n) (key_with m 246 b)) ≡ true) is
      (rw (less_is kind 246 lesser) refl)
]

pub both : (a b : Bool) → a ≡ true → b ≡ true → (a && b) ≡ true
both a b first second = rw (first, second) refl

-- ---- the items of relations

relations_above : (pair : ℕ × ℕ) (pairs : List (ℕ × ℕ)) → IsStrictlySortedBy pair_cmp (pair ∷ pairs)
    → ascends_from (key_with pair.0 246 pair.1) (map (λ (item : Item). item.key) (map item_of_relation pairs)) ≡ true
unfolding ascends_from
relations_above pair [] up = refl
relations_above pair (next ∷ pairs) up =
    both (is_lt (key_cmp (key_with pair.0 246 pair.1) (key_with next.0 246 next.1)))
    (ascends_from (key_with next.0 246 next.1) (map (λ (item : Item). item.key) (map item_of_relation pairs)))
    (before_relation pair next (sorted_head pair_cmp pair (next ∷ pairs) up).0)
    (relations_above next pairs (sorted_tail pair_cmp pair (next ∷ pairs) up))

-- they ascend behind what else the tree has
pub relations-behind : (pairs : List (ℕ × ℕ)) → IsStrictlySortedBy pair_cmp pairs → (kind n : ℕ) → kind < 246
    → ascends_from (key_with 0 kind n) (map (λ (item : Item). item.key) (map item_of_relation pairs)) ≡ true
unfolding ascends_from
relations-behind [] up kind n lesser = refl
relations-behind (pair ∷ pairs) up kind n lesser =
    both (is_lt (key_cmp (key_with 0 kind n) (key_with pair.0 246 pair.1)))
    (ascends_from (key_with pair.0 246 pair.1) (map (λ (item : Item). item.key) (map item_of_relation pairs)))
    (before_relations kind n pair.0 pair.1 lesser) (relations_above pair pairs up)
