use Rattle.std.proofs.Common.{◌≡◌, ℕ, zero, suc, ◌<◌, List, [], ◌∷◌, sym, subst, arith, inl, inr}
use Rattle.std.specs.List.{All, Contains}
use Rattle.std.specs.List.Sorted.{IsStrictlyIncreasing}
use Rattle.qg_image.proofs.Contained.{none_contained, contains_cases}
use Rattle.qg_qgroup_counts.specs.Groups.{AreWithin}
use Rattle.tests_of_structures.proofs.counted.grouped_alone.Goals as goal

below-three : (x y index : ℕ) → x < 3 → y < 3 → Contains (x ∷ y ∷ []) index → index < 3
below-three x y index low high has = elim (contains_cases x (y ∷ []) index has) [
  | inl is ↦ omega (arith, low, is)
  | inr later ↦ elim (contains_cases y [] index later) [
    | inl is ↦ omega (arith, high, is)
    | inr none ↦ absurd (none_contained index none)
  ]
]

two-within : (a b : List ℕ) → a ≡ 0 ∷ 2 ∷ [] → b ≡ 1 ∷ 2 ∷ [] → AreWithin 3 (a ∷ b ∷ [])
two-within a b first second zero index has =
    below-three 0 2 index (omega arith) (omega arith) (subst (λ (list : List ℕ). Contains list index) first has)
two-within a b first second (suc zero) index has =
    below-three 1 2 index (omega arith) (omega arith) (subst (λ (list : List ℕ). Contains list index) second has)
two-within a b first second (suc (suc place)) index has = absurd (none_contained index has)

rising : (x y : ℕ) → x < y → IsStrictlyIncreasing (x ∷ y ∷ [])
rising x y less zero short = less
rising x y less (suc k) short = absurd (omega (arith, short))

two-once : (a b : List ℕ) → a ≡ 0 ∷ 2 ∷ [] → b ≡ 1 ∷ 2 ∷ [] → All IsStrictlyIncreasing (a ∷ b ∷ [])
two-once a b first second zero d short = subst IsStrictlyIncreasing (sym first) (rising 0 2 (omega arith))
two-once a b first second (suc zero) d short = subst IsStrictlyIncreasing (sym second) (rising 1 2 (omega arith))
two-once a b first second (suc (suc k)) d short = absurd (omega (arith, short))

pub group_counters-requires-clause-places : goal.group_counters-requires-clause-places
group_counters-requires-clause-places c =
    two-within c.in_ok-places.field-0 c.in_ok-places-2.field-0 c.in_ok-places.ensures c.in_ok-places-2.ensures

pub group_counters-requires-clause-once : goal.group_counters-requires-clause-once
group_counters-requires-clause-once c =
    two-once c.in_ok-places.field-0 c.in_ok-places-2.field-0 c.in_ok-places.ensures c.in_ok-places-2.ensures
