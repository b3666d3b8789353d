-- Each relation stands under both its keys, so no more are told than half as many as there are items of relations.
use Rattle.std.proofs.Common.{◌≡◌, ℕ, ◌+◌, ◌≤◌, Bool, true, false, cond, List, [], ◌∷◌, length, refl, sym, ap, ◌∙◌}
use Rattle.std.proofs.Common.{subst, inl, inr, arith}
use Rattle.std.specs.Prelude.{◌&&◌, ◌==◌, not, Option, Some, None, nat_le, nat_lt}
use Rattle.std.specs.Bool.{then_some}
use Rattle.std.specs.List.{Contains, cons_option, count_by, filter_map, list_all}
use Rattle.std.specs.List.Sorted.{IsStrictlySortedBy}
use Rattle.std.specs.Ordering.{eq_by_cmp, is_eq, nat_cmp, ordering_then}
use Rattle.std.specs.declared.cmp.Ordering.{Ordering}
use Rattle.std.specs.declared.cmp.Ordering.TheVariants.{Less, Equal, Greater}
use Rattle.std.proofs.lemmas.Bool.{and_parts, eqb-true, leb-true, ltb-true, or_cases}
use Rattle.std.proofs.lemmas.Bool.Decides.{nat_tests}
use Rattle.std.proofs.lemmas.Cmp.{eq_by_cmp_equiv}
use Rattle.std.proofs.lemmas.List.Elements.{All-contains}
use Rattle.std.proofs.lemmas.List.Sums.{AllPass-from_list_all, sum_by-cons}
use Rattle.std.proofs.lemmas.Map.Keys.{IsDistinct-from_sorted}
use Rattle.std.proofs.lemmas.Map.Made.{length-le_from_is_member}
use Rattle.std.proofs.lemmas.Map.Views.{Contains-from_any, list_any-from_Contains}
use Rattle.std.proofs.lemmas.Option.{same_Some}
use Rattle.qg_image.specs.Table.{has_key}
use Rattle.qg_image.specs.declared.part.QuotaPart.{QuotaPart}
use Rattle.qg_image.specs.declared.part.QuotaPart.TheVariants.{Status, Info, Limits, Relation}
use Rattle.qg_image.specs.Members.{level_of_group}
use Rattle.qg_image.proofs.Contained.{contains_here, contains_later}
use Rattle.qg_image.specs.ImageState.{info_told, pair_told}
use Rattle.qg_image.specs.Verdict.{are_few, fits_quota, has_twin, is_relation_part}
use Rattle.qg_qgroups.specs.Groups.{pair_cmp}
use Rattle.qg_qgroups.proofs.Sets.{pair_order}
use Rattle.qg_check.proofs.Pieces.{contains_given, one_given}

-- ---- both ways

-- a relation, told where the group of lesser level comes last: that is the member
abbrev twin_told : QuotaPart → Option (ℕ × ℕ)
twin_told (Status status) = None
twin_told (Info group info) = None
twin_told (Limits group limit) = None
twin_told (Relation group other) = then_some (nat_lt (level_of_group other) (level_of_group group)) (other, group)

one_more : (part : QuotaPart) (parts : List QuotaPart)
    → count_by is_relation_part (part ∷ parts) ≡ cond (is_relation_part part) 1 0 + count_by is_relation_part parts
one_more part parts = sum_by-cons (λ (part : QuotaPart). cond (is_relation_part part) 1 0) part parts

-- an item tells a relation one way, or the other, or neither
both_fewer : (parts : List QuotaPart) → length (filter_map pair_told parts) + length (filter_map twin_told parts)
    ≤ count_by is_relation_part parts
both_fewer [] =
    let none : count_by is_relation_part [] ≡ 0 = refl in
    let pairs : length (filter_map pair_told []) ≡ 0 = refl in
    let twins : length (filter_map twin_told []) ≡ 0 = refl in
    omega (arith, none, pairs, twins)
both_fewer (Status status ∷ parts) =
    let same : count_by is_relation_part (Status status ∷ parts) ≡ 0 + count_by is_relation_part parts =
    one_more (Status status) parts in
    omega (arith, same, both_fewer parts)
both_fewer (Info group info ∷ parts) =
    let same : count_by is_relation_part (Info group info ∷ parts) ≡ 0 + count_by is_relation_part parts =
    one_more (Info group info) parts in
    omega (arith, same, both_fewer parts)
both_fewer (Limits group limit ∷ parts) =
    let same : count_by is_relation_part (Limits group limit ∷ parts) ≡ 0 + count_by is_relation_part parts =
    one_more (Limits group limit) parts in
    omega (arith, same, both_fewer parts)
both_fewer (Relation group other ∷ parts) =
    let more : count_by is_relation_part (Relation group other ∷ parts) ≡ 1 + count_by is_relation_part parts =
    one_more (Relation group other) parts in
    cases (nat_lt (level_of_group group) (level_of_group other)) (nat_lt (level_of_group other) (level_of_group group))
    refl refl more (both_fewer parts)
  where
    cases : (up down : Bool) → nat_lt (level_of_group group) (level_of_group other) ≡ up
        → nat_lt (level_of_group other) (level_of_group group) ≡ down
        → count_by is_relation_part (Relation group other ∷ parts) ≡ 1 + count_by is_relation_part parts
        → length (filter_map pair_told parts) + length (filter_map twin_told parts) ≤ count_by is_relation_part parts
        → length (cons_option (then_some up (group, other)) (filter_map pair_told parts)) + length
        (cons_option (then_some down (other, group)) (filter_map twin_told parts))
        ≤ count_by is_relation_part (Relation group other ∷ parts)
    cases true true u d more rest =
        let rises = ltb-true (level_of_group group) (level_of_group other) u in
        let falls = ltb-true (level_of_group other) (level_of_group group) d in
        absurd (omega (arith, rises, falls))
    cases true false u d more rest = omega (arith, more, rest)
    cases false true u d more rest = omega (arith, more, rest)
    cases false false u d more rest = omega (arith, more, rest)

-- ---- the twin

twin_part : (parts : List QuotaPart) (group other : ℕ) → has_twin parts group other ≡ true
    → Contains parts (Relation other group)
twin_part [] group other has = absurd cc
twin_part (Status status ∷ parts) group other has = contains_later (Status status) parts (Relation other group)
    (twin_part parts group other has)
twin_part (Info told info ∷ parts) group other has = contains_later (Info told info) parts (Relation other group)
    (twin_part parts group other has)
twin_part (Limits told limit ∷ parts) group other has = contains_later (Limits told limit) parts (Relation other group)
    (twin_part parts group other has)
twin_part (Relation lower higher ∷ parts) group other has = elim (or_cases _ _ has) [
  | inl here ↦
      let both = and_parts (lower == other) (higher == group) here in
      let same : Relation lower higher ≡ Relation other group =
      ap (λ (n : ℕ). Relation n higher) (eqb-true lower other both.0)
      ∙ ap (λ (n : ℕ). Relation other n) (eqb-true higher group both.1) in
      subst (λ (told : QuotaPart). Contains (Relation lower higher ∷ parts) told) same
      (contains_here (Relation lower higher) parts)
  | inr later ↦ contains_later (Relation lower higher) parts (Relation other group) (twin_part parts group other later)
]

told_true : (test : Bool) (x y : ℕ × ℕ) → then_some test x ≡ Some y → (test ≡ true) × (x ≡ y)
told_true true x y is = (refl, same_Some x y is)
told_true false x y is = absurd cc

-- the twin of an item that tells a pair tells the same pair
twin_of : (parts : List QuotaPart) → list_all (fits_quota parts) parts ≡ true → (pair : ℕ × ℕ) (part : QuotaPart)
    → Contains parts part → pair_told part ≡ Some pair
    → Contains (filter_map twin_told parts) pair
twin_of parts fit pair (Status status) has is = absurd cc
twin_of parts fit pair (Info group info) has is = absurd cc
twin_of parts fit pair (Limits group limit) has is = absurd cc
twin_of parts fit pair (Relation group other) has is =
    let all = AllPass-from_list_all (fits_quota parts) parts fit in
    let fits = All-contains (λ (part : QuotaPart). fits_quota parts part ≡ true) parts (Relation group other) all has in
    let front = (and_parts (has_twin parts group other && has_key group (filter_map info_told parts))
    (not (level_of_group group == level_of_group other)) fits).0 in
    let twin = twin_part parts group other
    (and_parts (has_twin parts group other) (has_key group (filter_map info_told parts)) front).0 in
    let told = told_true (nat_lt (level_of_group group) (level_of_group other)) (group, other) pair is in
    let here : twin_told (Relation other group) ≡ Some pair =
    ap (λ (test : Bool). then_some test (group, other)) told.0 ∙ ap (λ (one : ℕ × ℕ). Some one) told.1 in
    contains_given twin_told parts (Relation other group) pair twin here

twin_has : (parts : List QuotaPart) → list_all (fits_quota parts) parts ≡ true → (pair : ℕ × ℕ)
    → Contains (filter_map pair_told parts) pair
    → Contains (filter_map twin_told parts) pair
twin_has parts fit pair has =
    let found = one_given pair_told parts pair has in
    twin_of parts fit pair found.0 found.1 found.2

-- ---- how many there are

equal_then : (first second : Ordering) → is_eq (ordering_then first second) ≡ (is_eq first && is_eq second)
equal_then Less second = refl
equal_then Equal second = refl
equal_then Greater second = refl

equal_numbers : (a b : ℕ) → is_eq (nat_cmp a b) ≡ (a == b)
equal_numbers a b = grind (arith, nat_tests)

equal_is : (a b : ℕ) → is_eq (nat_cmp a b) ≡ true → a ≡ b
equal_is a b same = eqb-true a b (sym (equal_numbers a b) ∙ same)

pair_is : (x y : ℕ × ℕ) → eq_by_cmp pair_cmp x y ≡ true → x ≡ y
pair_is x y same =
    let both = and_parts (is_eq (nat_cmp x.0 y.0)) (is_eq (nat_cmp x.1 y.1))
    (sym (equal_then (nat_cmp x.0 y.0) (nat_cmp x.1 y.1)) ∙ same) in
    ap (λ (n : ℕ). (n, x.1)) (equal_is x.0 y.0 both.0) ∙ ap (λ (n : ℕ). (y.0, n)) (equal_is x.1 y.1 both.1)

items_few : (parts : List QuotaPart) → are_few parts ≡ true → count_by is_relation_part parts ≤ 32768
unfolding are_few
items_few parts few =
    leb-true (count_by is_relation_part parts) 32768 (and_parts (nat_le (length (filter_map info_told parts)) 4096)
    (nat_le (count_by is_relation_part parts) 32768) few).1

-- no more are told than are served
pub pairs_few : (parts : List QuotaPart) → IsStrictlySortedBy pair_cmp (filter_map pair_told parts)
    → list_all (fits_quota parts) parts ≡ true → are_few parts ≡ true
    → length (filter_map pair_told parts) ≤ 16384
pairs_few parts ascending fit few =
    let pairs = filter_map pair_told parts in
    let twins = filter_map twin_told parts in
    let laws = eq_by_cmp_equiv pair_order in
    let once = IsDistinct-from_sorted pair_cmp pairs ascending in
    let fewer : length pairs ≤ length twins =
    length-le_from_is_member laws pairs twins once
    (λ pair has. list_any-from_Contains laws pair twins
    (twin_has parts fit pair (Contains-from_any {eq = eq_by_cmp pair_cmp} pair_is pair pairs has))) in
    omega (arith, fewer, both_fewer parts, items_few parts few)
