-- Relations as pairs of numbers, and what stays sound.
use Rattle.std.proofs.Common.{◌≡◌, ℕ, zero, suc, ◌*◌, ◌/◌, ◌<◌, ◌≤◌, ◌^◌, Bool, true, false, List, [], ◌∷◌, Option}
use Rattle.std.proofs.Common.{None, Some, refl, sym, ap, subst, ◌∙◌, arith, inl, inr, nat_lt, ◌⊎◌, zero-lt-suc}
use Rattle.std.specs.Prelude.{◌&&◌, ◌||◌, ◌==◌, not, is_some, IsTrue, MatchOption}
use Rattle.std.specs.List.{filter, list_any}
use Rattle.std.specs.BTreeSet.{BTreeSet, IsOrdered, IsUpperBound}
use Rattle.std.specs.Bool.{then_some}
use Rattle.std.specs.Ordering.{nat_cmp}
use Rattle.std.proofs.lemmas.Bool.{cases_Bool, true≢false}
use Rattle.std.proofs.lemmas.Bool.Decides.{nat_tests}
use Rattle.std.proofs.lemmas.Map.Keys.{ge_from_not_lt}
use Rattle.std.proofs.Math.Nat.{div-mul-le_self, le-div_iff_mul-le}
use Rattle.qg_machine.specs.ItemMeaning.{first_some}
use Rattle.qg_machine.specs.Members.{Hierarchy, level_of_group}
use Rattle.qg_machine.specs.GroupChange.{has_pair, same_pair}
use Rattle.qg_qgroups.specs.Groups.{has_members, has_number, is_kept, pair_cmp}
use Rattle.qg_qgroups.specs.Faults.{destroy_fault}
use Rattle.qg_qgroups.specs.declared.fault.HierFault.TheVariants as why
use Rattle.qg_qgroups.specs.Kept.{AreKept, PairsFit, seen}
use Rattle.qg_qgroups.proofs.Lists.{any_filtered, both_true, not_true}
use Rattle.qg_qgroups.proofs.Sets.{number_found, number_is, pair_is}

-- ---- levels

pub level_mono : (a b : ℕ) → a ≤ b → level_of_group a ≤ level_of_group b
level_mono a b le =
    let low : a / 2 ^ 48 * 2 ^ 48 ≤ b = omega (arith, div-mul-le_self a (2 ^ 48), le) in
    (le-div_iff_mul-le (zero-lt-suc _)).1 low

pub level_less : (a b : ℕ) → level_of_group a < level_of_group b → a < b
level_less a b less = elim (cases_Bool (nat_lt a b)) [
  | inl h ↦ grind (arith, nat_tests)
  | inr h ↦ let le : b ≤ a = grind (arith, nat_tests) in absurd (omega (arith, less, level_mono b a le))
]

-- a group above level 0 has a number above 0
pub above_nothing : (group : ℕ) → 0 < level_of_group group → 0 < group
above_nothing zero above = absurd (omega (arith, above))
above_nothing (suc n) above = omega arith

-- none is greater
pub upper : (groups : BTreeSet ℕ) (last : ℕ) → IsUpperBound nat_cmp groups last → (group : ℕ)
    → has_number group groups.keys ≡ true → group ≤ last
upper groups last bound group has = ge_from_not_lt last group (bound group (sym (number_found group groups.keys) ∙ has))

-- ---- a pair that passes a test

pub or_left : (a b : Bool) → a ≡ true → a || b ≡ true
or_left a b h = ap (λ (x : Bool). x || b) h

pub or_right : (a b : Bool) → b ≡ true → a || b ≡ true
or_right true b h = refl
or_right false b h = h

pub or_cases : (a b : Bool) → a || b ≡ true → (a ≡ true) ⊎ (b ≡ true)
or_cases true b h = inl refl
or_cases false b h = inr h

pub and_both : (a b : Bool) → a ≡ true → b ≡ true → a && b ≡ true
and_both a b g h = ap (λ (x : Bool). x && b) g ∙ h

pub same_number : (n : ℕ) → (n == n) ≡ true
same_number n = grind (arith, nat_tests)

same_itself : (pair : ℕ × ℕ) → same_pair pair pair ≡ true
same_itself pair = and_both (pair.0 == pair.0) (pair.1 == pair.1) (same_number pair.0) (same_number pair.1)

pub pair_at : (p : ℕ × ℕ → Bool) (pairs : List (ℕ × ℕ)) → list_any p pairs ≡ true
    → (pair : ℕ × ℕ) × (has_pair pair.0 pair.1 pairs ≡ true) × (p pair ≡ true)
pair_at p [] some = absurd (true≢false (sym some))
pair_at p (pair ∷ pairs) some = elim (or_cases (p pair) (list_any p pairs) some) [
  | inl here ↦ (pair, or_left (same_pair pair pair) (has_pair pair.0 pair.1 pairs) (same_itself pair), here)
  | inr later ↦
      let found = pair_at p pairs later in
      (found.0, or_right (same_pair found.0 pair) (has_pair found.0.0 found.0.1 pairs) found.1, found.2)
]

pub any_pair : (p : ℕ × ℕ → Bool) (pairs : List (ℕ × ℕ)) (a b : ℕ) → has_pair a b pairs ≡ true → p (a, b) ≡ true
    → list_any p pairs ≡ true
any_pair p [] a b has passes = absurd (true≢false (sym has))
any_pair p (pair ∷ pairs) a b has passes = elim (or_cases (same_pair (a, b) pair) (has_pair a b pairs) has) [
  | inl here ↦ or_left (p pair) (list_any p pairs) (ap p (sym (pair_is (a, b) pair here)) ∙ passes)
  | inr later ↦ or_right (p pair) (list_any p pairs) (any_pair p pairs a b later passes)
]

-- ---- pairs without those of one number

-- no pair begins with a number, where it is paired with none
pub none_of : (of : ℕ) (pairs : List (ℕ × ℕ)) → ((other : ℕ) → has_pair of other pairs ≡ false)
    → list_any (λ pair. not (not (pair.0 == of))) pairs ≡ false
none_of of pairs none = elim (cases_Bool (list_any (λ pair. not (not (pair.0 == of))) pairs)) [
  | inl some ↦
      let found = pair_at (λ (pair : ℕ × ℕ). not (not (pair.0 == of))) pairs some in
      let is : found.0.0 ≡ of = number_is found.0.0 of (twice (found.0.0 == of) found.2) in
      absurd (true≢false (sym found.1 ∙ ap (λ (a : ℕ). has_pair a found.0.1 pairs) is ∙ none found.0.1))
  | inr h ↦ h
] where
  twice : (b : Bool) → not (not b) ≡ true → b ≡ true
  twice true h = refl
  twice false h = h

-- a pair that isn't of a number isn't this one of it
pub other_pairs : (of other : ℕ) (pair : ℕ × ℕ) → not (pair.0 == of) ≡ true → not (same_pair pair (of, other)) ≡ true
other_pairs of other pair apart = ap (λ (b : Bool). not (b && (pair.1 == other))) (not_true (pair.0 == of) apart)

-- what is left without those of a number
pub left_pair : (of m p : ℕ) (pairs : List (ℕ × ℕ)) → has_pair m p (filter (λ pair. not (pair.0 == of)) pairs) ≡ true
    → (has_pair m p pairs ≡ true) × ((m == of) ≡ false)
left_pair of m p pairs has =
    let found = pair_at (λ (pair : ℕ × ℕ). not (pair.0 == of) && same_pair (m, p) pair) pairs
    (sym (any_filtered (same_pair (m, p)) (λ (pair : ℕ × ℕ). not (pair.0 == of)) pairs) ∙ has) in
    let parts = both_true (not (found.0.0 == of)) (same_pair (m, p) found.0) found.2 in
    let is = pair_is (m, p) found.0 parts.1 in (
      ap (λ (pair : ℕ × ℕ). has_pair pair.0 pair.1 pairs) is ∙ found.1,
      ap (λ (pair : ℕ × ℕ). pair.0 == of) is ∙ not_true (found.0.0 == of) parts.0,
    )

-- ---- who has members

pub members_some : (groups : BTreeSet ℕ) (up down : BTreeSet (ℕ × ℕ)) (group other : ℕ) → AreKept groups up down
    → has_pair group other down.keys ≡ true → has_members (seen groups up) group ≡ true
members_some groups up down group other kept has =
    any_pair (λ (pair : ℕ × ℕ). pair.1 == group) up.keys other group (sym (kept.turned other group) ∙ has)
    (same_number group)

pub members_none : (groups : BTreeSet ℕ) (up down : BTreeSet (ℕ × ℕ)) (group : ℕ) → AreKept groups up down
    → ((other : ℕ) → has_pair group other down.keys ≡ false) → has_members (seen groups up) group ≡ false
members_none groups up down group kept none = elim (cases_Bool (has_members (seen groups up) group)) [
  | inl some ↦
      let found = pair_at (λ (pair : ℕ × ℕ). pair.1 == group) up.keys some in
      let is : found.0.1 ≡ group = number_is found.0.1 group found.2 in
      absurd (true≢false (sym found.1 ∙ ap (λ (b : ℕ). has_pair found.0.0 b up.keys) is
      ∙ sym (kept.turned found.0.0 group) ∙ none found.0.0))
  | inr h ↦ h
]

-- ---- a group goes

pub kept_destroyed : (groups left : BTreeSet ℕ) (up down fewer turned : BTreeSet (ℕ × ℕ)) (group : ℕ)
    → AreKept groups up down → ((other : ℕ) → has_pair group other down.keys ≡ false)
    → fewer.keys ≡ filter (λ pair. not (pair.0 == group)) up.keys
    → ((a b : ℕ) → has_pair b a turned.keys ≡ has_pair a b fewer.keys)
    → IsOrdered pair_cmp fewer → IsOrdered pair_cmp turned → PairsFit fewer → PairsFit turned
    → ((other : ℕ) → has_number other left.keys ≡ (not (group == other) && has_number other groups.keys))
    → IsOrdered nat_cmp left → AreKept left fewer turned
kept_destroyed groups left up down fewer turned group kept none is same ordered turned_ordered fit turned_fit has
    ascend =
    let back : (m p : ℕ) → has_pair m p fewer.keys ≡ true → (has_pair m p up.keys ≡ true) × ((m == group) ≡ false) =
    λ m p there. left_pair group m p up.keys (subst (λ (pairs : List (ℕ × ℕ)). has_pair m p pairs ≡ true) is there) in
    let stays : (n : ℕ) → (group == n) ≡ false → has_number n groups.keys ≡ true → has_number n left.keys ≡ true =
    λ n apart there. has n ∙ and_both (not (group == n)) (has_number n groups.keys) (ap not apart) there in
    record {
      sound = record {
        groups = ascend;
        pairs = ordered;
        members = λ m p there. stays m (sym (turn m group) ∙ (back m p there).1)
            (kept.sound.members m p (back m p there).0);
        parents = λ m p there. stays p (not_parent m p (back m p there).0) (kept.sound.parents m p (back m p there).0);
        rising = λ m p there. kept.sound.rising m p (back m p there).0;
      };
      turned = same;
      ordered = turned_ordered;
      up_fit = fit;
      down_fit = turned_fit;
    } where
      turn : (a b : ℕ) → (a == b) ≡ (b == a)
      turn a b = grind (arith, nat_tests)

      not_parent : (m p : ℕ) → has_pair m p up.keys ≡ true → (group == p) ≡ false
      not_parent m p there = elim (cases_Bool (group == p)) [
        | inl here ↦ absurd (true≢false (sym there ∙ sym (kept.turned m p)
            ∙ ap (λ (n : ℕ). has_pair n m down.keys) (sym (number_is group p here)) ∙ none m))
        | inr h ↦ h
      ]

-- a pair the other way round is another's exactly if it is its
pub turned_pair : (a b of other : ℕ) → same_pair (b, a) (other, of) ≡ same_pair (a, b) (of, other)
turned_pair a b of other = swap (b == other) (a == of) where
  swap : (x y : Bool) → x && y ≡ y && x
  swap true true = refl
  swap true false = refl
  swap false true = refl
  swap false false = refl

-- ---- what the first pair of a number says

pub no_other : (of : ℕ) (pairs : List (ℕ × ℕ)) (first : Option ℕ)
    → MatchOption first ((other : ℕ) → has_pair of other pairs ≡ false) (λ other. IsTrue (has_pair of other pairs))
    → is_some first ≡ false
    → (other : ℕ) → has_pair of other pairs ≡ false
no_other of pairs None told is = told
no_other of pairs (Some other) told is = absurd (true≢false is)

pub some_other : (of : ℕ) (pairs : List (ℕ × ℕ)) (first : Option ℕ)
    → MatchOption first ((other : ℕ) → has_pair of other pairs ≡ false) (λ other. IsTrue (has_pair of other pairs))
    → is_some first ≡ true
    → (other : ℕ) × (has_pair of other pairs ≡ true)
some_other of pairs None told is = absurd (true≢false (sym is))
some_other of pairs (Some other) told is = (other, told)

-- ---- why a group can't go

pub destroy_busy : (hierarchy : Hierarchy) (group : ℕ) → is_kept hierarchy group ≡ true
    → has_members hierarchy group ≡ true → destroy_fault hierarchy group ≡ Some why.Busy
destroy_busy hierarchy group kept busy =
    ap (λ (b : Bool). first_some (then_some (not b) why.NoGroup ∷ then_some (has_members hierarchy group) why.Busy
    ∷ [])) kept ∙ ap (λ (b : Bool). first_some (then_some b why.Busy ∷ [])) busy

pub destroy_free : (hierarchy : Hierarchy) (group : ℕ) → is_kept hierarchy group ≡ true
    → has_members hierarchy group ≡ false → destroy_fault hierarchy group ≡ None
destroy_free hierarchy group kept free =
    ap (λ (b : Bool). first_some (then_some (not b) why.NoGroup ∷ then_some (has_members hierarchy group) why.Busy
    ∷ [])) kept ∙ ap (λ (b : Bool). first_some (then_some b why.Busy ∷ [])) free
