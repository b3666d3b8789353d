-- Relations as pairs that ascend: one more, and whether one is there.
use Rattle.std.proofs.Common.{◌≡◌, ℕ, zero, suc, ◌+◌, ◌<◌, Bool, true, false, List, [], ◌∷◌, ◌++◌, arith, get_or}
use Rattle.std.proofs.Common.{length, take, Option, Some, None, refl, sym, ap, ◌∙◌, inl, inr, cond, nat_lt}
use Rattle.std.specs.Prelude.{◌==◌, ◌&&◌, ◌||◌, not, if◌then◌else◌, is_some, IsTrue}
use Rattle.std.specs.Bool.{then_some}
use Rattle.std.specs.List.{AllByRecursion, IsDistinct, list_any}
use Rattle.std.specs.List.Sorted.{IsStrictlySortedBy}
use Rattle.std.specs.declared.cmp.Ordering.TheVariants.{Less}
use Rattle.std.proofs.lemmas.Bool.{cases_Bool, cond-false, eq-eqb, lt-ltb, true≢false}
use Rattle.std.proofs.lemmas.Bool.Decides.{nat_tests}
use Rattle.std.proofs.lemmas.List.{get_or-take, get_or_default, length-take-le, take_more}
use Rattle.std.proofs.lemmas.Map.Keys.{IsDistinct-head, IsDistinct-tail, Less-from_sorted}
use Rattle.std.proofs.lemmas.List.Elements.{All-weaker}
use Rattle.std.proofs.lemmas.List.Folds.{list_any-append}
use Rattle.qg_image.specs.ItemMeaning.{first_some}
use Rattle.qg_image.specs.Table.{value_at, with_value}
use Rattle.qg_image.specs.declared.quota.Group.{Group}
use Rattle.qg_image.specs.declared.quota.Quota.{Quota}
use Rattle.qg_image.specs.Members.{Hierarchy, hierarchy_of, level_of_group}
use Rattle.qg_machine.specs.GroupChange.{has_pair, same_pair, with_group, with_pair}
use Rattle.qg_qgroups.specs.declared.fault.HierFault.{HierFault}
use Rattle.qg_qgroups.specs.declared.fault.HierFault.TheVariants as why
use Rattle.qg_qgroups.specs.Faults.{assign_fault, create_fault}
use Rattle.qg_qgroups.specs.Groups.{IsSound, is_kept, pair_cmp}
use Rattle.qg_qgroups.proofs.Sets.{pair_is}
use Rattle.qg_qgroups.specs.Changing.{AreParents, CanJoin}
use Rattle.qg_qgroups.proofs.Tables.{key-found, value-put}

-- ---- one more at the end

-- a pair isn't in front of one that is less
not_before : (a b c d : ℕ) → pair_cmp (a, b) (c, d) ≡ Less → (nat_lt c a || ((c == a) && nat_lt d b)) ≡ false
not_before a b c d less = grind (arith, nat_tests)

not_same : (a b c d : ℕ) → pair_cmp (a, b) (c, d) ≡ Less → ((c == a) && (d == b)) ≡ false
not_same a b c d less = grind (arith, nat_tests)

-- a pair that all others are less than goes to the end
put_end : (pair : ℕ × ℕ) (pairs : List (ℕ × ℕ))
    → ((k : ℕ) (d : ℕ × ℕ) → k < length pairs → pair_cmp (get_or pairs k d) pair ≡ Less)
    → with_pair pair pairs ≡ pairs ++ pair ∷ []
put_end pair [] all = refl
put_end pair (other ∷ pairs) all =
    let less : pair_cmp other pair ≡ Less = all 0 other (omega arith) in
    cond-false _ _ _ (not_before other.0 other.1 pair.0 pair.1 less)
    ∙ cond-false _ _ _ (not_same other.0 other.1 pair.0 pair.1 less)
    ∙ ap (λ (later : List (ℕ × ℕ)). other ∷ later)
    (put_end pair pairs (λ k d inside. all (suc k) d (omega (arith, inside))))

-- and isn't there yet
absent_end : (pair : ℕ × ℕ) (pairs : List (ℕ × ℕ))
    → ((k : ℕ) (d : ℕ × ℕ) → k < length pairs → pair_cmp (get_or pairs k d) pair ≡ Less)
    → has_pair pair.0 pair.1 pairs ≡ false
absent_end pair [] all = refl
absent_end pair (other ∷ pairs) all =
    let less : pair_cmp other pair ≡ Less = all 0 other (omega arith) in
    ap (λ (b : Bool). b || has_pair pair.0 pair.1 pairs) (not_same other.0 other.1 pair.0 pair.1 less)
    ∙ absent_end pair pairs (λ k d inside. all (suc k) d (omega (arith, inside)))

-- those in front of a pair are less
front_less : (pairs : List (ℕ × ℕ)) (i : ℕ) (one : ℕ × ℕ) → IsStrictlySortedBy pair_cmp pairs → i < length pairs
    → one ≡ get_or pairs i one
    → (k : ℕ) (d : ℕ × ℕ) → k < length (take i pairs) → pair_cmp (get_or (take i pairs) k d) one ≡ Less
front_less pairs i one ascend inside is k d within =
    let many : length (take i pairs) ≡ i = length-take-le i pairs (omega (arith, inside)) in
    let at : get_or (take i pairs) k d ≡ get_or pairs k d = get_or-take i pairs k d (omega (arith, within, many)) in
    let low : get_or pairs k d ≡ get_or pairs k one =
    get_or_default pairs k d one (omega (arith, within, many, inside)) in
    ap (λ (p : ℕ × ℕ). pair_cmp p one) (at ∙ low) ∙ ap (λ (p : ℕ × ℕ). pair_cmp (get_or pairs k one) p) is
    ∙ Less-from_sorted pair_cmp pairs k i one ascend (omega (arith, within, many)) inside

-- the front with the next pair is the next front
pub pairs-next : (pairs : List (ℕ × ℕ)) (i : ℕ) (one : ℕ × ℕ) → IsStrictlySortedBy pair_cmp pairs → i < length pairs
    → one ≡ get_or pairs i one
    → with_pair one (take i pairs) ≡ take (i + 1) pairs
pairs-next pairs i one ascend inside is =
    put_end one (take i pairs) (front_less pairs i one ascend inside is) ∙ ap (λ (p : ℕ × ℕ). take i pairs ++ p ∷ []) is
    ∙ sym (take_more pairs i one inside)

-- the next pair isn't in the front
pub next-absent : (pairs : List (ℕ × ℕ)) (i : ℕ) (one : ℕ × ℕ) → IsStrictlySortedBy pair_cmp pairs → i < length pairs
    → one ≡ get_or pairs i one
    → has_pair one.0 one.1 (take i pairs) ≡ false
next-absent pairs i one ascend inside is = absent_end one (take i pairs) (front_less pairs i one ascend inside is)

-- ---- whether a pair is there

pub pair-there : (pairs : List (ℕ × ℕ)) (i : ℕ) (one : ℕ × ℕ) → i < length pairs → one ≡ get_or pairs i one
    → has_pair one.0 one.1 pairs ≡ true
pair-there [] i one inside is = absurd (omega (arith, inside))
pair-there (pair ∷ pairs) zero one inside is =
    ap (λ (p : ℕ × ℕ). same_pair one p || has_pair one.0 one.1 pairs) (sym is)
    ∙ ap (λ (b : Bool). b || has_pair one.0 one.1 pairs) (own one.0 one.1) where
      own : (a b : ℕ) → same_pair (a, b) (a, b) ≡ true
      own a b = grind (arith, nat_tests)
pair-there (pair ∷ pairs) (suc i) one inside is =
    ap (λ (b : Bool). same_pair one pair || b) (pair-there pairs i one (omega (arith, inside)) is)
    ∙ or_true (same_pair one pair) where
      or_true : (b : Bool) → b || true ≡ true
      or_true true = refl
      or_true false = refl

-- of the pairs with one more, it is there, and the others that were
pub pair-put : (a b : ℕ) (pair : ℕ × ℕ) (pairs : List (ℕ × ℕ))
    → has_pair a b (with_pair pair pairs) ≡ (same_pair (a, b) pair || has_pair a b pairs)
pair-put a b pair [] = refl
pair-put a b pair (other ∷ others) =
    choice (nat_lt pair.0 other.0 || ((pair.0 == other.0) && nat_lt pair.1 other.1)) (same_pair pair other)
    (pair_is pair other) (pair-put a b pair others) where
      twice : (x y : Bool) → x || y ≡ x || (x || y)
      twice true y = refl
      twice false y = refl

      turned : (x y z : Bool) → x || (y || z) ≡ y || (x || z)
      turned true true z = refl
      turned true false z = refl
      turned false y z = refl

      choice : (less same : Bool) → (same ≡ true → pair ≡ other)
          → has_pair a b (with_pair pair others) ≡ (same_pair (a, b) pair || has_pair a b others)
          → has_pair a b (cond less (pair ∷ other ∷ others)
          (cond same (other ∷ others) (other ∷ with_pair pair others)))
          ≡ (same_pair (a, b) pair || (same_pair (a, b) other || has_pair a b others))
      choice true same is rest = refl
      choice false true is rest =
          twice (same_pair (a, b) other) (has_pair a b others)
          ∙ ap (λ (p : ℕ × ℕ). same_pair (a, b) p || (same_pair (a, b) other || has_pair a b others)) (sym (is refl))
      choice false false is rest =
          ap (λ (h : Bool). same_pair (a, b) other || h) rest ∙ turned (same_pair (a, b) other) (same_pair (a, b) pair)
          (has_pair a b others)

-- ---- what may be assigned

free_choice : (a b c d : Bool) → a ≡ true → b ≡ true → c ≡ true → d ≡ false
    → first_some (then_some (not a) why.Level ∷ then_some (not b) why.NoGroup ∷ then_some (not c) why.NoGroup
    ∷ then_some d why.Related ∷ []) ≡ None
free_choice a b c d ha hb hc hd = rw (ha, hb, hc, hd) refl

-- two groups that are there and not related may be, where the parent is of a higher level
pub free-assign : (hierarchy : Hierarchy) (member parent : ℕ) → level_of_group member < level_of_group parent
    → is_kept hierarchy member ≡ true → is_kept hierarchy parent ≡ true
    → has_pair member parent hierarchy.pairs ≡ false → assign_fault hierarchy member parent ≡ None
free-assign hierarchy member parent rises below above none =
    free_choice (nat_lt (level_of_group member) (level_of_group parent)) (is_kept hierarchy member)
    (is_kept hierarchy parent) (has_pair member parent hierarchy.pairs)
    (lt-ltb (level_of_group member) (level_of_group parent) rises) below above none

-- the next of a sound hierarchy's relations may be made
pub free-next : (hierarchy : Hierarchy) (pairs : List (ℕ × ℕ)) (i : ℕ) (one : ℕ × ℕ)
    → IsSound (record hierarchy { pairs = pairs }) → i < length pairs → one ≡ get_or pairs i one
    → assign_fault (record hierarchy { pairs = take i pairs }) one.0 one.1 ≡ None
free-next hierarchy pairs i one sound inside is =
    let there = pair-there pairs i one inside is in
    free-assign (record hierarchy { pairs = take i pairs }) one.0 one.1 (sound.rising one.0 one.1 there)
    (sound.members one.0 one.1 there) (sound.parents one.0 one.1 there)
    (next-absent pairs i one sound.pairs inside is)

-- ---- the groups of a snapshot's list

apart_at : (x : ℕ) (xs : List ℕ) (i one : ℕ) → AllByRecursion (λ z. (x == z) ≡ false) xs → i < length xs
    → one ≡ get_or xs i one → (x == one) ≡ false
apart_at x [] i one all inside is = absurd (omega (arith, inside))
apart_at x (y ∷ ys) zero one all inside is = ap (λ (z : ℕ). x == z) is ∙ all.0
apart_at x (y ∷ ys) (suc i) one all inside is = apart_at x ys i one all.1 (omega (arith, inside)) is

-- of some that are named once, the next isn't named in front
pub named-first : (parents : List ℕ) (i one : ℕ) → IsDistinct (λ a b. a == b) parents → i < length parents
    → one ≡ get_or parents i one
    → list_any (λ other. other == one) (take i parents) ≡ false
named-first [] i one distinct inside is = absurd (omega (arith, inside))
named-first (x ∷ xs) zero one distinct inside is = refl
named-first (x ∷ xs) (suc i) one distinct inside is =
    ap (λ (b : Bool). b || list_any (λ other. other == one) (take i xs))
    (apart_at x xs i one (IsDistinct-head (λ (a b : ℕ). a == b) x xs distinct) (omega (arith, inside)) is)
    ∙ named-first xs i one (IsDistinct-tail (λ (a b : ℕ). a == b) x xs distinct) (omega (arith, inside)) is

-- a group that is a member of those so far is one of the next too
pub join-next : (member parent : ℕ) (parents : List ℕ) (i one : ℕ) (pairs : List (ℕ × ℕ)) → i < length parents
    → one ≡ get_or parents i one
    → has_pair member parent pairs ≡ list_any (λ other. other == parent) (take i parents)
    → has_pair member parent (with_pair (member, one) pairs) ≡ list_any (λ other. other == parent)
    (take (i + 1) parents)
join-next member parent parents i one pairs inside is before =
    pair-put member parent (member, one) pairs
    ∙ ap (λ (b : Bool). ((member == member) && (parent == one)) || b) before
    ∙ ap (λ (b : Bool). (b && (parent == one)) || list_any (λ other. other == parent) (take i parents))
    (eq-eqb member member refl)
    ∙ ap (λ (b : Bool). b || list_any (λ other. other == parent) (take i parents)) (turned_test parent one)
    ∙ turned (one == parent) (list_any (λ other. other == parent) (take i parents))
    ∙ sym (ap (λ (front : List ℕ). list_any (λ other. other == parent) front) (take_more parents i one inside
    ∙ ap (λ (n : ℕ). take i parents ++ n ∷ []) (sym is))
    ∙ list_any-append (λ other. other == parent) (take i parents) (one ∷ [])) where
      turned_test : (a b : ℕ) → (a == b) ≡ (b == a)
      turned_test a b = grind (arith, nat_tests)

      turned : (a b : Bool) → a || b ≡ b || (a || false)
      turned true true = refl
      turned true false = refl
      turned false true = refl
      turned false false = refl

-- ---- a group that was put among the others joins others

none_from : (b : Bool) (fault : HierFault) → then_some b fault ≡ None → b ≡ false
none_from true fault none = absurd (some_none none) where
  some_none : Some fault ≡ None → ⊥
  some_none same = cc
none_from false fault none = refl

pub can-join : (quota : Quota) (member : ℕ) (group : Group) (parents : List ℕ) → IsSound (hierarchy_of quota)
    → create_fault (hierarchy_of quota) member ≡ None
    → level_of_group member ≡ 0 → AreParents quota parents → CanJoin (with_group member group quota) member parents
can-join quota member group parents sound free level into = record {
  there = is_put member ∙ ap (λ (b : Bool). is_some (if b then Some group else value_at member quota.groups))
      (eq-eqb member member refl);
  level = level;
  free = λ parent. elim (cases_Bool (has_pair member parent quota.pairs)) [
    | inl has ↦ absurd (true≢false (sym (sound.members member parent has)
        ∙ none_from (is_kept (hierarchy_of quota) member) why.GroupThere free))
    | inr none ↦ none
  ];
  parents = record {
    there = All-weaker (λ (p : ℕ). IsTrue (is_kept (hierarchy_of quota) p))
        (λ (p : ℕ). IsTrue (is_kept (hierarchy_of (with_group member group quota)) p))
        (λ p has. is_put p ∙ still (p == member) (value_at p quota.groups) (sym (key-found p quota.groups) ∙ has))
        parents into.there;
    above = into.above;
    distinct = into.distinct;
  };
} where
  is_put : (p : ℕ) → is_kept (hierarchy_of (with_group member group quota)) p
      ≡ is_some (if p == member then Some group else value_at p quota.groups)
  is_put p = key-found p (with_value member group quota.groups)
      ∙ ap (λ (o : Option Group). is_some o) (value-put member group quota.groups p)

  still : (b : Bool) (o : Option Group) → is_some o ≡ true → is_some (if b then Some group else o) ≡ true
  still true o has = refl
  still false o has = has
