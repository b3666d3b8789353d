-- What a command of groups leaves of the bounds that an image has: how many groups and relations there are, and which
-- groups.
use Rattle.std.proofs.Common.{◌≡◌, ℕ, suc, ◌+◌, ◌<◌, ◌≤◌, Bool, true, false, List, [], ◌∷◌, arith, length, Option, Some}
use Rattle.std.proofs.Common.{None, refl, sym, ap, subst, ◌∙◌, inl, inr, nat_lt}
use Rattle.std.specs.Prelude.{◌||◌, ◌&&◌, ◌==◌, is_some, nat_le, not, if◌then◌else◌, IsTrue}
use Rattle.std.specs.List.{All, filter, fold, list_any}
use Rattle.std.specs.List.Sorted.{IsStrictlySortedBy}
use Rattle.std.specs.Ordering.{nat_cmp}
use Rattle.std.proofs.lemmas.Bool.{cases_Bool, cond-false, cond-true, eqb-true, leb-false, true≢false}
use Rattle.std.proofs.lemmas.List.{length-map}
use Rattle.std.proofs.lemmas.List.Elements.{All-cons, All-filter, All-head, All-tail, All-weaker}
use Rattle.qg_num.specs.declared.command.Command.{Command}
use Rattle.qg_num.specs.declared.command.Command.TheVariants as command
use Rattle.qg_num.specs.declared.counters.Which.{Which}
use Rattle.qg_num.specs.declared.counters.Which.TheVariants.{Rfer, Excl}
use Rattle.qg_num.specs.declared.refusal.Refusal.{Refusal}
use Rattle.qg_num.specs.declared.refusal.Refusal.TheVariants as why
use Rattle.qg_image.specs.ItemMeaning.{is_subvolume_number}
use Rattle.qg_image.specs.Table.{has_key, keys_of, value_at, with_value, without_key}
use Rattle.qg_image.specs.declared.quota.Group.{Group}
use Rattle.qg_image.specs.declared.quota.Quota.{Quota}
use Rattle.qg_image.specs.Members.{id_of_group, level_of_group}
use Rattle.qg_image.specs.Verdict.{is_group_number, most_groups, most_relations}
use Rattle.qg_machine.specs.GroupChange.{assigned, has_pair, inherited, limited, limits_of, new_group, same_pair}
use Rattle.qg_machine.specs.GroupChange.{with_group, with_limit, with_pair}
use Rattle.qg_machine.specs.Refusals.{refuse}
use Rattle.qg_qgroups.specs.Groups.{has_number}
use Rattle.qg_qgroups.specs.Changing.{change_refusal, group_changed, is_missing, is_off}
use Rattle.qg_qgroups.proofs.Refused.{none-of, refused-not}
use Rattle.qg_qgroups.proofs.Tables.{keys-still, value-left, value-put}

-- ---- bounds

one-more : (n m bound : ℕ) → n ≤ m + 1 → m < bound → n ≤ bound
one-more n m bound step room = omega (arith, step, room)

no-more : (n m bound : ℕ) → n ≤ m → m ≤ bound → n ≤ bound
no-more n m bound step room = omega (arith, step, room)

itself : (n : ℕ) → n ≤ n
itself n = omega arith

neither : (a b : Bool) → (a || b) ≡ false → (a ≡ false) × (b ≡ false)
neither true b is = absurd (true≢false is)
neither false b is = (refl, is)

-- ---- tables and relations

module _ {A : Type 0} where
  length-step : (n : ℕ) (value : A) (entry : ℕ × A) (table : List (ℕ × A)) (less same : Bool)
      → length (with_value n value table) ≤ length table + 1
      → length (if less then (n, value) ∷ entry ∷ table else (if same then (n, value) ∷ table else entry
      ∷ with_value n value table)) ≤ length (entry ∷ table) + 1
  length-step n value entry table true same rest = omega arith
  length-step n value entry table false true rest = omega arith
  length-step n value entry table false false rest = omega (arith, rest)

  length-put : (n : ℕ) (value : A) (table : List (ℕ × A)) → length (with_value n value table) ≤ length table + 1
  length-put n value [] = omega arith
  length-put n value (entry ∷ table) = length-step n value entry table (nat_lt n entry.0) (entry.0 == n)
      (length-put n value table)

  all-step : (P : ℕ × A → Type 0) (n : ℕ) (value : A) (entry : ℕ × A) (table : List (ℕ × A)) (less same : Bool)
      → P (n, value) → P entry → All P table
      → All P (with_value n value table)
      → All P (if less then (n, value) ∷ entry ∷ table else (if same then (n, value) ∷ table else entry
      ∷ with_value n value table))
  all-step P n value entry table true same new here behind rest =
      All-cons P (n, value) (entry ∷ table) new (All-cons P entry table here behind)
  all-step P n value entry table false true new here behind rest = All-cons P (n, value) table new behind
  all-step P n value entry table false false new here behind rest =
      All-cons P entry (with_value n value table) here rest

  -- what is said of all stays said of all with one more
  pub all-put : (P : ℕ × A → Type 0) (n : ℕ) (value : A) (table : List (ℕ × A)) → P (n, value) → All P table
      → All P (with_value n value table)
  all-put P n value [] new all = All-cons P (n, value) [] new all
  all-put P n value (entry ∷ table) new all =
      let here : P entry = All-head P entry table all in
      let behind : All P table = All-tail P entry table all in
      all-step P n value entry table (nat_lt n entry.0) (entry.0 == n) new here behind
      (all-put P n value table new behind)

  -- and it is said of what is found
  pub all-found : (P : ℕ × A → Type 0) (n : ℕ) (value : A) (table : List (ℕ × A)) → All P table
      → value_at n table ≡ Some value → P (n, value)
  all-found P n value [] all found = absurd (none_some found) where
    none_some : None ≡ Some value → ⊥
    none_some same = cc
  all-found P n value (entry ∷ table) all found = elim (cases_Bool (entry.0 == n)) [
    | inl same ↦
        let own : Some entry.1 ≡ Some value = sym (cond-true (entry.0 == n) (Some entry.1) (value_at n table) same)
        ∙ found in
        let value_is : entry.1 ≡ value = (cc) in
        subst (λ (v : A). P (n, v)) value_is
        (subst (λ (m : ℕ). P (m, entry.1)) (eqb-true entry.0 n same) (All-head P entry table all))
    | inr differ ↦
        all-found P n value table (All-tail P entry table all)
        (sym (cond-false (entry.0 == n) (Some entry.1) (value_at n table) differ) ∙ found)
  ]

  -- a number that is there stays there with one more
  pub key-kept : (n : ℕ) (value : A) (m : ℕ) (table : List (ℕ × A)) → has_key m table ≡ true
      → has_key m (with_value n value table) ≡ true
  key-kept n value m table has =
      ap (λ (o : Option A). is_some o) (value-put n value table m) ∙ still (m == n) where
        still : (b : Bool) → is_some (if b then Some value else value_at m table) ≡ true
        still true = refl
        still false = has

  -- and without another one
  pub key-left : (n m : ℕ) (table : List (ℕ × A)) → (m == n) ≡ false → has_key m table ≡ true
      → has_key m (without_key n table) ≡ true
  key-left n m table differ has =
      ap (λ (o : Option A). is_some o) (value-left n table m ∙ cond-false (m == n) None (value_at m table) differ) ∙ has

few-step : {X : Type 0} (x : X) (some all : List X) (b : Bool) → length some ≤ length all
    → length (if b then x ∷ some else some) ≤ length (x ∷ all)
few-step x some all true few = omega (arith, few)
few-step x some all false few = omega (arith, few)

-- no more than there were
pub left-few : {X : Type 0} (p : X → Bool) (xs : List X) → length (filter p xs) ≤ length xs
left-few p [] = omega arith
left-few p (x ∷ xs) = few-step x (filter p xs) xs (p x) (left-few p xs)

pairs-step : (pair other : ℕ × ℕ) (pairs : List (ℕ × ℕ)) (less same : Bool)
    → length (with_pair pair pairs) ≤ length pairs + 1
    → length (if less then pair ∷ other ∷ pairs else (if same then other ∷ pairs else other ∷ with_pair pair pairs))
    ≤ length (other ∷ pairs) + 1
pairs-step pair other pairs true same rest = omega arith
pairs-step pair other pairs false true rest = omega arith
pairs-step pair other pairs false false rest = omega (arith, rest)

-- one relation more at the most
pub pairs-put : (pair : ℕ × ℕ) (pairs : List (ℕ × ℕ)) → length (with_pair pair pairs) ≤ length pairs + 1
pairs-put pair [] = omega arith
pairs-put pair (other ∷ pairs) =
    pairs-step pair other pairs (nat_lt pair.0 other.0 || ((pair.0 == other.0) && nat_lt pair.1 other.1))
    (same_pair pair other) (pairs-put pair pairs)

-- ---- a limit

module _ (number : ℕ) (which : Which) (max : Option ℕ) (quota : Quota) where
  limit-there : (group : Group) → value_at number quota.groups ≡ Some group
      → limited number which max quota ≡ with_group number (with_limit which max group) quota
  limit-there group found = rw found refl

  limit-absent : value_at number quota.groups ≡ None → limited number which max quota ≡ quota
  limit-absent none = rw none refl

  -- where a group is or isn't there, with what is then limited
  by-limit : (Q : Quota → Type 0) → Q quota → ((group : Group) → value_at number quota.groups ≡ Some group
      → Q (with_group number (with_limit which max group) quota))
      → (o : Option Group) → value_at number quota.groups ≡ o → Q (limited number which max quota)
  by-limit Q same other None is = subst Q (sym (limit-absent is)) same
  by-limit Q same other (Some group) is = subst Q (sym (limit-there group is)) (other group is)

  pub limit-kept : (Q : Quota → Type 0) → Q quota
      → ((group : Group) → value_at number quota.groups ≡ Some group
      → Q (with_group number (with_limit which max group) quota)) → Q (limited number which max quota)
  limit-kept Q same other = by-limit Q same other (value_at number quota.groups) refl

-- ---- what isn't refused

create-free : (quota : Quota) (subvolumes : List ℕ) (group : ℕ)
    → change_refusal (Some quota) subvolumes (command.GroupCreate group)
    ≡ None
    → ((level_of_group group == 0) ≡ false) × (length quota.groups < most_groups)
create-free quota subvolumes group none =
    let off : Option Refusal = is_off (Some quota) in
    let level : Option Refusal = refuse (not (not (level_of_group group == 0))) why.Level in
    let there : Option Refusal = refuse (has_number group (keys_of quota.groups)) why.GroupThere in
    let many : Option Refusal = refuse (nat_le most_groups (length (keys_of quota.groups))) why.TooMany in
    let one = none-of off (level ∷ there ∷ many ∷ []) none in
    let two = none-of level (there ∷ many ∷ []) one.1 in
    let three = none-of there (many ∷ []) two.1 in
    let room = leb-false most_groups (length (keys_of quota.groups))
    (refused-not (nat_le most_groups (length (keys_of quota.groups))) why.TooMany (none-of many [] three.1).0) in (
      not-true (level_of_group group == 0) (refused-not (not (not (level_of_group group == 0))) why.Level two.0),
      omega (arith, room, length-map quota.groups (λ (entry : ℕ × Group). entry.0)),
    ) where
      not-true : (b : Bool) → not (not b) ≡ false → b ≡ false
      not-true true is = absurd (true≢false is)
      not-true false is = refl

destroy-free : (quota : Quota) (subvolumes : List ℕ) (group : ℕ)
    → change_refusal (Some quota) subvolumes (command.GroupDestroy group) ≡ None → has_number group subvolumes ≡ false
destroy-free quota subvolumes group none =
    let off : Option Refusal = is_off (Some quota) in
    let missing : Option Refusal = is_missing (Some quota) group in
    let busy : Option Refusal =
    refuse (list_any (λ pair. pair.1 == group) quota.pairs || has_number group subvolumes) why.Busy in
    let one = none-of off (missing ∷ busy ∷ []) none in
    let two = none-of missing (busy ∷ []) one.1 in
    (neither (list_any (λ pair. pair.1 == group) quota.pairs) (has_number group subvolumes)
    (refused-not (list_any (λ pair. pair.1 == group) quota.pairs || has_number group subvolumes) why.Busy
    (none-of busy [] two.1).0)).1

assign-free : (quota : Quota) (subvolumes : List ℕ) (member parent : ℕ)
    → change_refusal (Some quota) subvolumes (command.Assign member parent) ≡ None
    → length quota.pairs < most_relations
assign-free quota subvolumes member parent none =
    let off : Option Refusal = is_off (Some quota) in
    let level : Option Refusal = refuse (not (nat_lt (level_of_group member) (level_of_group parent))) why.Level in
    let lower : Option Refusal = is_missing (Some quota) member in
    let upper : Option Refusal = is_missing (Some quota) parent in
    let related : Option Refusal = refuse (has_pair member parent quota.pairs) why.Related in
    let many : Option Refusal = refuse (nat_le most_relations (length quota.pairs)) why.TooMany in
    let one = none-of off (level ∷ lower ∷ upper ∷ related ∷ many ∷ []) none in
    let two = none-of level (lower ∷ upper ∷ related ∷ many ∷ []) one.1 in
    let three = none-of lower (upper ∷ related ∷ many ∷ []) two.1 in
    let four = none-of upper (related ∷ many ∷ []) three.1 in
    let five = none-of related (many ∷ []) four.1 in
    leb-false most_relations (length quota.pairs) (refused-not (nat_le most_relations (length quota.pairs)) why.TooMany
    (none-of many [] five.1).0)

-- ---- after a command of groups

module _ (stamp : ℕ) (subvolumes : List ℕ) (quota : Quota) where
  -- no more groups than an image can have
  pub few-after : (given : Command) → change_refusal (Some quota) subvolumes given ≡ None
      → IsStrictlySortedBy nat_cmp (keys_of quota.groups)
      → length quota.groups ≤ most_groups → length (group_changed stamp given quota).groups ≤ most_groups
  few-after (command.GroupCreate group) none ascend few =
      one-more (length (with_value group (new_group stamp) quota.groups)) (length quota.groups) most_groups
      (length-put group (new_group stamp) quota.groups)
      (create-free quota subvolumes group none).1
  few-after (command.GroupDestroy group) none ascend few =
      no-more (length (without_key group quota.groups)) (length quota.groups) most_groups
      (left-few (λ (entry : ℕ × Group). not (entry.0 == group)) quota.groups) few
  few-after (command.Assign member parent) none ascend few = few
  few-after (command.Remove member parent) none ascend few = few
  few-after (command.Limit number which max) none ascend few =
      limit-kept number which max quota (λ (q : Quota). length q.groups ≤ most_groups) few (λ group found.
      let one : Group = with_limit which max group in
      let made : List (ℕ × Group) = with_value number one quota.groups in
      let keys : keys_of made ≡ keys_of quota.groups =
      keys-still number one quota.groups ascend (ap (λ (o : Option Group). is_some o) found) in
      let all : length (keys_of made) ≡ length (keys_of quota.groups) = ap (λ (ks : List ℕ). length ks) keys in
      let many : length made ≡ length quota.groups =
      sym (length-map made (λ (entry : ℕ × Group). entry.0)) ∙ all
      ∙ length-map quota.groups (λ (entry : ℕ × Group). entry.0) in
      no-more (length made) (length quota.groups) most_groups (omega (arith, many)) few)
  few-after _ none ascend few = few

  -- no more relations
  pub pairs-after : (given : Command) → change_refusal (Some quota) subvolumes given ≡ None
      → length quota.pairs ≤ most_relations
      → length (group_changed stamp given quota).pairs ≤ most_relations
  pairs-after (command.GroupCreate group) none few = few
  pairs-after (command.GroupDestroy group) none few =
      no-more (length (filter (λ pair. not (pair.0 == group)) quota.pairs)) (length quota.pairs) most_relations
      (left-few (λ (pair : ℕ × ℕ). not (pair.0 == group)) quota.pairs) few
  pairs-after (command.Assign member parent) none few =
      one-more (length (with_pair (member, parent) quota.pairs)) (length quota.pairs) most_relations
      (pairs-put (member, parent) quota.pairs)
      (assign-free quota subvolumes member parent none)
  pairs-after (command.Remove member parent) none few =
      no-more (length (filter (λ pair. not (same_pair pair (member, parent))) quota.pairs))
      (length quota.pairs) most_relations
      (left-few (λ (pair : ℕ × ℕ). not (same_pair pair (member, parent))) quota.pairs) few
  pairs-after (command.Limit number which max) none few =
      limit-kept number which max quota (λ (q : Quota). length q.pairs ≤ most_relations) few (λ group found. few)
  pairs-after _ none few = few

  -- each group's number may be one
  pub numbers-after : (given : Command) → change_refusal (Some quota) subvolumes given ≡ None
      → All (λ entry. IsTrue (is_group_number entry.0)) quota.groups
      → All (λ entry. IsTrue (is_group_number entry.0)) (group_changed stamp given quota).groups
  numbers-after (command.GroupCreate group) none all =
      all-put (λ (entry : ℕ × Group). IsTrue (is_group_number entry.0)) group (new_group stamp) quota.groups
      (ap (λ (b : Bool). not b || is_subvolume_number (id_of_group group))
      (create-free quota subvolumes group none).0) all
  numbers-after (command.GroupDestroy group) none all =
      All-filter (λ (entry : ℕ × Group). not (entry.0 == group))
      (λ (entry : ℕ × Group). IsTrue (is_group_number entry.0)) quota.groups all
  numbers-after (command.Assign member parent) none all = all
  numbers-after (command.Remove member parent) none all = all
  numbers-after (command.Limit number which max) none all =
      limit-kept number which max quota (λ (q : Quota). All (λ entry. IsTrue (is_group_number entry.0)) q.groups) all
      (λ group found.
      all-put (λ (entry : ℕ × Group). IsTrue (is_group_number entry.0)) number (with_limit which max group) quota.groups
      (all-found (λ (entry : ℕ × Group). IsTrue (is_group_number entry.0)) number group quota.groups all found) all)
  numbers-after _ none all = all

  -- each subvolume still has its group
  pub own-after : (given : Command) → change_refusal (Some quota) subvolumes given ≡ None
      → All (λ sub. IsTrue (has_key sub quota.groups)) subvolumes
      → All (λ sub. IsTrue (has_key sub (group_changed stamp given quota).groups)) subvolumes
  own-after (command.GroupCreate group) none all =
      All-weaker (λ (sub : ℕ). IsTrue (has_key sub quota.groups))
      (λ (sub : ℕ). IsTrue (has_key sub (with_value group (new_group stamp) quota.groups)))
      (λ sub has. key-kept group (new_group stamp) sub quota.groups has) subvolumes all
  own-after (command.GroupDestroy group) none all =
      others subvolumes (destroy-free quota subvolumes group none) all where
        others : (subs : List ℕ) → has_number group subs ≡ false → All (λ sub. IsTrue (has_key sub quota.groups)) subs
            → All (λ sub. IsTrue (has_key sub (without_key group quota.groups))) subs
        others [] absent every = λ k d inside. absurd (omega (arith, inside))
        others (sub ∷ subs) absent every =
            let parts = neither (sub == group) (has_number group subs) absent in
            All-cons (λ (s : ℕ). IsTrue (has_key s (without_key group quota.groups))) sub subs
            (key-left group sub quota.groups parts.0
            (All-head (λ (s : ℕ). IsTrue (has_key s quota.groups)) sub subs every))
            (others subs parts.1 (All-tail (λ (s : ℕ). IsTrue (has_key s quota.groups)) sub subs every))
  own-after (command.Assign member parent) none all = all
  own-after (command.Remove member parent) none all = all
  own-after (command.Limit number which max) none all =
      limit-kept number which max quota (λ (q : Quota). All (λ sub. IsTrue (has_key sub q.groups)) subvolumes) all
      (λ group found.
      All-weaker (λ (sub : ℕ). IsTrue (has_key sub quota.groups))
      (λ (sub : ℕ). IsTrue (has_key sub (with_value number (with_limit which max group) quota.groups)))
      (λ sub has. key-kept number (with_limit which max group) sub quota.groups has) subvolumes all)
  own-after _ none all = all

  -- no stamp is of a later generation
  pub stamps-after : (given : Command) → All (λ entry. entry.1.stamp ≤ stamp) quota.groups
      → All (λ entry. entry.1.stamp ≤ stamp) (group_changed stamp given quota).groups
  stamps-after (command.GroupCreate group) all =
      all-put (λ (entry : ℕ × Group). entry.1.stamp ≤ stamp) group (new_group stamp) quota.groups (itself stamp) all
  stamps-after (command.GroupDestroy group) all =
      All-filter (λ (entry : ℕ × Group). not (entry.0 == group)) (λ (entry : ℕ × Group). entry.1.stamp ≤ stamp)
      quota.groups all
  stamps-after (command.Assign member parent) all = all
  stamps-after (command.Remove member parent) all = all
  stamps-after (command.Limit number which max) all =
      limit-kept number which max quota (λ (q : Quota). All (λ entry. entry.1.stamp ≤ stamp) q.groups) all
      (λ group found.
      all-put (λ (entry : ℕ × Group). entry.1.stamp ≤ stamp) number (with_limit which max group) quota.groups
      (same which group (all-found (λ (entry : ℕ × Group). entry.1.stamp ≤ stamp) number group quota.groups all found))
      all) where
        same : (which : Which) (group : Group) → group.stamp ≤ stamp → (with_limit which max group).stamp ≤ stamp
        same Rfer group early = early
        same Excl group early = early
  stamps-after _ all = all

-- ---- after a snapshot

-- relations leave the groups, and each adds one at the most
assigned-groups : (member : ℕ) (parents : List ℕ) (quota : Quota)
    → (fold (λ made parent. assigned member parent made) quota parents).groups ≡ quota.groups
assigned-groups member [] quota = refl
assigned-groups member (parent ∷ parents) quota = assigned-groups member parents (assigned member parent quota)

assigned-pairs : (member : ℕ) (parents : List ℕ) (quota : Quota)
    → length (fold (λ made parent. assigned member parent made) quota parents).pairs ≤ length quota.pairs
    + length parents
assigned-pairs member [] quota = omega arith
assigned-pairs member (parent ∷ parents) quota =
    let made : Quota = fold (λ made parent. assigned member parent made) (assigned member parent quota) parents in
    let rest : length made.pairs ≤ length (with_pair (member, parent) quota.pairs) + length parents =
    assigned-pairs member parents (assigned member parent quota) in
    let put : length (with_pair (member, parent) quota.pairs) ≤ length quota.pairs + 1 =
    pairs-put (member, parent) quota.pairs in
    sums (length made.pairs) (length (with_pair (member, parent) quota.pairs)) (length parents)
    (length quota.pairs) rest put where
      sums : (a b c d : ℕ) → a ≤ b + c → b ≤ d + 1 → a ≤ d + suc c
      sums a b c d whole part = omega (arith, whole, part)

module _ (stamp source copy : ℕ) (parents : List ℕ) (quota : Quota) where
  -- one group more
  pub inherited-groups : (inherited stamp source copy parents quota).groups ≡ with_value copy
      (limits_of stamp (value_at source quota.groups)) quota.groups
  inherited-groups = assigned-groups copy parents
      (with_group copy (limits_of stamp (value_at source quota.groups)) quota)

  -- and no more relations than the list names
  pub inherited-pairs : length (inherited stamp source copy parents quota).pairs ≤ length quota.pairs + length parents
  inherited-pairs = assigned-pairs copy parents (with_group copy (limits_of stamp (value_at source quota.groups)) quota)
