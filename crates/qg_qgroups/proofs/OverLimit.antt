-- The group over its limit, by a machine's quota.
use Rattle.std.specs.Ordering.{nat_cmp}
use Rattle.std.specs.List.Sorted.{IsStrictlySortedBy}
use Rattle.std.specs.declared.cmp.Ordering.TheVariants.{Less}
use Rattle.std.proofs.lemmas.Bool.{cases_Bool, cond-false, cond-true}
use Rattle.std.proofs.lemmas.Bool.Decides.{nat_tests}
use Rattle.std.proofs.lemmas.List.Sums.{sum_by-cons}
use Rattle.std.proofs.lemmas.Map.Keys.{sorted_head, sorted_tail}
use Rattle.qg_image.specs.State.{Accepted}
use Rattle.qg_image.specs.Members.{hierarchy_of, is_member}
use Rattle.qg_image.specs.declared.quota.Quota.{Quota}
use Rattle.std.proofs.Common.{◌≡◌, ℕ, List, [], ◌∷◌, Option, map, refl, ap, ◌∙◌, ◌<◌, ◌≤◌, Bool, false, sym, arith, inl}
use Rattle.std.proofs.Common.{inr}
use Rattle.std.specs.Prelude.{slice_get, if◌then◌else◌, ◌==◌, ◌||◌}
use Rattle.std.specs.List.{All, AllByRecursion, cons_option, filter, filter_map, list_any}
use Rattle.std.specs.Option.{option_map}
use Rattle.std.proofs.lemmas.List.Elements.{All-filter, All-head, All-tail}
use Rattle.qg_num.specs.declared.counters.Which.{Which}
use Rattle.qg_image.specs.declared.quota.Group.{Group}
use Rattle.qg_image.specs.Limits.{bytes_reserved, first_over, limit_passed, over}
use Rattle.qg_qgroups.specs.Agreement.{IsLimitedAs, counted_groups}
use Rattle.qg_qgroups.proofs.HeldBytes.{one}
use Rattle.qg_qgroups.specs.Limit.{Limited, first_over_of, held_of, limited_group, times_named}

passed_is : (limited : Limited) (reserved : ℕ → ℕ) (n : ℕ) (entry : ℕ × Group) → IsLimitedAs limited reserved entry
    → limit_passed (held_of limited entry.0) n (limited_group limited (entry.0, entry.1.counters)).1 ≡ limit_passed
    (reserved entry.0) n entry.1
passed_is limited reserved n entry is =
    ap (λ (m : ℕ). limit_passed m n (limited_group limited (entry.0, entry.1.counters)).1) is.held
    ∙ ap (λ (o : Option ℕ). limit_passed (reserved entry.0) n (record {
      counters = entry.1.counters;
      max_rfer = o;
      max_excl = (limited_group limited (entry.0, entry.1.counters)).1.max_excl;
      stamp = 0;
    })) is.rfer
    ∙ ap (λ (o : Option ℕ). limit_passed (reserved entry.0) n
    (record { counters = entry.1.counters; max_rfer = entry.1.max_rfer; max_excl = o; stamp = 0 })) is.excl

-- what a group is over, with its number
abbrev told : (ℕ → ℕ) → ℕ → ℕ × Group → Option (ℕ × Which)
told reserved n e = option_map (λ (w : Which). (e.0, w)) (limit_passed (reserved e.0) n e.1)

over_each : (limited : Limited) (reserved : ℕ → ℕ) (n : ℕ) (entries : List (ℕ × Group))
    → All (IsLimitedAs limited reserved) entries
    → filter_map (told (held_of limited) n) (map (limited_group limited) (counted_groups entries))
    ≡ filter_map (told reserved n) entries
over_each limited reserved n [] all = refl
over_each limited reserved n (e ∷ entries) all =
    ap (λ (o : Option Which). cons_option (named e.0 o)
    (filter_map (told (held_of limited) n) (map (limited_group limited) (counted_groups entries))))
    (passed_is limited reserved n e (All-head (IsLimitedAs limited reserved) e entries all))
    ∙ ap (λ (rest : List (ℕ × Which)). cons_option (told reserved n e) rest)
    (over_each limited reserved n entries (All-tail (IsLimitedAs limited reserved) e entries all)) where
      named : ℕ → Option Which → Option (ℕ × Which)
      named group o = option_map (λ (w : Which). (group, w)) o

-- it is the first of a quota's groups over its limit, by what is reserved
pub over_is : (limited : Limited) (reserved : ℕ → ℕ) (n : ℕ) (entries : List (ℕ × Group))
    → All (IsLimitedAs limited reserved) entries
    → first_over_of limited (counted_groups entries) n ≡ first_over reserved n entries
unfolding first_over
over_is limited reserved n entries all =
    ap (λ (found : List (ℕ × Which)). slice_get found 0) (over_each limited reserved n entries all)

-- it is that of the definition over a machine's quota, where each group is limited so
pub over_of_quota : (limited : Limited) (quota : Quota) (pending : List Accepted) (sub n : ℕ)
    → All (IsLimitedAs limited (bytes_reserved (hierarchy_of quota) pending)) quota.groups
    → first_over_of limited (counted_groups (filter (λ entry. is_member (hierarchy_of quota) entry.0 sub) quota.groups))
    n ≡ over quota pending sub n
unfolding over
over_of_quota limited quota pending sub n all =
    over_is limited (bytes_reserved (hierarchy_of quota) pending) n
    (filter (λ entry. is_member (hierarchy_of quota) entry.0 sub) quota.groups)
    (All-filter (λ (entry : ℕ × Group). is_member (hierarchy_of quota) entry.0 sub)
    (IsLimitedAs limited (bytes_reserved (hierarchy_of quota) pending)) quota.groups all)

-- ---- a path that ascends

-- a group isn't named by numbers that are all greater
none_named : (group n : ℕ) (path : List ℕ) → group ≤ n → AllByRecursion (λ m. nat_cmp n m ≡ Less) path
    → times_named path group ≡ 0
none_named group n [] le all = refl
none_named group n (m ∷ path) le all =
    let less : n < m = less_is n m all.0 in
    let apart : (m == group) ≡ false = grind (arith, nat_tests) in
    let none : one m group ≡ 0 = cond-false _ _ _ apart in
    omega (arith, sum_by-cons (λ k. one k group) m path, none, none_named group n path le all.1) where
      less_is : (a b : ℕ) → nat_cmp a b ≡ Less → a < b
      less_is a b less = grind (arith, nat_tests)

-- it names each group once
pub named_once : (path : List ℕ) (group : ℕ) → IsStrictlySortedBy nat_cmp path
    → times_named path group ≡ (if list_any (λ n. n == group) path then 1 else 0)
named_once [] group ascend = refl
named_once (n ∷ path) group ascend = elim (cases_Bool (n == group)) [
  | inl here ↦
      let le : group ≤ n = grind (arith, nat_tests) in
      let single : one n group ≡ 1 = cond-true _ _ _ here in
      let rest : times_named path group ≡ 0 = none_named group n path le (sorted_head nat_cmp n path ascend) in
      let all : times_named (n ∷ path) group ≡ 1 = omega (arith, sum_by-cons (λ k. one k group) n path, single, rest) in
      all ∙ sym (ap (λ (b : Bool). if b || list_any (λ n. n == group) path then 1 else 0) here)
  | inr apart ↦
      let none : one n group ≡ 0 = cond-false _ _ _ apart in
      let all : times_named (n ∷ path) group ≡ times_named path group =
      omega (arith, sum_by-cons (λ k. one k group) n path, none) in
      all ∙ named_once path group (sorted_tail nat_cmp n path ascend)
      ∙ sym (ap (λ (b : Bool). if b || list_any (λ n. n == group) path then 1 else 0) apart)
]
