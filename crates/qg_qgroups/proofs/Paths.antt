-- What lies above a subvolume's group, as what a reservation into the subvolume counts in.
use Rattle.std.proofs.Common.{◌≡◌, ℕ, ◌+◌, ◌*◌, ◌<◌, ◌≤◌, ◌^◌, Bool, true, false, List, [], ◌∷◌, arith, Option, Some}
use Rattle.std.proofs.Common.{refl, sym, ap, ◌∙◌, inl, inr, unwrap_or, get_or, length, take, ◌++◌}
use Rattle.std.specs.Prelude.{◌&&◌, if◌then◌else◌}
use Rattle.std.specs.List.{All, filter, sum_by}
use Rattle.std.specs.List.Sorted.{IsStrictlyIncreasing, IsStrictlySortedBy}
use Rattle.std.specs.Option.{option_map}
use Rattle.std.specs.Ordering.{nat_cmp}
use Rattle.std.proofs.lemmas.Bool.{cases_Bool, cond-false, cond-true}
use Rattle.std.proofs.lemmas.List.{map_more}
use Rattle.std.proofs.lemmas.Map.Keys.{IsStrictlyIncreasing-from_sorted}
use Rattle.std.proofs.lemmas.List.Elements.{All-filter, All-head, All-tail}
use Rattle.std.proofs.lemmas.List.Sums.{sum_by-cons}
use Rattle.qg_num.specs.declared.counters.Counters.{Counters}
use Rattle.qg_image.specs.Table.{keys_of, value_at}
use Rattle.qg_image.specs.declared.quota.Group.{Group}
use Rattle.qg_image.specs.declared.quota.Quota.{Quota}
use Rattle.qg_image.specs.State.{Accepted}
use Rattle.qg_image.specs.Limits.{bytes_reserved, over}
use Rattle.qg_image.specs.Members.{Hierarchy, hierarchy_of, is_below, is_member}
use Rattle.qg_qgroups.specs.Groups.{IsSound, groups_above, has_number, is_kept}
use Rattle.qg_qgroups.proofs.HierarchyChanges.{above_are, above_ascends, member_is_below}
use Rattle.qg_qgroups.proofs.Chains.{below_last}
use Rattle.qg_qgroups.proofs.Order.{has_filter}
use Rattle.qg_qgroups.proofs.Related.{level_less}
use Rattle.qg_qgroups.proofs.OverLimit.{named_once, over_of_quota}
use Rattle.qg_qgroups.specs.declared.limits.Maxima.{Maxima}
use Rattle.qg_qgroups.specs.Agreement.{IsLimitedAs, counted_groups}
use Rattle.qg_qgroups.specs.Limit.{SameHeld, first_over_of, held_of, maxima_of, times_named}
use Rattle.qg_qgroups.proofs.Tables.{each-found}
use Rattle.qg_qgroups.specs.Judging.{counted_path, counters_at}
use Rattle.qg_qgroups.proofs.GroupLimits.{limits-found}
use Rattle.qg_qgroups.specs.declared.state.QuotaState.{QuotaState}
use Rattle.qg_qgroups.specs.Tracked.{limits_in, path_of, HasGroup, HoldsAll, HoldsAtMost, IsTracked}

-- nothing is reserved by no commands
pub reserved-none : (hierarchy : Hierarchy) (group : ℕ) → bytes_reserved hierarchy [] group ≡ 0
unfolding bytes_reserved
reserved-none hierarchy group = refl

-- one command more reserves for those groups that its subvolume is a member of
pub reserved-more : (hierarchy : Hierarchy) (given : Accepted) (pending : List Accepted) (group : ℕ)
    → bytes_reserved hierarchy (given ∷ pending) group
    ≡ (if is_member hierarchy group given.sub then given.amount else 0) + bytes_reserved hierarchy pending group
unfolding bytes_reserved
reserved-more hierarchy given pending group = elim (cases_Bool (is_member hierarchy group given.sub)) [
  | inl member ↦
      ap (λ (list : List Accepted). sum_by (λ a. a.amount) list) (cond-true _ _ _ member)
      ∙ sum_by-cons (λ (a : Accepted). a.amount) given (filter (λ a. is_member hierarchy group a.sub) pending)
      ∙ ap (λ (n : ℕ). n + sum_by (λ a. a.amount) (filter (λ a. is_member hierarchy group a.sub) pending))
      (sym (cond-true _ _ _ member))
  | inr other ↦
      ap (λ (list : List Accepted). sum_by (λ a. a.amount) list) (cond-false _ _ _ other)
      ∙ omega (arith, cond-false (is_member hierarchy group given.sub) given.amount 0 other)
]

-- a group that a subvolume's group is below is there
pub below-kept : (hierarchy : Hierarchy) (sub group : ℕ) → IsSound hierarchy → is_kept hierarchy sub ≡ true
    → is_below hierarchy.pairs sub group ≡ true
    → is_kept hierarchy group ≡ true
below-kept hierarchy sub group sound kept below =
    elim (below_last hierarchy.pairs (λ a b has. level_less a b (sound.rising a b has)) sub group below) [
      | inl same ↦ ap (λ (n : ℕ). is_kept hierarchy n) (sym same) ∙ kept
      | inr last ↦ sound.parents last.0 group last.2
    ]

-- a group is on the path of a subvolume exactly if the subvolume is a member
pub on-path : (quota : Quota) (sub group : ℕ) → IsSound (hierarchy_of quota) → HasGroup quota sub
    → has_number group (path_of quota sub) ≡ is_member (hierarchy_of quota) group sub
unfolding groups_above
on-path quota sub group sound has =
    has_filter (λ (n : ℕ). is_below quota.pairs sub n) group (keys_of quota.groups)
    ∙ known (is_below quota.pairs sub group) (is_kept (hierarchy_of quota) group)
    (below-kept (hierarchy_of quota) sub group sound has.there)
    ∙ sym (member_is_below (hierarchy_of quota) group sub has.there has.level) where
      known : (a b : Bool) → (a ≡ true → b ≡ true) → a && b ≡ a
      known true b if_so = if_so refl
      known false b if_so = refl

-- what is then held is what is then reserved
pub held-more : (quota : Quota) (given : Accepted) (pending : List Accepted) (path : List ℕ) (n group old new : ℕ)
    → IsSound (hierarchy_of quota) → HasGroup quota given.sub
    → IsStrictlySortedBy nat_cmp path → path ≡ path_of quota given.sub → given.amount ≡ n
    → old ≡ bytes_reserved (hierarchy_of quota) pending group
    → new ≡ old + n * times_named path group → new ≡ bytes_reserved (hierarchy_of quota) (given ∷ pending) group
held-more quota given pending path n group old new sound has ascend is amount was now =
    let times : times_named path group ≡ (if has_number group path then 1 else 0) = named_once path group ascend in
    let on : has_number group path ≡ is_member (hierarchy_of quota) group given.sub =
    ap (λ (p : List ℕ). has_number group p) is ∙ on-path quota given.sub group sound has in
    let more = reserved-more (hierarchy_of quota) given pending group in
    let scaled : n * times_named path group
    ≡ (if is_member (hierarchy_of quota) group given.sub then given.amount else 0) =
    ap (λ (t : ℕ). n * t) (times ∙ ap (λ (b : Bool). if b then 1 else 0) on)
    ∙ product (is_member (hierarchy_of quota) group given.sub) in
    omega (arith, more, scaled, was, now) where
      product : (b : Bool) → n * (if b then 1 else 0) ≡ (if b then given.amount else 0)
      product true = omega (arith, amount)
      product false = omega arith

-- no more than once for each group
pub times-few : (path : List ℕ) (group : ℕ) → IsStrictlySortedBy nat_cmp path → times_named path group ≤ 1
times-few path group ascend = few (has_number group path) (named_once path group ascend) where
  few : (b : Bool) → times_named path group ≡ (if b then 1 else 0) → times_named path group ≤ 1
  few true is = omega (arith, is)
  few false is = omega (arith, is)

-- ---- stored counters

counters_own : (groups front : List (ℕ × Group)) → All (λ entry. value_at entry.0 groups ≡ Some entry.1) front
    → counted_path groups (keys_of front) ≡ counted_groups front
counters_own groups [] all = refl
counters_own groups (e ∷ front) all =
    ap (λ (o : Option Group). (e.0, counters_or o) ∷ counted_path groups (keys_of front))
    (All-head (λ (entry : ℕ × Group). value_at entry.0 groups ≡ Some entry.1) e front all)
    ∙ ap (λ (rest : List (ℕ × Counters)). (e.0, e.1.counters) ∷ rest)
    (counters_own groups front
    (All-tail (λ (entry : ℕ × Group). value_at entry.0 groups ≡ Some entry.1) e front all)) where
      counters_or : Option Group → Counters
      counters_or o = unwrap_or (option_map (λ (g : Group). g.counters) o) (record { rfer = 0; excl = 0 })

-- the counters of the groups on a subvolume's path are those of the groups that it is a member of
pub path-counted : (quota : Quota) (sub : ℕ) → IsSound (hierarchy_of quota) → HasGroup quota sub
    → counted_path quota.groups (path_of quota sub) ≡ counted_groups
    (filter (λ entry. is_member (hierarchy_of quota) entry.0 sub) quota.groups)
path-counted quota sub sound has =
    ap (λ (path : List ℕ). counted_path quota.groups path) (sym (above_are quota sub has.there has.level))
    ∙ counters_own quota.groups (filter (λ entry. is_member (hierarchy_of quota) entry.0 sub) quota.groups)
    (All-filter (λ (entry : ℕ × Group). is_member (hierarchy_of quota) entry.0 sub)
    (λ (entry : ℕ × Group). value_at entry.0 quota.groups ≡ Some entry.1) quota.groups
    (each-found quota.groups sound.groups))

-- one group more of a path with its counters
pub counted-next : (groups : List (ℕ × Group)) (path : List ℕ) (i one : ℕ) → i < length path → one ≡ get_or path i one
    → counted_path groups (take i path) ++ (one, counters_at groups one) ∷ [] ≡ counted_path groups (take (i + 1) path)
counted-next groups path i one inside is =
    ap (λ (g : ℕ). counted_path groups (take i path) ++ (g, counters_at groups g) ∷ []) is
    ∙ sym (map_more (λ (g : ℕ). (g, counters_at groups g)) path i one inside)

-- ---- held bytes

-- no more than so many bytes more are held for a group
pub held-room : (path : List ℕ) (n group held : ℕ) → IsStrictlySortedBy nat_cmp path
    → held + n * times_named path group ≤ held + n
held-room path n group held ascend = room (has_number group path) (named_once path group ascend) where
  room : (b : Bool) → times_named path group ≡ (if b then 1 else 0) → held + n * times_named path group ≤ held + n
  room true is = let scaled : n * times_named path group ≡ n * 1 = ap (λ (t : ℕ). n * t) is in omega (arith, scaled)
  room false is = let scaled : n * times_named path group ≡ n * 0 = ap (λ (t : ℕ). n * t) is in omega (arith, scaled)

-- ---- the group over its limit

-- each group is limited as is told of it
limited-all : (state : QuotaState) (pending : List Accepted) → IsTracked state → HoldsAll state pending
    → All (IsLimitedAs state.limits (bytes_reserved (hierarchy_of state.quota) pending)) state.quota.groups
limited-all state pending tracked holds = λ k d inside.
    let e : ℕ × Group = get_or state.quota.groups k d in
    let both : maxima_of state.limits e.0 ≡ limits_in e.1 =
    tracked.limits e.0 ∙ limits-found state.quota.groups e.0 e.1
    (each-found state.quota.groups tracked.sound.groups k d inside) in
    record {
      rfer = ap (λ (m : Maxima). m.rfer) both;
      excl = ap (λ (m : Maxima). m.excl) both;
      held = holds e.0;
    }

-- what is found over its limit on the path is what the machine finds
pub judged-by : (state : QuotaState) (pending : List Accepted) (sub n : ℕ) (path : List ℕ)
    (counted : List (ℕ × Counters)) → IsTracked state → HasGroup state.quota sub
    → HoldsAll state pending → counted ≡ counted_path state.quota.groups path → path ≡ path_of state.quota sub
    → first_over_of state.limits counted n ≡ over state.quota pending sub n
judged-by state pending sub n path counted tracked has holds told is =
    ap (λ (cs : List (ℕ × Counters)). first_over_of state.limits cs n)
    (told ∙ ap (λ (p : List ℕ). counted_path state.quota.groups p) is ∙ path-counted state.quota sub tracked.sound has)
    ∙ over_of_quota state.limits state.quota pending sub n (limited-all state pending tracked holds)

-- ---- for the callers

-- the groups of a path ascend
pub path-ascends : (state : QuotaState) (sub : ℕ) → IsTracked state
    → IsStrictlySortedBy nat_cmp (path_of state.quota sub)
path-ascends state sub tracked = above_ascends (hierarchy_of state.quota) sub tracked.sound

-- where nothing was held, nothing is held after a change of groups
pub holds-none : (old new : QuotaState) → HoldsAll old [] → SameHeld old.limits new.limits → HoldsAll new []
holds-none old new holds same group =
    same group ∙ holds group ∙ reserved-none (hierarchy_of old.quota) group
    ∙ sym (reserved-none (hierarchy_of new.quota) group)

-- the numbers of groups increase
pub groups-increase : (state : QuotaState) → IsTracked state → IsStrictlyIncreasing (keys_of state.quota.groups)
groups-increase state tracked = IsStrictlyIncreasing-from_sorted (keys_of state.quota.groups) tracked.sound.groups

-- a reservation has room where all that may be held has
pub room-held : (state : QuotaState) (path : List ℕ) (bound n : ℕ) → HoldsAtMost bound state → bound + n < 2 ^ 64
    → All (λ group. held_of state.limits group + n < 2 ^ 64) path
room-held state path bound n most fits = λ k d inside. omega (arith, fits, most (get_or path k d))
