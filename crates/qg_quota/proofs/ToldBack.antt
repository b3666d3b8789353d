-- What quota items tell, each kind by itself, against the rules on all of them.
use Rattle.std.proofs.Common.{◌≡◌, ℕ, ◌+◌, ◌*◌, Bool, true, false, cond, List, [], ◌∷◌, map, length, refl, ap, sym}
use Rattle.std.proofs.Common.{subst, ◌∙◌, inl, inr, arith}
use Rattle.std.specs.Prelude.{◌/◌, ◌%◌, ◌&&◌, ◌||◌, not, is_some, ◌==◌, nat_le}
use Rattle.std.specs.Bool.{then_some}
use Rattle.std.specs.List.{AllByRecursion, cons_option, count_by, filter, filter_map, list_all, list_any}
use Rattle.std.specs.List.Sorted.{IsStrictlySortedBy}
use Rattle.std.specs.Ordering.{is_lt, nat_cmp}
use Rattle.std.specs.declared.cmp.Ordering.{Ordering}
use Rattle.std.specs.declared.cmp.Ordering.TheVariants.{Less, Equal, Greater}
use Rattle.std.proofs.lemmas.Bool.{and_parts, ltb-true, or_cases, true≢false}
use Rattle.std.proofs.lemmas.List.Kept.{IsStrictlySortedBy-filter}
use Rattle.std.proofs.lemmas.List.Recursion.{is_count_by}
use Rattle.std.proofs.lemmas.Map.Keys.{sorted_head, sorted_tail}
use Rattle.std.proofs.lemmas.Map.Views.{any-filter_same}
use Rattle.qg_num.specs.declared.key.Key.{Key}
use Rattle.qg_num.specs.Key.{key_cmp}
use Rattle.qg_num.proofs.KeyOrder.{key_cmp_total}
use Rattle.qg_node.specs.Nodes.{ascends_from, is_ascending}
use Rattle.qg_items.specs.declared.quota.QgroupInfo.{QgroupInfo}
use Rattle.qg_items.specs.declared.quota.QgroupLimit.{QgroupLimit}
use Rattle.qg_image.specs.Table.{has_key, keys_of, value_at}
use Rattle.qg_image.specs.declared.part.QuotaPart.{QuotaPart}
use Rattle.qg_image.specs.declared.part.QuotaPart.TheVariants.{Status, Info, Limits, Relation}
use Rattle.qg_tree_items.specs.Keys.{key_with, quota_key}
use Rattle.qg_image.specs.Members.{hierarchy_of, level_of_group}
use Rattle.qg_image.specs.declared.quota.Group.{Group}
use Rattle.qg_image.specs.declared.quota.Quota.{Quota}
use Rattle.qg_machine.specs.GroupChange.{has_pair, same_pair}
use Rattle.qg_qgroups.specs.Groups.{IsSound, has_number, is_kept, pair_cmp}
use Rattle.qg_qgroups.proofs.Sets.{pair_flipped, pair_is}
use Rattle.qg_qgroups.proofs.Tables.{key-found}
use Rattle.qg_image.specs.ImageState.{group_told, info_told, limit_told, pair_told, quota_told}
use Rattle.qg_image.specs.Verdict.{are_few, fits_quota, has_twin, is_group_number, is_limit, is_plain, is_quota}
use Rattle.qg_image.specs.Verdict.{is_relation_part, is_status_part, most_groups, most_relations}
use Rattle.qg_quota.specs.declared.told.QuotaItems.{QuotaItems}
use Rattle.qg_quota.specs.QuotaKinds.{are_told, fits_told, group_by, relation_told, rises, Ascends, AreTold}

-- ---- one item

some_then : {A : Type 0} (b : Bool) (x : A) → is_some (then_some b x) ≡ b
some_then true x = refl
some_then false x = refl

-- a limit that is not set is 0, by its flags
pub limit-is : (limit : QgroupLimit)
    → is_limit limit
    ≡ (((limit.flags % 2 == 1) || (limit.max_rfer == 0)) && ((limit.flags / 2 % 2 == 1) || (limit.max_excl == 0)))
limit-is limit =
    λ k. (some_then (limit.flags % 2 == 1) limit.max_rfer k || (limit.max_rfer == 0))
    && (some_then (limit.flags / 2 % 2 == 1) limit.max_excl k || (limit.max_excl == 0))

-- an item is the twin of a relation's
abbrev pub is_twin : ℕ → ℕ → QuotaPart → Bool
is_twin group other (Status status) = false
is_twin group other (Info group' info) = false
is_twin group other (Limits group' limit) = false
is_twin group other (Relation group' other') = (group' == other) && (other' == group)

pub twins : (group other : ℕ) (parts : List QuotaPart)
    → list_any (is_twin group other) parts ≡ has_pair other group (filter_map relation_told parts)
twins group other [] = refl
twins group other (Status status ∷ parts) = twins group other parts
twins group other (Info group' info ∷ parts) = twins group other parts
twins group other (Limits group' limit ∷ parts) = twins group other parts
twins group other (Relation group' other' ∷ parts) =
    ap (λ (here : Bool). here || list_any (is_twin group other) parts) (pair_flipped (group', other') (other, group))
    ∙ ap (λ (later : Bool). same_pair (other, group) (group', other') || later) (twins group other parts)

pub twin_is : (group other : ℕ) (parts : List QuotaPart)
    → has_twin parts group other ≡ list_any (is_twin group other) parts
twin_is group other parts = refl

one_relation : (part : QuotaPart) (those : List QuotaPart)
    → length (filter_map relation_told (part ∷ those))
    ≡ cond (is_relation_part part) (1 + length (filter_map relation_told those))
    (length (filter_map relation_told those))
one_relation (Status status) those = refl
one_relation (Info group info) those = refl
one_relation (Limits group limit) those = refl
one_relation (Relation group other) those = omega arith

pub relations-counted : (parts : List QuotaPart)
    → count_by is_relation_part parts ≡ length (filter_map relation_told parts)
relations-counted parts =
    sym (is_count_by (λ list. length (filter_map relation_told list)) is_relation_part refl one_relation parts)

module _ (parts : List QuotaPart) (told : QuotaItems) (are : AreTold parts told) where
  pub fits-one : (part : QuotaPart) → fits_quota parts part ≡ fits_told told part
  fits-one (Status status) = refl
  fits-one (Info group info) = ap (λ (limits : List (ℕ × QgroupLimit)). has_key group limits && is_group_number group
      && is_plain info) (sym are.limits)
  fits-one (Limits group limit) = ap (λ (infos : List (ℕ × QgroupInfo)). has_key group infos && is_limit limit)
      (sym are.infos)
  fits-one (Relation group other) =
      ap (λ (twin : Bool). twin && has_key group (filter_map info_told parts)
      && not (level_of_group group == level_of_group other))
      (twin_is group other parts ∙ twins group other parts ∙ ap (λ (pairs : List (ℕ × ℕ)). has_pair other group pairs)
      (sym are.relations))
      ∙ ap (λ (infos : List (ℕ × QgroupInfo)). has_pair other group told.relations.items && has_key group infos
      && not (level_of_group group == level_of_group other))
      (sym are.infos)

  fits_all : (those : List QuotaPart) → list_all (fits_quota parts) those ≡ list_all (fits_told told) those
  fits_all [] = refl
  fits_all (part ∷ those) =
      ap (λ (here : Bool). here && list_all (fits_quota parts) those) (fits-one part)
      ∙ ap (λ (later : Bool). fits_told told part && later) (fits_all those)

  -- the rule, by what each kind tells
  pub quota-judged : (live : List ℕ) → is_quota live parts ≡ are_told told live parts
  unfolding is_quota
  quota-judged live =
      ap (λ (fits : Bool). (list_any is_status_part parts && fits)
      && list_all (λ sub. has_key sub (filter_map info_told parts)) live) (fits_all parts)
      ∙ ap (λ (infos : List (ℕ × QgroupInfo)). (list_any is_status_part parts && list_all (fits_told told) parts)
      && list_all (λ sub. has_key sub infos) live)
      (sym are.infos)

  -- how many there are
  pub few-judged : are_few parts
      ≡ (nat_le (length told.infos) most_groups && nat_le (length told.relations.items) (2 * most_relations))
  unfolding are_few
  few-judged =
      ap (λ (infos : List (ℕ × QgroupInfo)). nat_le (length infos) most_groups
      && nat_le (count_by is_relation_part parts) (2 * most_relations)) (sym are.infos)
      ∙ ap (λ (n : ℕ). nat_le (length told.infos) most_groups && nat_le n (2 * most_relations))
      (relations-counted parts ∙ ap (λ (pairs : List (ℕ × ℕ)). length pairs) (sym are.relations))

-- ---- the order

pub is_less : (o : Ordering) → is_lt o ≡ true → o ≡ Less
is_less Less h = refl
is_less Equal h = absurd (true≢false (sym h))
is_less Greater h = absurd (true≢false (sym h))

all_behind : (first second : Key) (keys : List Key) → key_cmp first second ≡ Less
    → AllByRecursion (λ key. key_cmp second key ≡ Less) keys
    → AllByRecursion (λ key. key_cmp first key ≡ Less) keys
all_behind first second [] less all = tt
all_behind first second (key ∷ keys) less all =
    (key_cmp_total.trans first second key less all.0, all_behind first second keys less all.1)

keys_sorted_from : (before : Key) (keys : List Key) → ascends_from before keys ≡ true
    → AllByRecursion (λ key. key_cmp before key ≡ Less) keys × IsStrictlySortedBy key_cmp keys
unfolding ascends_from IsStrictlySortedBy
keys_sorted_from before [] up = (tt, tt)
keys_sorted_from before (key ∷ keys) up =
    let parts = and_parts (is_lt (key_cmp before key)) (ascends_from key keys) up in
    let less : key_cmp before key ≡ Less = is_less (key_cmp before key) parts.0 in
    let rest = keys_sorted_from key keys parts.1 in
    ((less, all_behind before key keys less rest.0), (rest.0, rest.1))

pub keys-sorted : (keys : List Key) → is_ascending keys ≡ true → IsStrictlySortedBy key_cmp keys
unfolding is_ascending IsStrictlySortedBy
keys-sorted [] up = tt
keys-sorted (key ∷ keys) up = keys_sorted_from key keys up

-- the keys of the items of some parts are all behind one
abbrev pub AllBehind : Key → List QuotaPart → Type 0
AllBehind key parts = AllByRecursion (λ other. key_cmp key other ≡ Less) (map quota_key parts)

infos_behind : (group : ℕ) (parts : List QuotaPart) → AllBehind (key_with 0 242 group) parts
    → AllByRecursion (λ n. nat_cmp group n ≡ Less) (keys_of (filter_map info_told parts))
infos_behind group [] all = tt
infos_behind group (Status status ∷ parts) all = infos_behind group parts all.1
infos_behind group (Info other info ∷ parts) all = (all.0, infos_behind group parts all.1)
infos_behind group (Limits other limit ∷ parts) all = infos_behind group parts all.1
infos_behind group (Relation first second ∷ parts) all = infos_behind group parts all.1

limits_behind : (group : ℕ) (parts : List QuotaPart) → AllBehind (key_with 0 244 group) parts
    → AllByRecursion (λ n. nat_cmp group n ≡ Less) (keys_of (filter_map limit_told parts))
limits_behind group [] all = tt
limits_behind group (Status status ∷ parts) all = limits_behind group parts all.1
limits_behind group (Info other info ∷ parts) all = limits_behind group parts all.1
limits_behind group (Limits other limit ∷ parts) all = (all.0, limits_behind group parts all.1)
limits_behind group (Relation first second ∷ parts) all = limits_behind group parts all.1

relations_behind : (pair : ℕ × ℕ) (parts : List QuotaPart) → AllBehind (key_with pair.0 246 pair.1) parts
    → AllByRecursion (λ other. pair_cmp pair other ≡ Less) (filter_map relation_told parts)
relations_behind pair [] all = tt
relations_behind pair (Status status ∷ parts) all = relations_behind pair parts all.1
relations_behind pair (Info other info ∷ parts) all = relations_behind pair parts all.1
relations_behind pair (Limits other limit ∷ parts) all = relations_behind pair parts all.1
relations_behind pair (Relation first second ∷ parts) all = (all.0, relations_behind pair parts all.1)

-- the keys of the items of some parts ascend
abbrev pub IsSorted : List QuotaPart → Type 0
IsSorted parts = IsStrictlySortedBy key_cmp (map quota_key parts)

pub sorted_later : (part : QuotaPart) (parts : List QuotaPart) → IsSorted (part ∷ parts) → IsSorted parts
sorted_later part parts up = sorted_tail key_cmp (quota_key part) (map quota_key parts) up

pub sorted_first : (part : QuotaPart) (parts : List QuotaPart) → IsSorted (part ∷ parts)
    → AllBehind (quota_key part) parts
sorted_first part parts up = sorted_head key_cmp (quota_key part) (map quota_key parts) up

pub infos-ascend : (parts : List QuotaPart) → IsSorted parts
    → IsStrictlySortedBy nat_cmp (keys_of (filter_map info_told parts))
unfolding IsStrictlySortedBy
infos-ascend [] up = tt
infos-ascend (Status status ∷ parts) up = infos-ascend parts (sorted_later (Status status) parts up)
infos-ascend (Info group info ∷ parts) up = (
  infos_behind group parts (sorted_first (Info group info) parts up),
  infos-ascend parts
      (sorted_later (Info group info) parts up),
)
infos-ascend (Limits group limit ∷ parts) up = infos-ascend parts (sorted_later (Limits group limit) parts up)
infos-ascend (Relation group other ∷ parts) up = infos-ascend parts (sorted_later (Relation group other) parts up)

pub limits-ascend : (parts : List QuotaPart) → IsSorted parts
    → IsStrictlySortedBy nat_cmp (keys_of (filter_map limit_told parts))
unfolding IsStrictlySortedBy
limits-ascend [] up = tt
limits-ascend (Status status ∷ parts) up = limits-ascend parts (sorted_later (Status status) parts up)
limits-ascend (Info group info ∷ parts) up = limits-ascend parts (sorted_later (Info group info) parts up)
limits-ascend (Limits group limit ∷ parts) up = (
  limits_behind group parts (sorted_first (Limits group limit) parts up),
  limits-ascend parts
      (sorted_later (Limits group limit) parts up),
)
limits-ascend (Relation group other ∷ parts) up = limits-ascend parts (sorted_later (Relation group other) parts up)

pub relations-ascend : (parts : List QuotaPart) → IsSorted parts
    → IsStrictlySortedBy pair_cmp (filter_map relation_told parts)
unfolding IsStrictlySortedBy
relations-ascend [] up = tt
relations-ascend (Status status ∷ parts) up = relations-ascend parts (sorted_later (Status status) parts up)
relations-ascend (Info group info ∷ parts) up = relations-ascend parts (sorted_later (Info group info) parts up)
relations-ascend (Limits group limit ∷ parts) up = relations-ascend parts (sorted_later (Limits group limit) parts up)
relations-ascend (Relation group other ∷ parts) up = (
  relations_behind (group, other) parts (sorted_first (Relation group other) parts up),
  relations-ascend parts
      (sorted_later (Relation group other) parts up),
)

-- each kind ascends where the items' keys do
pub told-ascends : (parts : List QuotaPart) (told : QuotaItems) → AreTold parts told
    → is_ascending (map quota_key parts) ≡ true → Ascends told
told-ascends parts told are up =
    let keys = keys-sorted (map quota_key parts) up in
    record {
      infos = subst (λ (infos : List (ℕ × QgroupInfo)). IsStrictlySortedBy nat_cmp (keys_of infos)) (sym are.infos)
          (infos-ascend parts keys);
      limits = subst (λ (limits : List (ℕ × QgroupLimit)). IsStrictlySortedBy nat_cmp (keys_of limits)) (sym are.limits)
          (limits-ascend parts keys);
      relations = subst (λ (pairs : List (ℕ × ℕ)). IsStrictlySortedBy pair_cmp pairs) (sym are.relations)
          (relations-ascend parts keys);
    }

-- ---- what all tell

-- the relations whose member comes first
pub pairs-told : (parts : List QuotaPart) → filter rises (filter_map relation_told parts) ≡ filter_map pair_told parts
pairs-told [] = refl
pairs-told (Status status ∷ parts) = pairs-told parts
pairs-told (Info group info ∷ parts) = pairs-told parts
pairs-told (Limits group limit ∷ parts) = pairs-told parts
pairs-told (Relation group other ∷ parts) = choice (rises (group, other)) (pairs-told parts) where
  choice : (b : Bool) → filter rises (filter_map relation_told parts) ≡ filter_map pair_told parts
      → cond b ((group, other) ∷ filter rises (filter_map relation_told parts))
      (filter rises (filter_map relation_told parts))
      ≡ cons_option (then_some b (group, other)) (filter_map pair_told parts)
  choice true rest = ap (λ (pairs : List (ℕ × ℕ)). (group, other) ∷ pairs) rest
  choice false rest = rest

-- the group that counters tell, by limits that are told
abbrev pub group_with : List (ℕ × QgroupLimit) → ℕ × QgroupInfo → ℕ × Group
group_with limits entry = (entry.0, group_told entry.1 (value_at entry.0 limits))

-- groups by their counters, each with its limits, and those relations, are the quota that is told
pub quota-is : (parts : List QuotaPart) (told : QuotaItems) (quota : Quota) → AreTold parts told
    → quota.groups ≡ map (group_by told) told.infos
    → quota.pairs ≡ filter rises told.relations.items → quota ≡ quota_told parts
unfolding quota_told
quota-is parts told quota are groups pairs =
    made_of quota (map (group_with (filter_map limit_told parts)) (filter_map info_told parts))
    (filter_map pair_told parts)
    (groups ∙ ap (λ (limits : List (ℕ × QgroupLimit)). map (group_with limits) told.infos) are.limits
    ∙ ap (λ (infos : List (ℕ × QgroupInfo)). map (group_with (filter_map limit_told parts)) infos) are.infos)
    (pairs ∙ ap (λ (list : List (ℕ × ℕ)). filter rises list) are.relations ∙ pairs-told parts) where
      made_of : (quota : Quota) (groups : List (ℕ × Group)) (pairs : List (ℕ × ℕ)) → quota.groups ≡ groups
          → quota.pairs ≡ pairs
          → quota ≡ record { groups = groups; pairs = pairs }
      made_of quota groups pairs g p = λ i. record { groups = g i; pairs = p i }

-- ---- that groups and relations are sound

-- what holds of all items holds of a relation's
pub relation_passes : (test : QuotaPart → Bool) (parts : List QuotaPart) (a b : ℕ) → list_all test parts ≡ true
    → has_pair a b (filter_map relation_told parts) ≡ true
    → test (Relation a b) ≡ true
relation_passes test [] a b all has = absurd (true≢false (sym has))
relation_passes test (Status status ∷ parts) a b all has =
    relation_passes test parts a b (and_parts (test (Status status)) (list_all test parts) all).1 has
relation_passes test (Info group info ∷ parts) a b all has =
    relation_passes test parts a b (and_parts (test (Info group info)) (list_all test parts) all).1 has
relation_passes test (Limits group limit ∷ parts) a b all has =
    relation_passes test parts a b (and_parts (test (Limits group limit)) (list_all test parts) all).1 has
relation_passes test (Relation group other ∷ parts) a b all has =
    let both = and_parts (test (Relation group other)) (list_all test parts) all in
    elim (or_cases (same_pair (a, b) (group, other)) (has_pair a b (filter_map relation_told parts)) has) [
      | inl here ↦ ap (λ (pair : ℕ × ℕ). test (Relation pair.0 pair.1)) (pair_is (a, b) (group, other) here) ∙ both.0
      | inr later ↦ relation_passes test parts a b both.1 later
    ]

keys_by : (told : QuotaItems) (infos : List (ℕ × QgroupInfo)) → keys_of (map (group_by told) infos) ≡ keys_of infos
keys_by told [] = refl
keys_by told (info ∷ infos) = ap (λ (keys : List ℕ). info.0 ∷ keys) (keys_by told infos)

module _ (parts : List QuotaPart) (told : QuotaItems) (are : AreTold parts told) (ascends : Ascends told)
    (live : List ℕ)
    (sound : is_quota live parts ≡ true) where
  all_fit : list_all (fits_told told) parts ≡ true
  all_fit =
      let judged = sym (quota-judged parts told are live) ∙ sound in
      let front = and_parts (list_any is_status_part parts && list_all (fits_told told) parts)
      (list_all (λ sub. has_key sub told.infos) live) judged in
      (and_parts (list_any is_status_part parts) (list_all (fits_told told) parts) front.0).1

  relation_fits : (a b : ℕ) → has_pair a b told.relations.items ≡ true
      → (has_pair b a told.relations.items ≡ true) × (has_key a told.infos ≡ true)
  relation_fits a b has =
      let fits = relation_passes (fits_told told) parts a b all_fit
      (sym (ap (λ (pairs : List (ℕ × ℕ)). has_pair a b pairs) are.relations) ∙ has) in
      let front = and_parts (has_pair b a told.relations.items && has_key a told.infos)
      (not (level_of_group a == level_of_group b)) fits in
      and_parts (has_pair b a told.relations.items) (has_key a told.infos) front.0

  pub pair-rises : (a b : ℕ) → has_pair a b (filter rises told.relations.items) ≡ true
      → (rises (a, b) ≡ true) × (has_pair a b told.relations.items ≡ true)
  pair-rises a b has =
      and_parts (rises (a, b)) (has_pair a b told.relations.items)
      (sym (any-filter_same (same_pair (a, b)) rises (rises (a, b))
      (λ pair same. ap (λ (p : ℕ × ℕ). rises p) (sym (pair_is (a, b) pair same))) told.relations.items) ∙ has)

  kept : (a : ℕ) → has_key a told.infos ≡ true → has_number a (keys_of (map (group_by told) told.infos)) ≡ true
  kept a has = ap (λ (keys : List ℕ). has_number a keys) (keys_by told told.infos) ∙ key-found a told.infos ∙ has

  pub told-sound : (quota : Quota) → quota.groups ≡ map (group_by told) told.infos
      → quota.pairs ≡ filter rises told.relations.items → IsSound (hierarchy_of quota)
  told-sound quota groups pairs =
      let there : (a b : ℕ) → has_pair a b quota.pairs ≡ true
      → has_pair a b (filter rises told.relations.items) ≡ true =
      λ a b has. sym (ap (λ (list : List (ℕ × ℕ)). has_pair a b list) pairs) ∙ has in
      let is : (a : ℕ) → has_key a told.infos ≡ true → is_kept (hierarchy_of quota) a ≡ true =
      λ a has. ap (λ (list : List (ℕ × Group)). has_number a (keys_of list)) groups ∙ kept a has in
      record {
        groups = subst (λ (keys : List ℕ). IsStrictlySortedBy nat_cmp keys)
            (sym (ap (λ (list : List (ℕ × Group)). keys_of list) groups ∙ keys_by told told.infos)) ascends.infos;
        pairs = subst (λ (list : List (ℕ × ℕ)). IsStrictlySortedBy pair_cmp list) (sym pairs)
            (IsStrictlySortedBy-filter pair_cmp rises told.relations.items ascends.relations);
        members = λ a b has. is a (relation_fits a b (pair-rises a b (there a b has)).1).1;
        parents = λ a b has.
            let twin = (relation_fits a b (pair-rises a b (there a b has)).1).0 in
            is b (relation_fits b a twin).1;
        rising = λ a b has. ltb-true (level_of_group a) (level_of_group b) (pair-rises a b (there a b has)).0;
      }
