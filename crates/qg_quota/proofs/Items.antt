-- The items of the quota tree: what they say, where they may stand, in which order, and how long they are.
use Rattle.std.proofs.Common.{◌≡◌, ℕ, ◌+◌, ◌*◌, ◌≤◌, ◌<◌, ◌^◌, true, List, [], ◌∷◌, ◌++◌, map, length, take, get_or}
use Rattle.std.proofs.Common.{refl, sym, ap, ◌∙◌, arith, lit<}
use Rattle.std.specs.Prelude.{Option, Some, None, All, IfSome, nat_le}
use Rattle.std.specs.List.{AllByRecursion, filter_map, list_all}
use Rattle.std.specs.Ordering.{is_lt}
use Rattle.std.proofs.lemmas.Bool.{eq-eqb, le-leb}
use Rattle.std.proofs.lemmas.List.{append_assoc, map-append, take_more}
use Rattle.std.proofs.lemmas.List.Elements.{All-append, All-cons, All-from_recursion, filter_map-append}
use Rattle.std.proofs.lemmas.List.Elements.{recursion_from_All}
use Rattle.std.proofs.lemmas.List.Folds.{list_all-append}
use Rattle.std.proofs.lemmas.List.Sums.{sum_by-append, sum_by-cons}
use Rattle.qg_num.specs.Key.{key_cmp}
use Rattle.qg_node.specs.declared.item.Item.{Item}
use Rattle.qg_node.specs.Fits.{ItemFits}
use Rattle.qg_node.specs.Nodes.{is_ascending, ascends_from, item_bytes, items_bytes}
use Rattle.qg_items.specs.declared.quota.QgroupStatus.{QgroupStatus}
use Rattle.qg_items.specs.Laws.{StatusFits, InfoFits, LimitFits}
use Rattle.qg_items.specs.ItemText.{status_text, info_text, limit_text}
use Rattle.qg_items.proofs.QuotaBodies.{length-status_text, length-info_text, length-limit_text}
use Rattle.qg_items.proofs.QuotaBodies.{status_read-status_text, info_read-info_text, limit_read-limit_text}
use Rattle.qg_image.specs.declared.part.QuotaPart.TheVariants.{Status}
use Rattle.qg_image.specs.ItemMeaning.{quota_part}
use Rattle.qg_tree_items.specs.Keys.{key_with}
use Rattle.qg_tree_items.proofs.Parts.{and-false}
use Rattle.qg_image.specs.declared.quota.Group.{Group}
use Rattle.qg_image.specs.declared.quota.Quota.{Quota}
use Rattle.qg_image.specs.Members.{hierarchy_of}
use Rattle.qg_qgroups.specs.Groups.{IsSound}
use Rattle.qg_image.specs.declared.tree.TreeKind.TheVariants.{Quotas}
use Rattle.qg_image.specs.Walk.{is_item_of}
use Rattle.qg_quota.specs.Writable.{GroupFits, PairFits}
use Rattle.qg_quota.specs.Written.{both_ways, info_of, info_part, item_of_info, item_of_limit, item_of_relation}
use Rattle.qg_quota.specs.Written.{item_of_status, items_of_groups, items_of_quota, limit_of, flag_of, limit_part}
use Rattle.qg_quota.specs.Written.{parts_of_quota, relation_part, status_at}
use Rattle.qg_node.proofs.ItemUnder.{item-fits}
use Rattle.qg_quota.proofs.Bodies.{status_text-AreBytes, info_text-AreBytes, limit_text-AreBytes}
use Rattle.qg_quota.proofs.Bodies.{nothing-AreBytes}
use Rattle.qg_quota.proofs.BothWays.{both-length, both-sorted}
use Rattle.qg_quota.proofs.Rising.{Above, Rises, Rises-sorted, before_info, before_limit, both, relations-behind}

-- ---- limits

limits_fit : (max_rfer max_excl : Option ℕ) → IfSome max_rfer (λ most. most < 2 ^ 64)
    → IfSome max_excl (λ most. most < 2 ^ 64)
    → LimitFits (limit_of max_rfer max_excl)
limits_fit None None r e = record { flags = lit< tt; max_rfer = lit< tt; max_excl = lit< tt }
limits_fit None (Some most) r e = record { flags = lit< tt; max_rfer = lit< tt; max_excl = e }
limits_fit (Some most) None r e = record { flags = lit< tt; max_rfer = r; max_excl = lit< tt }
limits_fit (Some most) (Some own) r e = record { flags = lit< tt; max_rfer = r; max_excl = e }

known_flags : (max_rfer max_excl : Option ℕ) → nat_le (flag_of 1 max_rfer + flag_of 2 max_excl) 3 ≡ true
known_flags None None = refl
known_flags None (Some most) = refl
known_flags (Some most) None = refl
known_flags (Some most) (Some own) = refl

-- ---- one by one

status_told : (generation : ℕ) → generation < 2 ^ 64
    → quota_part (item_of_status (status_at generation)) ≡ Some (Status (status_at generation))
unfolding quota_part
status_told generation fits =
    let is : StatusFits (status_at generation) = record { generation = fits; flags = lit< tt; cursor = lit< tt } in
    rw (status_read-status_text (status_at generation) is) refl

info_told : (entry : ℕ × Group) → GroupFits entry → quota_part (item_of_info entry) ≡ Some (info_part entry)
unfolding quota_part
info_told entry is =
    let fits : InfoFits (info_of entry.1.stamp entry.1.counters) =
    record {
      generation = is.counters.stamp;
      rfer = is.counters.rfer;
      rfer_cmpr = is.counters.rfer;
      excl = is.counters.excl;
      excl_cmpr = is.counters.excl;
    } in
    rw (eq-eqb entry.0 entry.0 refl, info_read-info_text (info_of entry.1.stamp entry.1.counters) fits) refl

limit_told : (entry : ℕ × Group) → GroupFits entry → quota_part (item_of_limit entry) ≡ Some (limit_part entry)
unfolding quota_part
limit_told entry is =
    let limit = limit_of entry.1.max_rfer entry.1.max_excl in
    let fits = limits_fit entry.1.max_rfer entry.1.max_excl is.limits.max_rfer is.limits.max_excl in
    rw (eq-eqb entry.0 entry.0 refl, limit_read-limit_text limit fits, known_flags entry.1.max_rfer entry.1.max_excl)
    refl

relation_told : (pair : ℕ × ℕ) → quota_part (item_of_relation pair) ≡ Some (relation_part pair)
unfolding quota_part
relation_told pair = simp and-false refl

status_allowed : (generation : ℕ) → generation < 2 ^ 64
    → is_item_of Quotas generation (item_of_status (status_at generation)) ≡ true
unfolding is_item_of
status_allowed generation fits =
    let itself : generation ≤ generation = omega arith in
    rw (status_told generation fits, le-leb generation generation itself, eq-eqb generation generation refl) refl

info_allowed : (generation : ℕ) (entry : ℕ × Group) → GroupFits entry → entry.1.stamp ≤ generation
    → is_item_of Quotas generation (item_of_info entry) ≡ true
unfolding is_item_of
info_allowed generation entry is by = rw (info_told entry is, le-leb entry.1.stamp generation by) refl

limit_allowed : (generation : ℕ) (entry : ℕ × Group) → GroupFits entry
    → is_item_of Quotas generation (item_of_limit entry) ≡ true
unfolding is_item_of
limit_allowed generation entry is = rw (limit_told entry is) refl

relation_allowed : (generation : ℕ) (pair : ℕ × ℕ) → is_item_of Quotas generation (item_of_relation pair) ≡ true
unfolding is_item_of
relation_allowed generation pair = rw (relation_told pair) refl

-- ---- any

infos_told : (groups : List (ℕ × Group)) → AllByRecursion GroupFits groups
    → filter_map quota_part (map item_of_info groups) ≡ map info_part groups
infos_told [] fit = refl
infos_told (entry ∷ groups) fit = rw (info_told entry fit.0, infos_told groups fit.1) refl

limits_told : (groups : List (ℕ × Group)) → AllByRecursion GroupFits groups
    → filter_map quota_part (map item_of_limit groups) ≡ map limit_part groups
limits_told [] fit = refl
limits_told (entry ∷ groups) fit = rw (limit_told entry fit.0, limits_told groups fit.1) refl

relations_told : (pairs : List (ℕ × ℕ)) → filter_map quota_part (map item_of_relation pairs) ≡ map relation_part pairs
relations_told [] = refl
relations_told (pair ∷ pairs) = rw (relation_told pair, relations_told pairs) refl

infos_allowed : (generation : ℕ) (groups : List (ℕ × Group)) → AllByRecursion GroupFits groups
    → AllByRecursion (λ entry. entry.1.stamp ≤ generation) groups
    → list_all (is_item_of Quotas generation) (map item_of_info groups) ≡ true
infos_allowed generation [] fit by = refl
infos_allowed generation (entry ∷ groups) fit by =
    both (is_item_of Quotas generation (item_of_info entry))
    (list_all (is_item_of Quotas generation) (map item_of_info groups))
    (info_allowed generation entry fit.0 by.0) (infos_allowed generation groups fit.1 by.1)

limits_allowed : (generation : ℕ) (groups : List (ℕ × Group)) → AllByRecursion GroupFits groups
    → list_all (is_item_of Quotas generation) (map item_of_limit groups) ≡ true
limits_allowed generation [] fit = refl
limits_allowed generation (entry ∷ groups) fit =
    both (is_item_of Quotas generation (item_of_limit entry))
    (list_all (is_item_of Quotas generation) (map item_of_limit groups))
    (limit_allowed generation entry fit.0) (limits_allowed generation groups fit.1)

relations_allowed : (generation : ℕ) (pairs : List (ℕ × ℕ))
    → list_all (is_item_of Quotas generation) (map item_of_relation pairs) ≡ true
relations_allowed generation [] = refl
relations_allowed generation (pair ∷ pairs) =
    both (is_item_of Quotas generation (item_of_relation pair))
    (list_all (is_item_of Quotas generation) (map item_of_relation pairs))
    (relation_allowed generation pair) (relations_allowed generation pairs)

-- ---- the order

-- items stand behind those of groups
abbrev AreBehind : List Item → Type 0
AreBehind rest = (kind n : ℕ) → kind < 246 → ascends_from (key_with 0 kind n) (map (λ (item : Item). item.key) rest)
    ≡ true

limits_above : (n : ℕ) (groups : List (ℕ × Group)) (rest : List Item) → Above n groups → AreBehind rest
    → ascends_from (key_with 0 244 n) (map (λ (item : Item). item.key) (map item_of_limit groups ++ rest)) ≡ true
unfolding ascends_from
limits_above n [] rest above behind = behind 244 n (lit< tt)
limits_above n (entry ∷ groups) rest above behind =
    both (is_lt (key_cmp (key_with 0 244 n) (key_with 0 244 entry.0)))
    (ascends_from (key_with 0 244 entry.0) (map (λ (item : Item). item.key) (map item_of_limit groups ++ rest)))
    (before_limit n entry.0 above.0) (limits_above entry.0 groups rest above.1 behind)

-- limits stand behind all counters
limits_behind : (n : ℕ) (groups : List (ℕ × Group)) (rest : List Item) → Rises groups → AreBehind rest
    → ascends_from (key_with 0 242 n) (map (λ (item : Item). item.key) (map item_of_limit groups ++ rest)) ≡ true
unfolding ascends_from
limits_behind n [] rest rises behind = behind 242 n (lit< tt)
limits_behind n (entry ∷ groups) rest rises behind = limits_above entry.0 groups rest rises behind

infos_above : (n : ℕ) (groups : List (ℕ × Group)) (rest : List Item) → Above n groups
    → ((m : ℕ) → ascends_from (key_with 0 242 m) (map (λ (item : Item). item.key) rest) ≡ true)
    → ascends_from (key_with 0 242 n) (map (λ (item : Item). item.key) (map item_of_info groups ++ rest)) ≡ true
unfolding ascends_from
infos_above n [] rest above behind = behind n
infos_above n (entry ∷ groups) rest above behind =
    both (is_lt (key_cmp (key_with 0 242 n) (key_with 0 242 entry.0)))
    (ascends_from (key_with 0 242 entry.0) (map (λ (item : Item). item.key) (map item_of_info groups ++ rest)))
    (before_info n entry.0 above.0) (infos_above entry.0 groups rest above.1 behind)

ascending_infos : (groups : List (ℕ × Group)) (rest : List Item) → Rises groups
    → ((m : ℕ) → ascends_from (key_with 0 242 m) (map (λ (item : Item). item.key) rest) ≡ true)
    → ascends_from (key_with 0 240 0) (map (λ (item : Item). item.key) rest) ≡ true
    → ascends_from (key_with 0 240 0) (map (λ (item : Item). item.key) (map item_of_info groups ++ rest)) ≡ true
unfolding ascends_from
ascending_infos [] rest rises behind first = first
ascending_infos (entry ∷ groups) rest rises behind first = infos_above entry.0 groups rest rises behind

limits_first : (groups : List (ℕ × Group)) (rest : List Item) → Rises groups → AreBehind rest
    → ascends_from (key_with 0 240 0) (map (λ (item : Item). item.key) (map item_of_limit groups ++ rest)) ≡ true
unfolding ascends_from
limits_first [] rest rises behind = behind 240 0 (lit< tt)
limits_first (entry ∷ groups) rest rises behind = limits_above entry.0 groups rest rises behind

-- ---- lengths

infos_short : (groups : List (ℕ × Group))
    → AllByRecursion (λ (item : Item). length item.body ≤ 1024) (map item_of_info groups)
infos_short [] = tt
infos_short (entry ∷ groups) =
    let first : length (info_text (info_of entry.1.stamp entry.1.counters)) ≤ 1024 =
    omega (arith, length-info_text (info_of entry.1.stamp entry.1.counters)) in
    (first, infos_short groups)

limits_short : (groups : List (ℕ × Group))
    → AllByRecursion (λ (item : Item). length item.body ≤ 1024) (map item_of_limit groups)
limits_short [] = tt
limits_short (entry ∷ groups) =
    let first : length (limit_text (limit_of entry.1.max_rfer entry.1.max_excl)) ≤ 1024 =
    omega (arith, length-limit_text (limit_of entry.1.max_rfer entry.1.max_excl)) in
    (first, limits_short groups)

relations_short : (pairs : List (ℕ × ℕ))
    → AllByRecursion (λ (item : Item). length item.body ≤ 1024) (map item_of_relation pairs)
relations_short [] = tt
relations_short (pair ∷ pairs) =
    let first : 0 ≤ 1024 = omega arith in
    (first, relations_short pairs)

infos_fit : (groups : List (ℕ × Group)) → AllByRecursion GroupFits groups
    → AllByRecursion ItemFits (map item_of_info groups)
infos_fit [] fit = tt
infos_fit (entry ∷ groups) fit =
    let info = info_of entry.1.stamp entry.1.counters in (
      item-fits 0 242 entry.0 (info_text info) (lit< tt) (lit< tt) fit.0.counters.number
          (info_text-AreBytes info),
      infos_fit groups fit.1,
    )

all_limits_fit : (groups : List (ℕ × Group)) → AllByRecursion GroupFits groups
    → AllByRecursion ItemFits (map item_of_limit groups)
all_limits_fit [] fit = tt
all_limits_fit (entry ∷ groups) fit =
    let limit = limit_of entry.1.max_rfer entry.1.max_excl in (
      item-fits 0 244 entry.0 (limit_text limit) (lit< tt) (lit< tt) fit.0.counters.number (limit_text-AreBytes limit),
      all_limits_fit groups fit.1,
    )

relations_fit : (pairs : List (ℕ × ℕ)) → AllByRecursion PairFits pairs
    → AllByRecursion ItemFits (map item_of_relation pairs)
relations_fit [] fit = tt
relations_fit (pair ∷ pairs) fit =
    (item-fits pair.0 246 pair.1 [] fit.0.0 (lit< tt) fit.0.1 nothing-AreBytes, relations_fit pairs fit.1)

infos_weigh : (groups : List (ℕ × Group)) → items_bytes (map item_of_info groups) ≡ 65 * length groups
infos_weigh [] = refl
infos_weigh (entry ∷ groups) =
    let first : item_bytes (item_of_info entry) ≡ 65 =
    omega (arith, length-info_text (info_of entry.1.stamp entry.1.counters)) in
    omega (arith, first, infos_weigh groups, sum_by-cons item_bytes (item_of_info entry) (map item_of_info groups))

limits_weigh : (groups : List (ℕ × Group)) → items_bytes (map item_of_limit groups) ≡ 65 * length groups
limits_weigh [] = refl
limits_weigh (entry ∷ groups) =
    let first : item_bytes (item_of_limit entry) ≡ 65 =
    omega (arith, length-limit_text (limit_of entry.1.max_rfer entry.1.max_excl)) in
    omega (arith, first, limits_weigh groups, sum_by-cons item_bytes (item_of_limit entry) (map item_of_limit groups))

relations_weigh : (pairs : List (ℕ × ℕ)) → items_bytes (map item_of_relation pairs) ≡ 25 * length pairs
relations_weigh [] = refl
relations_weigh (pair ∷ pairs) =
    let first : item_bytes (item_of_relation pair) ≡ 25 = refl in
    omega (
      arith,
      first,
      relations_weigh pairs,
      sum_by-cons item_bytes (item_of_relation pair)
          (map item_of_relation pairs),
    )

-- ---- all

module _ (status : QgroupStatus) (quota : Quota) where
  abbrev infos : List Item
  infos = map item_of_info quota.groups

  abbrev limits : List Item
  limits = map item_of_limit quota.groups

  abbrev relations : List Item
  relations = map item_of_relation (both_ways quota.pairs)

  pub quota-short : All (λ (item : Item). length item.body ≤ 1024) (items_of_quota status quota)
  quota-short =
      let IsShort : Item → Type 0 = λ (item : Item). length item.body ≤ 1024 in
      let first : length (status_text status) ≤ 1024 = omega (arith, length-status_text status) in
      let counters = All-from_recursion IsShort infos (infos_short quota.groups) in
      let maxima = All-from_recursion IsShort limits (limits_short quota.groups) in
      let related = All-from_recursion IsShort relations (relations_short (both_ways quota.pairs)) in
      let groups = All-cons IsShort (item_of_status status) (infos ++ limits) first
      (All-append IsShort infos limits counters maxima) in
      All-append IsShort (items_of_groups status quota.groups) relations groups related

  pub quota-fit : All GroupFits quota.groups → All PairFits (both_ways quota.pairs)
      → All ItemFits (items_of_quota status quota)
  quota-fit fits pairs_fit =
      let fit = recursion_from_All GroupFits quota.groups fits in
      let first = item-fits 0 240 0 (status_text status) (lit< tt) (lit< tt) (lit< tt) (status_text-AreBytes status) in
      let counters = All-from_recursion ItemFits infos (infos_fit quota.groups fit) in
      let maxima = All-from_recursion ItemFits limits (all_limits_fit quota.groups fit) in
      let related = All-from_recursion ItemFits relations
      (relations_fit (both_ways quota.pairs) (recursion_from_All PairFits (both_ways quota.pairs) pairs_fit)) in
      let groups = All-cons ItemFits (item_of_status status) (infos ++ limits) first
      (All-append ItemFits infos limits counters maxima) in
      All-append ItemFits (items_of_groups status quota.groups) relations groups related

  pub quota-ascending : IsSound (hierarchy_of quota)
      → is_ascending (map (λ (item : Item). item.key) (items_of_quota status quota)) ≡ true
  unfolding is_ascending
  quota-ascending sound =
      let rises = Rises-sorted quota.groups sound.groups in
      let behind : AreBehind relations = relations-behind (both_ways quota.pairs) (both-sorted quota.pairs) in
      ap (λ (rest : List Item). ascends_from (key_with 0 240 0) (map (λ (item : Item). item.key) rest))
      (append_assoc infos limits relations)
      ∙ ascending_infos quota.groups (limits ++ relations) rises
      (λ m. limits_behind m quota.groups relations rises behind)
      (limits_first quota.groups relations rises behind)

  pub quota-bytes : IsSound (hierarchy_of quota)
      → items_bytes (items_of_quota status quota) ≡ 57 + 130 * length quota.groups + 50 * length quota.pairs
  quota-bytes sound =
      let first : item_bytes (item_of_status status) ≡ 57 = omega (arith, length-status_text status) in
      omega (
        arith,
        first,
        sum_by-append item_bytes (items_of_groups status quota.groups) relations,
        sum_by-cons item_bytes (item_of_status status) (infos ++ limits),
        sum_by-append item_bytes infos limits,
        infos_weigh quota.groups,
        limits_weigh quota.groups,
        relations_weigh (both_ways quota.pairs),
        both-length quota.pairs sound.pairs sound.rising,
      )

module _ (generation : ℕ) (quota : Quota) (small : generation < 2 ^ 64) (fits : All GroupFits quota.groups) where
  abbrev counted : List Item
  counted = map item_of_info quota.groups

  abbrev limited : List Item
  limited = map item_of_limit quota.groups

  abbrev related : List Item
  related = map item_of_relation (both_ways quota.pairs)

  pub quota-told : filter_map quota_part (items_of_quota (status_at generation) quota) ≡ parts_of_quota generation quota
  quota-told =
      let fit = recursion_from_All GroupFits quota.groups fits in
      let groups = filter_map-append quota_part counted limited in
      let rest = filter_map-append quota_part (counted ++ limited) related in
      rw (
        status_told generation small,
        rest,
        groups,
        infos_told quota.groups fit,
        limits_told quota.groups fit,
        relations_told (both_ways quota.pairs),
      ) refl

  pub quota-allowed : All (λ entry. entry.1.stamp ≤ generation) quota.groups
      → list_all (is_item_of Quotas generation) (items_of_quota (status_at generation) quota) ≡ true
  quota-allowed stamped =
      let fit = recursion_from_All GroupFits quota.groups fits in
      let by = recursion_from_All (λ (entry : ℕ × Group). entry.1.stamp ≤ generation) quota.groups stamped in
      let groups = list_all-append (is_item_of Quotas generation) counted limited
      ∙ both (list_all (is_item_of Quotas generation) counted) (list_all (is_item_of Quotas generation) limited)
      (infos_allowed generation quota.groups fit by) (limits_allowed generation quota.groups fit) in
      let rest = list_all-append (is_item_of Quotas generation) (counted ++ limited) related
      ∙ both (list_all (is_item_of Quotas generation) (counted ++ limited))
      (list_all (is_item_of Quotas generation) related)
      groups (relations_allowed generation (both_ways quota.pairs)) in
      both (is_item_of Quotas generation (item_of_status (status_at generation)))
      (list_all (is_item_of Quotas generation) (counted ++ limited ++ related)) (status_allowed generation small) rest

-- ---- one item more is put

pub item-put : (f : ℕ × Group → Item) (front items more : List Item) (groups : List (ℕ × Group)) (i : ℕ)
    (entry : ℕ × Group)
    → i < length groups → entry ≡ get_or groups i entry → items ≡ front ++ map f (take i groups)
    → more ≡ items ++ f entry ∷ []
    → more ≡ front ++ map f (take (i + 1) groups)
item-put f front items more groups i entry inside is before put =
    let here : List (ℕ × Group) = entry ∷ [] in
    let split : take (i + 1) groups ≡ take i groups ++ here =
    take_more groups i entry inside ∙ ap (λ (e : ℕ × Group). take i groups ++ e ∷ []) (sym is) in
    let mapped : map f (take (i + 1) groups) ≡ map f (take i groups) ++ f entry ∷ [] =
    ap (map f) split ∙ map-append f (take i groups) here in
    let last : List Item = f entry ∷ [] in
    put ∙ ap (λ (all : List Item). all ++ last) before ∙ append_assoc front (map f (take i groups)) last
    ∙ ap (λ (all : List Item). front ++ all) (sym mapped)

-- one relation's item moves from what is left to what is put
pub relation-put : (pair : ℕ × ℕ) (left : List (ℕ × ℕ)) (items more : List Item) (item : Item)
    → item ≡ item_of_relation pair → more ≡ items ++ item ∷ []
    → more ++ map item_of_relation left ≡ items ++ map item_of_relation (pair ∷ left)
relation-put pair left items more item is put =
    ap (λ (list : List Item). list ++ map item_of_relation left) (put ∙ ap (λ (one : Item). items ++ one ∷ []) is)
    ∙ append_assoc items (item_of_relation pair ∷ []) (map item_of_relation left)
