-- Items that break no rule are those that are written of the quota that they tell.
use Rattle.std.proofs.Common.{◌≡◌, ℕ, zero, suc, ◌≤◌, ◌<◌, inl, inr, Bool, true, false, not, List, [], ◌∷◌, ◌++◌, map}
use Rattle.std.proofs.Common.{refl, sym, ap, subst, ◌∙◌, arith}
use Rattle.std.specs.Prelude.{◌/◌, ◌%◌, Option, Some, None, ◌==◌, ◌&&◌, ◌||◌, IsTrue, nat_le, if◌then◌else◌}
use Rattle.std.specs.List.{All, AllByRecursion, filter_map, list_all, list_any}
use Rattle.std.specs.Option.{option_and_then}
use Rattle.std.proofs.lemmas.Bool.{and_from, and_parts, cases_Bool, cases_eq, eqb-true, leb-true, lt-ltb, ltb-false}
use Rattle.std.proofs.lemmas.Bool.{not-true, eqb-false, or_cases, or_left, or_right, true≢false}
use Rattle.std.proofs.lemmas.List.{map-append}
use Rattle.std.proofs.lemmas.List.Elements.{recursion_from_All}
use Rattle.std.proofs.lemmas.Map.Views.{any-filter_same}
use Rattle.qg_num.specs.declared.rule.Rule.{Rule}
use Rattle.qg_num.specs.declared.rule.Rule.TheVariants as rule
use Rattle.qg_node.specs.declared.item.Item.{Item}
use Rattle.qg_node.specs.Fits.{ItemFits}
use Rattle.qg_node.specs.Nodes.{is_ascending}
use Rattle.qg_items.specs.declared.quota.QgroupStatus.{QgroupStatus}
use Rattle.qg_items.specs.declared.quota.QgroupInfo.{QgroupInfo}
use Rattle.qg_items.specs.declared.quota.QgroupLimit.{QgroupLimit}
use Rattle.qg_image.specs.ItemMeaning.{quota_part}
use Rattle.qg_image.specs.Table.{has_key, keys_of, value_at}
use Rattle.qg_image.specs.declared.part.QuotaPart.{QuotaPart}
use Rattle.qg_image.specs.declared.part.QuotaPart.TheVariants.{Status, Info, Limits, Relation}
use Rattle.qg_tree_items.specs.Keys.{quota_key}
use Rattle.qg_image.specs.declared.quota.Group.{Group}
use Rattle.qg_image.specs.Members.{level_of_group}
use Rattle.qg_machine.specs.GroupChange.{has_pair, same_pair}
use Rattle.qg_qgroups.specs.Groups.{has_number}
use Rattle.qg_qgroups.proofs.Lists.{same_tests}
use Rattle.qg_qgroups.proofs.Order.{same_numbers}
use Rattle.qg_qgroups.proofs.Sets.{pair_is}
use Rattle.qg_qgroups.proofs.Tables.{each-found, key-found}
use Rattle.qg_image.specs.declared.tree.TreeKind.TheVariants.{Quotas}
use Rattle.qg_image.specs.ImageState.{info_told, limit_told, max_excl_told, max_rfer_told, pair_told, quota_told}
use Rattle.qg_image.specs.Verdict.{are_few, fits_quota, has_twin, is_group_number, is_limit, is_plain, is_quota}
use Rattle.qg_image.specs.Verdict.{is_status_part}
use Rattle.qg_image.specs.Walk.{are_by, is_item_of}
use Rattle.qg_quota.specs.Quota.{items_rule}
use Rattle.qg_quota.specs.QuotaKinds.{relation_told, rises}
use Rattle.qg_quota.specs.Written.{both_ways, info_of, item_of_info, item_of_limit, item_of_relation, item_of_status}
use Rattle.qg_quota.specs.Written.{items_of_quota, limit_of, relation_part, status_at}
use Rattle.qg_quota.proofs.BothWays.{both-has, both-sorted}
use Rattle.qg_quota.proofs.ReadBack.{info_entry, limit_entry}
use Rattle.qg_quota.proofs.Said.{is_known, item_of_part, items-said, passes, said-ascending, said-known, said-passes}
use Rattle.qg_quota.proofs.Same.{same-pairs}
use Rattle.qg_quota.proofs.ToldBack.{IsSorted, group_with, infos-ascend, keys-sorted, limit-is, limits-ascend}
use Rattle.qg_quota.proofs.ToldBack.{pairs-told, relation_passes, relations-ascend, twin_is, twins}
use Rattle.qg_quota.proofs.KindsInOrder.{laid, one-status, status_told, whole}

-- ---- what holds of all parts holds of those of each kind

status_passes : (test : QuotaPart → Bool) (parts : List QuotaPart) (status : QgroupStatus) → list_all test parts ≡ true
    → filter_map status_told parts ≡ status ∷ []
    → test (Status status) ≡ true
status_passes test [] status all is = absurd cc
status_passes test (Status first ∷ parts) status all is =
    let same : first ≡ status = cc in
    subst (λ (one : QgroupStatus). test (Status one) ≡ true) same
    (and_parts (test (Status first)) (list_all test parts) all).0
status_passes test (Info group info ∷ parts) status all is =
    status_passes test parts status (and_parts (test (Info group info)) (list_all test parts) all).1 is
status_passes test (Limits group limit ∷ parts) status all is =
    status_passes test parts status (and_parts (test (Limits group limit)) (list_all test parts) all).1 is
status_passes test (Relation group other ∷ parts) status all is =
    status_passes test parts status (and_parts (test (Relation group other)) (list_all test parts) all).1 is

infos_pass : (test : QuotaPart → Bool) (parts : List QuotaPart) → list_all test parts ≡ true
    → AllByRecursion (λ entry. test (Info entry.0 entry.1) ≡ true) (filter_map info_told parts)
infos_pass test [] all = tt
infos_pass test (Status status ∷ parts) all =
    infos_pass test parts (and_parts (test (Status status)) (list_all test parts) all).1
infos_pass test (Info group info ∷ parts) all =
    let both = and_parts (test (Info group info)) (list_all test parts) all in
    (both.0, infos_pass test parts both.1)
infos_pass test (Limits group limit ∷ parts) all =
    infos_pass test parts (and_parts (test (Limits group limit)) (list_all test parts) all).1
infos_pass test (Relation group other ∷ parts) all =
    infos_pass test parts (and_parts (test (Relation group other)) (list_all test parts) all).1

limits_pass : (test : QuotaPart → Bool) (parts : List QuotaPart) → list_all test parts ≡ true
    → AllByRecursion (λ entry. test (Limits entry.0 entry.1) ≡ true) (filter_map limit_told parts)
limits_pass test [] all = tt
limits_pass test (Status status ∷ parts) all =
    limits_pass test parts (and_parts (test (Status status)) (list_all test parts) all).1
limits_pass test (Info group info ∷ parts) all =
    limits_pass test parts (and_parts (test (Info group info)) (list_all test parts) all).1
limits_pass test (Limits group limit ∷ parts) all =
    let both = and_parts (test (Limits group limit)) (list_all test parts) all in
    (both.0, limits_pass test parts both.1)
limits_pass test (Relation group other ∷ parts) all =
    limits_pass test parts (and_parts (test (Relation group other)) (list_all test parts) all).1

-- ---- the state of quota

status_is : (generation : ℕ) (status : QgroupStatus) → passes generation (Status status) ≡ true
    → is_known (Status status) ≡ true → status ≡ status_at generation
status_is generation status by on =
    let told = and_parts (are_by generation (status.generation ∷ [])) (status.generation == generation) by in
    let both = and_parts (status.flags == 1) (status.cursor == 0) on in
    let made = eqb-true status.generation generation told.1 in
    let flags = eqb-true status.flags 1 both.0 in
    let cursor = eqb-true status.cursor 0 both.1 in
    λ i. record { generation = made i; flags = flags i; cursor = cursor i }

-- ---- counters

plain_is : (info : QgroupInfo) → is_plain info ≡ true
    → info ≡ info_of info.generation (record { rfer = info.rfer; excl = info.excl })
plain_is info plain =
    let both = and_parts (info.rfer_cmpr == info.rfer) (info.excl_cmpr == info.excl) plain in
    let rfer = eqb-true info.rfer_cmpr info.rfer both.0 in
    let excl = eqb-true info.excl_cmpr info.excl both.1 in
    λ i. record {
      generation = info.generation;
      rfer = info.rfer;
      rfer_cmpr = rfer i;
      excl = info.excl;
      excl_cmpr = excl i;
    }

infos_back : (limits : List (ℕ × QgroupLimit)) (infos : List (ℕ × QgroupInfo))
    → AllByRecursion (λ entry. is_plain entry.1 ≡ true) infos
    → infos ≡ map info_entry (map (group_with limits) infos)
infos_back limits [] plain = refl
infos_back limits (entry ∷ infos) plain =
    ap (λ (info : QgroupInfo). (entry.0, info) ∷ infos) (plain_is entry.1 plain.0)
    ∙ ap (λ (list : List (ℕ × QgroupInfo)). info_entry (group_with limits entry) ∷ list)
    (infos_back limits infos plain.1)

-- ---- limits

-- flags, and limits that are 0 where they are not set, are those of the limits that are told
limit_back : (flags max_rfer max_excl : ℕ) → nat_le flags 3 ≡ true
    → (((flags % 2 == 1) || (max_rfer == 0)) && ((flags / 2 % 2 == 1) || (max_excl == 0))) ≡ true
    → limit_of (max_rfer_told (record { flags = flags; max_rfer = max_rfer; max_excl = max_excl }))
    (max_excl_told (record { flags = flags; max_rfer = max_rfer; max_excl = max_excl }))
    ≡ record { flags = flags; max_rfer = max_rfer; max_excl = max_excl }
limit_back zero max_rfer max_excl few is =
    let both = and_parts (max_rfer == 0) (max_excl == 0) is in
    let rfer = sym (eqb-true max_rfer 0 both.0) in
    let excl = sym (eqb-true max_excl 0 both.1) in
    λ i. record { flags = 0; max_rfer = rfer i; max_excl = excl i }
limit_back (suc zero) max_rfer max_excl few is =
    let excl = sym (eqb-true max_excl 0 is) in
    λ i. record { flags = 1; max_rfer = max_rfer; max_excl = excl i }
limit_back (suc (suc zero)) max_rfer max_excl few is =
    let both = and_parts (max_rfer == 0) true is in
    let rfer = sym (eqb-true max_rfer 0 both.0) in
    λ i. record { flags = 2; max_rfer = rfer i; max_excl = max_excl }
limit_back (suc (suc (suc zero))) max_rfer max_excl few is = refl
limit_back (suc (suc (suc (suc n)))) max_rfer max_excl few is =
    let le : suc (suc (suc (suc n))) ≤ 3 = leb-true (suc (suc (suc (suc n)))) 3 few in
    absurd (omega (arith, le))

-- the limits of a number
abbrev limit_at : List (ℕ × QgroupLimit) → ℕ → ℕ × QgroupLimit
limit_at limits n = (
  n,
  limit_of (option_and_then max_rfer_told (value_at n limits))
      (option_and_then max_excl_told (value_at n limits)),
)

limits_by : (limits : List (ℕ × QgroupLimit)) (infos : List (ℕ × QgroupInfo))
    → map limit_entry (map (group_with limits) infos) ≡ map (limit_at limits) (keys_of infos)
limits_by limits [] = refl
limits_by limits (entry ∷ infos) = ap (λ (list : List (ℕ × QgroupLimit)). limit_at limits entry.0 ∷ list)
    (limits_by limits infos)

limits_back : (limits those : List (ℕ × QgroupLimit))
    → AllByRecursion (λ entry. value_at entry.0 limits ≡ Some entry.1) those
    → AllByRecursion (λ entry. nat_le entry.1.flags 3 ≡ true) those
    → AllByRecursion (λ entry. is_limit entry.1 ≡ true) those
    → map (limit_at limits) (keys_of those) ≡ those
limits_back limits [] found few sound = refl
limits_back limits (entry ∷ those) found few sound =
    let limit = entry.1 in
    let one : limit_at limits entry.0 ≡ entry =
    ap (λ (o : Option QgroupLimit).
    (entry.0, limit_of (option_and_then max_rfer_told o) (option_and_then max_excl_told o))) found.0
    ∙ ap (λ (l : QgroupLimit). (entry.0, l)) (limit_back limit.flags limit.max_rfer limit.max_excl few.0
    (sym (limit-is limit) ∙ sound.0)) in
    ap (λ (e : ℕ × QgroupLimit). e ∷ map (limit_at limits) (keys_of those)) one
    ∙ ap (λ (list : List (ℕ × QgroupLimit)). entry ∷ list) (limits_back limits those found.1 few.1 sound.1)

-- ---- each kind, where no rule is broken

weaker : {X : Type 0} (P Q : X → Type 0) → ((x : X) → P x → Q x) → (xs : List X) → AllByRecursion P xs
    → AllByRecursion Q xs
weaker P Q so [] all = tt
weaker P Q so (x ∷ xs) all = (so x all.0, weaker P Q so xs all.1)

-- an entry of a number is found
key_entry : {A : Type 0} (P : ℕ × A → Type 0) (n : ℕ) (entries : List (ℕ × A)) → AllByRecursion P entries
    → has_number n (keys_of entries) ≡ true
    → (value : A) × P (n, value)
key_entry P n [] all has = absurd (true≢false (sym has))
key_entry P n (entry ∷ entries) all has = elim (or_cases (entry.0 == n) (has_number n (keys_of entries)) has) [
  | inl here ↦ (entry.1, subst (λ (m : ℕ). P (m, entry.1)) (eqb-true entry.0 n here) all.0)
  | inr later ↦ key_entry P n entries all.1 later
]

module _ (generation : ℕ) (live : List ℕ) (parts : List QuotaPart) (up : IsSorted parts)
    (by : list_all (passes generation) parts ≡ true)
    (known : list_all is_known parts ≡ true) (sound : is_quota live parts ≡ true) where
  abbrev infos : List (ℕ × QgroupInfo)
  infos = filter_map info_told parts

  abbrev limits : List (ℕ × QgroupLimit)
  limits = filter_map limit_told parts

  abbrev relations : List (ℕ × ℕ)
  relations = filter_map relation_told parts

  abbrev groups : List (ℕ × Group)
  groups = map (group_with limits) infos

  abbrev pairs : List (ℕ × ℕ)
  pairs = filter_map pair_told parts

  tests : (list_any is_status_part parts ≡ true) × (list_all (fits_quota parts) parts ≡ true)
  unfolding is_quota
  tests =
      let front = and_parts (list_any is_status_part parts && list_all (fits_quota parts) parts)
      (list_all (λ sub. has_key sub (filter_map info_told parts)) live) sound in
      and_parts (list_any is_status_part parts) (list_all (fits_quota parts) parts) front.0

  statuses : filter_map status_told parts ≡ status_at generation ∷ []
  statuses =
      let one = one-status parts up tests.0 in
      one.1 ∙ ap (λ (status : QgroupStatus). status ∷ [])
      (status_is generation one.0 (status_passes (passes generation) parts one.0 by one.1)
      (status_passes is_known parts one.0 known one.1))

  info_fits : (entry : ℕ × QgroupInfo) → fits_quota parts (Info entry.0 entry.1) ≡ true
      → (has_key entry.0 limits ≡ true) × (is_plain entry.1 ≡ true)
  info_fits entry fits =
      let last = and_parts (has_key entry.0 limits && is_group_number entry.0) (is_plain entry.1) fits in
      ((and_parts (has_key entry.0 limits) (is_group_number entry.0) last.0).0, last.1)

  limit_fits : (entry : ℕ × QgroupLimit) → fits_quota parts (Limits entry.0 entry.1) ≡ true
      → (has_key entry.0 infos ≡ true) × (is_limit entry.1 ≡ true)
  limit_fits entry fits = and_parts (has_key entry.0 infos) (is_limit entry.1) fits

  infos_are : infos ≡ map info_entry groups
  infos_are =
      infos_back limits infos
      (weaker (λ (entry : ℕ × QgroupInfo). fits_quota parts (Info entry.0 entry.1) ≡ true)
      (λ (entry : ℕ × QgroupInfo). is_plain entry.1 ≡ true)
      (λ entry fits. (info_fits entry fits).1) infos (infos_pass (fits_quota parts) parts tests.1))

  keys_same : keys_of infos ≡ keys_of limits
  keys_same =
      same_numbers (keys_of infos) (keys_of limits) (infos-ascend parts up) (limits-ascend parts up)
      (λ n. same_tests (has_number n (keys_of infos)) (has_number n (keys_of limits))
      (λ has.
      let one = key_entry (λ (entry : ℕ × QgroupInfo). fits_quota parts (Info entry.0 entry.1) ≡ true) n infos
      (infos_pass (fits_quota parts) parts tests.1) has in
      key-found n limits ∙ (info_fits (n, one.0) one.1).0)
      (λ has.
      let one = key_entry (λ (entry : ℕ × QgroupLimit). fits_quota parts (Limits entry.0 entry.1) ≡ true) n limits
      (limits_pass (fits_quota parts) parts tests.1) has in
      key-found n infos ∙ (limit_fits (n, one.0) one.1).0))

  limits_are : limits ≡ map limit_entry groups
  limits_are =
      sym (limits_by limits infos ∙ ap (λ (keys : List ℕ). map (limit_at limits) keys) keys_same
      ∙ limits_back limits limits
      (recursion_from_All (λ (entry : ℕ × QgroupLimit). value_at entry.0 limits ≡ Some entry.1) limits
      (each-found limits (limits-ascend parts up)))
      (limits_pass is_known parts known)
      (weaker (λ (entry : ℕ × QgroupLimit). fits_quota parts (Limits entry.0 entry.1) ≡ true)
      (λ (entry : ℕ × QgroupLimit). is_limit entry.1 ≡ true)
      (λ entry fits. (limit_fits entry fits).1) limits (limits_pass (fits_quota parts) parts tests.1)))

  relation_fits : (a b : ℕ) → has_pair a b relations ≡ true
      → (has_pair b a relations ≡ true) × ((level_of_group a == level_of_group b) ≡ false)
  relation_fits a b has =
      let fits = relation_passes (fits_quota parts) parts a b tests.1 has in
      let last = and_parts (has_twin parts a b && has_key a infos) (not (level_of_group a == level_of_group b)) fits in
      let twin = (and_parts (has_twin parts a b) (has_key a infos) last.0).0 in
      (sym (twin_is a b parts ∙ twins a b parts) ∙ twin, not-true (level_of_group a == level_of_group b) last.1)

  pair_found : (a b : ℕ) → has_pair a b pairs ≡ (rises (a, b) && has_pair a b relations)
  pair_found a b =
      ap (λ (list : List (ℕ × ℕ)). has_pair a b list) (sym (pairs-told parts))
      ∙ any-filter_same (same_pair (a, b)) rises (rises (a, b))
      (λ pair same. ap (λ (p : ℕ × ℕ). rises p) (sym (pair_is (a, b) pair same))) relations

  pair_there : (a b : ℕ) → rises (a, b) ≡ true → has_pair a b relations ≡ true → has_pair a b pairs ≡ true
  pair_there a b first has = pair_found a b ∙ and_from (rises (a, b)) (has_pair a b relations) first has

  pair_has : (a b : ℕ) → has_pair a b pairs ≡ true → has_pair a b relations ≡ true
  pair_has a b has = (and_parts (rises (a, b)) (has_pair a b relations) (sym (pair_found a b) ∙ has)).1

  relation_there : (a b : ℕ) → has_pair a b relations ≡ true → has_pair a b (both_ways pairs) ≡ true
  relation_there a b has =
      let fits = relation_fits a b has in
      both-has a b pairs
      ∙ elim (cases_Bool (rises (a, b))) [
        | inl first ↦ or_right (has_pair b a pairs) (has_pair a b pairs) (pair_there a b first has)
        | inr later ↦
            let le : level_of_group b ≤ level_of_group a = ltb-false (level_of_group a) (level_of_group b) later in
            let apart : level_of_group a ≡ level_of_group b
            → ⊥ = eqb-false (level_of_group a) (level_of_group b) fits.1 in
            let less : level_of_group b < level_of_group a = elim (cases_eq (level_of_group a) (level_of_group b)) [
              | inl same ↦ absurd (apart same)
              | inr other ↦ omega (arith, le, other)
            ] in
            or_left (has_pair b a pairs) (has_pair a b pairs)
            (pair_there b a (lt-ltb (level_of_group b) (level_of_group a) less) fits.0)
      ]

  relation_back : (a b : ℕ) → has_pair a b (both_ways pairs) ≡ true → has_pair a b relations ≡ true
  relation_back a b has = elim (or_cases (has_pair b a pairs) (has_pair a b pairs) (sym (both-has a b pairs) ∙ has)) [
    | inl turned ↦ (relation_fits b a (pair_has b a turned)).0
    | inr own ↦ pair_has a b own
  ]

  relations_are : relations ≡ both_ways pairs
  relations_are =
      same-pairs relations (both_ways pairs) (relations-ascend parts up) (both-sorted pairs)
      (λ a b. same_tests (has_pair a b relations) (has_pair a b (both_ways pairs)) (relation_there a b)
      (relation_back a b))

  -- the parts are those of the quota that they tell
  pub parts-are : parts
      ≡ laid (status_at generation ∷ []) (map info_entry groups) (map limit_entry groups) (both_ways pairs)
  parts-are =
      whole parts up ∙ ap (λ (s : List QgroupStatus). laid s infos limits relations) statuses
      ∙ ap (λ (i : List (ℕ × QgroupInfo)). laid (status_at generation ∷ []) i limits relations) infos_are
      ∙ ap (λ (l : List (ℕ × QgroupLimit)). laid (status_at generation ∷ []) (map info_entry groups) l relations)
      limits_are
      ∙ ap (λ (r : List (ℕ × ℕ)). laid (status_at generation ∷ []) (map info_entry groups) (map limit_entry groups) r)
      relations_are

-- ---- items

infos_made : (groups : List (ℕ × Group))
    → map item_of_part (map (λ entry. Info entry.0 entry.1) (map info_entry groups)) ≡ map item_of_info groups
infos_made [] = refl
infos_made (entry ∷ groups) = ap (λ (list : List Item). item_of_info entry ∷ list) (infos_made groups)

limits_made : (groups : List (ℕ × Group))
    → map item_of_part (map (λ entry. Limits entry.0 entry.1) (map limit_entry groups)) ≡ map item_of_limit groups
limits_made [] = refl
limits_made (entry ∷ groups) = ap (λ (list : List Item). item_of_limit entry ∷ list) (limits_made groups)

relations_made : (pairs : List (ℕ × ℕ)) → map item_of_part (map relation_part pairs) ≡ map item_of_relation pairs
relations_made [] = refl
relations_made (pair ∷ pairs) = ap (λ (list : List Item). item_of_relation pair ∷ list) (relations_made pairs)

items_made : (status : QgroupStatus) (groups : List (ℕ × Group)) (pairs : List (ℕ × ℕ))
    → map item_of_part (laid (status ∷ []) (map info_entry groups) (map limit_entry groups) (both_ways pairs))
    ≡ items_of_quota status (record { groups = groups; pairs = pairs })
items_made status groups pairs =
    let infos = map (λ (entry : ℕ × QgroupInfo). Info entry.0 entry.1) (map info_entry groups) in
    let limits = map (λ (entry : ℕ × QgroupLimit). Limits entry.0 entry.1) (map limit_entry groups) in
    let relations = map relation_part (both_ways pairs) in
    ap (λ (list : List Item). item_of_status status ∷ list)
    (map-append item_of_part (infos ++ limits) relations
    ∙ ap (λ (list : List Item). list ++ map item_of_part relations) (map-append item_of_part infos limits)
    ∙ ap (λ (list : List Item). list ++ map item_of_part limits ++ map item_of_part relations) (infos_made groups)
    ∙ ap (λ (list : List Item). map item_of_info groups ++ list ++ map item_of_part relations) (limits_made groups)
    ∙ ap (λ (list : List Item). map item_of_info groups ++ map item_of_limit groups ++ list)
    (relations_made (both_ways pairs)))

-- items that are allowed, ascend and fit each other are those of the quota that they tell
pub items-back : (generation : ℕ) (live : List ℕ) (items : List Item) → All ItemFits items
    → IsTrue (is_ascending (map (λ (item : Item). item.key) items))
    → list_all (is_item_of Quotas generation) items ≡ true → is_quota live (filter_map quota_part items) ≡ true
    → items ≡ items_of_quota (status_at generation) (quota_told (filter_map quota_part items))
unfolding quota_told
items-back generation live items fit up allowed sound =
    let parts = filter_map quota_part items in
    let keys = keys-sorted (map quota_key parts) (said-ascending generation items allowed up) in
    items-said generation items allowed fit
    ∙ ap (map item_of_part) (parts-are generation live parts keys (said-passes generation items allowed)
    (said-known generation items allowed) sound)
    ∙ items_made (status_at generation) (map (group_with (filter_map limit_told parts)) (filter_map info_told parts))
    (filter_map pair_told parts)

-- ---- the rules on items

-- the first rule that is broken, by three tests
abbrev rule_by : Bool → Bool → Bool → Option Rule
rule_by allowed sound few =
    if allowed then (if sound then (if few then None else Some rule.Limits) else Some rule.Quota) else Some rule.Item

none_broken : (allowed sound few : Bool) → rule_by allowed sound few ≡ None → (allowed ≡ true) × (sound ≡ true)
none_broken true true few none = (refl, refl)
none_broken true false few none = absurd cc
none_broken false sound few none = absurd cc

pub items-sound : (generation : ℕ) (live : List ℕ) (items : List Item) → items_rule generation live items ≡ None
    → (list_all (is_item_of Quotas generation) items ≡ true) × (is_quota live (filter_map quota_part items) ≡ true)
items-sound generation live items none =
    none_broken (list_all (is_item_of Quotas generation) items) (is_quota live (filter_map quota_part items))
    (are_few (filter_map quota_part items)) none

pub items-written : (generation : ℕ) (live : List ℕ) (items : List Item) → All ItemFits items
    → IsTrue (is_ascending (map (λ (item : Item). item.key) items))
    → items_rule generation live items ≡ None
    → items ≡ items_of_quota (status_at generation) (quota_told (filter_map quota_part items))
items-written generation live items fit up none =
    let so = items-sound generation live items none in
    items-back generation live items fit up so.0 so.1
