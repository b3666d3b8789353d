-- What is written of quota is read as that quota, and breaks no rule.
use Rattle.std.proofs.Common.{◌≡◌, ℕ, ◌≤◌, ◌<◌, inl, inr, Bool, true, false, List, [], ◌∷◌, ◌++◌, map, refl, sym, ap}
use Rattle.std.proofs.Common.{◌∙◌, arith}
use Rattle.std.specs.Prelude.{Option, Some, None, ◌==◌, ◌&&◌, ◌||◌}
use Rattle.std.specs.List.{filter, filter_map}
use Rattle.std.proofs.lemmas.Bool.{and_from, and_parts, eq-eqb, lt-ltb, ltb-true, or_cases, or_right}
use Rattle.std.proofs.lemmas.Bool.Decides.{nat_tests}
use Rattle.std.proofs.lemmas.List.{append-nil}
use Rattle.std.proofs.lemmas.List.Elements.{filter_map-append}
use Rattle.std.proofs.lemmas.List.Kept.{IsStrictlySortedBy-filter}
use Rattle.std.proofs.lemmas.Map.Views.{any-filter_same}
use Rattle.qg_items.specs.declared.quota.QgroupInfo.{QgroupInfo}
use Rattle.qg_items.specs.declared.quota.QgroupLimit.{QgroupLimit}
use Rattle.qg_image.specs.declared.part.QuotaPart.{QuotaPart}
use Rattle.qg_image.specs.declared.quota.Group.{Group}
use Rattle.qg_image.specs.declared.quota.Quota.{Quota}
use Rattle.qg_image.specs.Members.{hierarchy_of, level_of_group}
use Rattle.qg_machine.specs.GroupChange.{has_pair, same_pair}
use Rattle.qg_qgroups.specs.Groups.{IsSound, pair_cmp}
use Rattle.qg_qgroups.proofs.Lists.{same_tests}
use Rattle.qg_qgroups.proofs.Sets.{pair_is}
use Rattle.qg_image.specs.ImageState.{group_told, info_told, limit_told, max_excl_told, max_rfer_told, pair_told}
use Rattle.qg_image.specs.ImageState.{quota_told}
use Rattle.qg_quota.specs.QuotaKinds.{relation_told, rises}
use Rattle.qg_quota.specs.Written.{both_ways, info_of, info_part, limit_of, limit_part, parts_of_quota, relation_part}
use Rattle.qg_quota.proofs.BothWays.{both-has, both-sorted}
use Rattle.qg_quota.proofs.Rising.{Above, Rises, Rises-sorted}
use Rattle.qg_quota.proofs.Same.{same-pairs}
use Rattle.qg_quota.proofs.ToldBack.{group_with, pairs-told}

-- ---- limits

rfer_told : (max_rfer max_excl : Option ℕ) → max_rfer_told (limit_of max_rfer max_excl) ≡ max_rfer
rfer_told None None = refl
rfer_told None (Some most) = refl
rfer_told (Some most) None = refl
rfer_told (Some most) (Some own) = refl

excl_told : (max_rfer max_excl : Option ℕ) → max_excl_told (limit_of max_rfer max_excl) ≡ max_excl
excl_told None None = refl
excl_told None (Some most) = refl
excl_told (Some most) None = refl
excl_told (Some most) (Some own) = refl

-- the group is told by its counters and its limits
same_group : (entry : ℕ × Group)
    → group_told (info_of entry.1.stamp entry.1.counters) (Some (limit_of entry.1.max_rfer entry.1.max_excl)) ≡ entry.1
same_group entry = rw (rfer_told entry.1.max_rfer entry.1.max_excl, excl_told entry.1.max_rfer entry.1.max_excl) refl

-- ---- each kind

abbrev pub info_entry : ℕ × Group → ℕ × QgroupInfo
info_entry entry = (entry.0, info_of entry.1.stamp entry.1.counters)

abbrev pub limit_entry : ℕ × Group → ℕ × QgroupLimit
limit_entry entry = (entry.0, limit_of entry.1.max_rfer entry.1.max_excl)

infos_of_infos : (groups : List (ℕ × Group)) → filter_map info_told (map info_part groups) ≡ map info_entry groups
infos_of_infos [] = refl
infos_of_infos (entry ∷ groups) = ap (λ (list : List (ℕ × QgroupInfo)). info_entry entry ∷ list) (infos_of_infos groups)

infos_of_limits : (groups : List (ℕ × Group)) → filter_map info_told (map limit_part groups) ≡ []
infos_of_limits [] = refl
infos_of_limits (entry ∷ groups) = infos_of_limits groups

infos_of_relations : (pairs : List (ℕ × ℕ)) → filter_map info_told (map relation_part pairs) ≡ []
infos_of_relations [] = refl
infos_of_relations (pair ∷ pairs) = infos_of_relations pairs

limits_of_infos : (groups : List (ℕ × Group)) → filter_map limit_told (map info_part groups) ≡ []
limits_of_infos [] = refl
limits_of_infos (entry ∷ groups) = limits_of_infos groups

limits_of_limits : (groups : List (ℕ × Group)) → filter_map limit_told (map limit_part groups) ≡ map limit_entry groups
limits_of_limits [] = refl
limits_of_limits (entry ∷ groups) = ap (λ (list : List (ℕ × QgroupLimit)). limit_entry entry ∷ list)
    (limits_of_limits groups)

limits_of_relations : (pairs : List (ℕ × ℕ)) → filter_map limit_told (map relation_part pairs) ≡ []
limits_of_relations [] = refl
limits_of_relations (pair ∷ pairs) = limits_of_relations pairs

relations_of_infos : (groups : List (ℕ × Group)) → filter_map relation_told (map info_part groups) ≡ []
relations_of_infos [] = refl
relations_of_infos (entry ∷ groups) = relations_of_infos groups

relations_of_limits : (groups : List (ℕ × Group)) → filter_map relation_told (map limit_part groups) ≡ []
relations_of_limits [] = refl
relations_of_limits (entry ∷ groups) = relations_of_limits groups

relations_of_relations : (pairs : List (ℕ × ℕ)) → filter_map relation_told (map relation_part pairs) ≡ pairs
relations_of_relations [] = refl
relations_of_relations (pair ∷ pairs) = ap (λ (list : List (ℕ × ℕ)). pair ∷ list) (relations_of_relations pairs)

module _ (generation : ℕ) (quota : Quota) where
  abbrev infos : List QuotaPart
  infos = map info_part quota.groups

  abbrev limits : List QuotaPart
  limits = map limit_part quota.groups

  abbrev relations : List QuotaPart
  relations = map relation_part (both_ways quota.pairs)

  pub infos-told : filter_map info_told (parts_of_quota generation quota) ≡ map info_entry quota.groups
  infos-told =
      let all = filter_map-append info_told (infos ++ limits) relations in
      let front = filter_map-append info_told infos limits in
      rw (
        all,
        front,
        infos_of_infos quota.groups,
        infos_of_limits quota.groups,
        infos_of_relations
            (both_ways quota.pairs),
      )
      (append-nil (map info_entry quota.groups ++ []) ∙ append-nil (map info_entry quota.groups))

  pub limits-told : filter_map limit_told (parts_of_quota generation quota) ≡ map limit_entry quota.groups
  limits-told =
      let all = filter_map-append limit_told (infos ++ limits) relations in
      let front = filter_map-append limit_told infos limits in
      rw (
        all,
        front,
        limits_of_infos quota.groups,
        limits_of_limits quota.groups,
        limits_of_relations
            (both_ways quota.pairs),
      )
      (append-nil (map limit_entry quota.groups))

  pub relations-told : filter_map relation_told (parts_of_quota generation quota) ≡ both_ways quota.pairs
  relations-told =
      let all = filter_map-append relation_told (infos ++ limits) relations in
      let front = filter_map-append relation_told infos limits in
      rw (
        all,
        front,
        relations_of_infos quota.groups,
        relations_of_limits quota.groups,
        relations_of_relations
            (both_ways quota.pairs),
      ) refl

-- ---- groups

-- a limit of a lesser number is passed over
passed_over : (first : ℕ × Group) (limits : List (ℕ × QgroupLimit)) (n : ℕ) (groups : List (ℕ × Group)) → first.0 ≤ n
    → Above n groups
    → map (group_with (limit_entry first ∷ limits)) (map info_entry groups)
    ≡ map (group_with limits) (map info_entry groups)
passed_over first limits n [] low above = refl
passed_over first limits n (entry ∷ groups) low above =
    let below : n < entry.0 = above.0 in
    let differs : (first.0 == entry.0) ≡ false = grind (arith, nat_tests) in
    let lower : first.0 ≤ entry.0 = omega arith in
    rw (differs, passed_over first limits entry.0 groups lower above.1) refl

rises_behind : (n : ℕ) (groups : List (ℕ × Group)) → Above n groups → Rises groups
rises_behind n [] above = tt
rises_behind n (entry ∷ groups) above = above.1

groups_back : (groups : List (ℕ × Group)) → Rises groups
    → map (group_with (map limit_entry groups)) (map info_entry groups) ≡ groups
groups_back [] rises = refl
groups_back (entry ∷ groups) rises =
    let itself : entry.0 ≤ entry.0 = omega arith in
    let later = passed_over entry (map limit_entry groups) entry.0 groups itself rises in
    rw (eq-eqb entry.0 entry.0 refl, same_group entry, later, groups_back groups (rises_behind entry.0 groups rises))
    refl

-- ---- relations

-- of the relations both ways those whose member comes first are the relations
pub pairs-back : (quota : Quota) → IsSound (hierarchy_of quota) → filter rises (both_ways quota.pairs) ≡ quota.pairs
pairs-back quota sound =
    same-pairs (filter rises (both_ways quota.pairs)) quota.pairs
    (IsStrictlySortedBy-filter pair_cmp rises (both_ways quota.pairs) (both-sorted quota.pairs)) sound.pairs
    (λ a b. found a b ∙ same_tests (rises (a, b) && (has_pair b a quota.pairs || has_pair a b quota.pairs))
    (has_pair a b quota.pairs) (there a b) (back a b)) where
      found : (a b : ℕ)
          → has_pair a b (filter rises (both_ways quota.pairs))
          ≡ (rises (a, b) && (has_pair b a quota.pairs || has_pair a b quota.pairs))
      found a b =
          any-filter_same (same_pair (a, b)) rises (rises (a, b))
          (λ pair same. ap (λ (p : ℕ × ℕ). rises p) (sym (pair_is (a, b) pair same))) (both_ways quota.pairs)
          ∙ ap (λ (h : Bool). rises (a, b) && h) (both-has a b quota.pairs)

      there : (a b : ℕ) → (rises (a, b) && (has_pair b a quota.pairs || has_pair a b quota.pairs)) ≡ true
          → has_pair a b quota.pairs ≡ true
      there a b has =
          let both = and_parts (rises (a, b)) (has_pair b a quota.pairs || has_pair a b quota.pairs) has in
          let up : level_of_group a < level_of_group b = ltb-true (level_of_group a) (level_of_group b) both.0 in
          elim (or_cases (has_pair b a quota.pairs) (has_pair a b quota.pairs) both.1) [
            | inl turned ↦ absurd (omega (arith, up, sound.rising b a turned))
            | inr own ↦ own
          ]

      back : (a b : ℕ) → has_pair a b quota.pairs ≡ true
          → (rises (a, b) && (has_pair b a quota.pairs || has_pair a b quota.pairs)) ≡ true
      back a b has =
          and_from (rises (a, b)) (has_pair b a quota.pairs || has_pair a b quota.pairs)
          (lt-ltb (level_of_group a) (level_of_group b) (sound.rising a b has))
          (or_right (has_pair b a quota.pairs) (has_pair a b quota.pairs) has)

-- ---- quota

same_quota : (quota : Quota) (groups : List (ℕ × Group)) (pairs : List (ℕ × ℕ)) → groups ≡ quota.groups
    → pairs ≡ quota.pairs
    → record { groups = groups; pairs = pairs } ≡ quota
same_quota quota groups pairs g p = λ i. record { groups = g i; pairs = p i }

module _ (generation : ℕ) (quota : Quota) (sound : IsSound (hierarchy_of quota)) where
  abbrev parts : List QuotaPart
  parts = parts_of_quota generation quota

  groups_are : map (group_with (filter_map limit_told parts)) (filter_map info_told parts) ≡ quota.groups
  groups_are =
      ap (λ (limits : List (ℕ × QgroupLimit)). map (group_with limits) (filter_map info_told parts))
      (limits-told generation quota)
      ∙ ap (λ (infos : List (ℕ × QgroupInfo)). map (group_with (map limit_entry quota.groups)) infos)
      (infos-told generation quota)
      ∙ groups_back quota.groups (Rises-sorted quota.groups sound.groups)

  pairs_are : filter_map pair_told parts ≡ quota.pairs
  pairs_are =
      sym (pairs-told parts) ∙ ap (λ (list : List (ℕ × ℕ)). filter rises list) (relations-told generation quota)
      ∙ pairs-back quota sound

  pub quota-back : quota_told (parts_of_quota generation quota) ≡ quota
  unfolding quota_told
  quota-back =
      same_quota quota (map (group_with (filter_map limit_told parts)) (filter_map info_told parts))
      (filter_map pair_told parts) groups_are pairs_are
