-- The items of quota that serves the live subvolumes break no rule.
use Rattle.std.proofs.Common.{◌≡◌, ℕ, ◌*◌, inl, inr, Bool, true, false, not, List, [], ◌∷◌, ◌++◌, get_or, map, length}
use Rattle.std.proofs.Common.{refl, sym, ap, ◌∙◌, arith}
use Rattle.std.specs.Prelude.{Option, Some, None, is_some, ◌==◌, ◌&&◌, nat_le}
use Rattle.std.specs.List.{All, AllByRecursion, count_by, filter_map, list_all}
use Rattle.std.proofs.lemmas.Bool.{and_from, cases_Bool, eq-eqb, le-leb, ne_eqb, or_cases, or_left, or_right}
use Rattle.std.proofs.lemmas.List.{get_or_default, length-map}
use Rattle.std.proofs.lemmas.List.Elements.{recursion_from_All}
use Rattle.std.proofs.lemmas.List.Folds.{list_all-append}
use Rattle.qg_items.specs.declared.quota.QgroupInfo.{QgroupInfo}
use Rattle.qg_items.specs.declared.quota.QgroupLimit.{QgroupLimit}
use Rattle.qg_image.specs.Table.{has_key}
use Rattle.qg_image.specs.declared.part.QuotaPart.{QuotaPart}
use Rattle.qg_image.specs.declared.part.QuotaPart.TheVariants.{Relation}
use Rattle.qg_image.specs.declared.quota.Group.{Group}
use Rattle.qg_image.specs.declared.quota.Quota.{Quota}
use Rattle.qg_image.specs.Members.{hierarchy_of, level_of_group}
use Rattle.qg_machine.specs.GroupChange.{has_pair}
use Rattle.qg_qgroups.specs.Groups.{IsSound, is_kept}
use Rattle.qg_qgroups.proofs.RelatedPairs.{pair-there}
use Rattle.qg_qgroups.proofs.Tables.{each-found, key-found}
use Rattle.qg_image.specs.ImageState.{info_told, limit_told}
use Rattle.qg_image.specs.Verdict.{are_few, fits_quota, has_twin, is_group_number, is_limit, is_plain, is_quota}
use Rattle.qg_image.specs.Verdict.{is_relation_part, most_groups, most_relations}
use Rattle.qg_quota.specs.Laws.{IsServedFor}
use Rattle.qg_quota.specs.Quota.{quota_rule}
use Rattle.qg_quota.specs.Written.{both_ways, info_of, info_part, limit_of, limit_part, parts_of_quota, relation_part}
use Rattle.qg_quota.proofs.BothWays.{both-has, both-length}
use Rattle.qg_quota.proofs.ReadBack.{info_entry, infos-told, limit_entry, limits-told, relations-told}
use Rattle.qg_quota.proofs.ToldBack.{relations-counted, twin_is, twins}

mapped_all : {X Y : Type 0} (test : Y → Bool) (f : X → Y) (xs : List X) → AllByRecursion (λ x. test (f x) ≡ true) xs
    → list_all test (map f xs) ≡ true
mapped_all test f [] all = refl
mapped_all test f (x ∷ xs) all = and_from (test (f x)) (list_all test (map f xs)) all.0 (mapped_all test f xs all.1)

each_all : {X : Type 0} (test : X → Bool) (xs : List X) → AllByRecursion (λ x. test x ≡ true) xs
    → list_all test xs ≡ true
each_all test [] all = refl
each_all test (x ∷ xs) all = and_from (test x) (list_all test xs) all.0 (each_all test xs all.1)

infos_have : (n : ℕ) (groups : List (ℕ × Group)) → has_key n (map info_entry groups) ≡ has_key n groups
infos_have n [] = refl
infos_have n (entry ∷ groups) = elim (cases_Bool (entry.0 == n)) [
  | inl same ↦ rw same refl
  | inr other ↦ rw other (infos_have n groups)
]

limits_have : (n : ℕ) (groups : List (ℕ × Group)) → has_key n (map limit_entry groups) ≡ has_key n groups
limits_have n [] = refl
limits_have n (entry ∷ groups) = elim (cases_Bool (entry.0 == n)) [
  | inl same ↦ rw same refl
  | inr other ↦ rw other (limits_have n groups)
]

limits_sound : (max_rfer max_excl : Option ℕ) → is_limit (limit_of max_rfer max_excl) ≡ true
limits_sound None None = refl
limits_sound None (Some most) = refl
limits_sound (Some most) None = refl
limits_sound (Some most) (Some own) = refl

module _ (generation : ℕ) (live : List ℕ) (quota : Quota) (sound : IsSound (hierarchy_of quota))
    (served : IsServedFor live quota) where
  abbrev groups : List (ℕ × Group)
  groups = quota.groups

  abbrev related : List (ℕ × ℕ)
  related = both_ways quota.pairs

  abbrev parts : List QuotaPart
  parts = parts_of_quota generation quota

  abbrev infos : List QuotaPart
  infos = map info_part groups

  abbrev limits : List QuotaPart
  limits = map limit_part groups

  abbrev relations : List QuotaPart
  relations = map relation_part related

  info_there : (n : ℕ) → has_key n groups ≡ true → has_key n (filter_map info_told parts) ≡ true
  info_there n has = ap (λ (list : List (ℕ × QgroupInfo)). has_key n list) (infos-told generation quota)
      ∙ infos_have n groups ∙ has

  limit_there : (n : ℕ) → has_key n groups ≡ true → has_key n (filter_map limit_told parts) ≡ true
  limit_there n has = ap (λ (list : List (ℕ × QgroupLimit)). has_key n list) (limits-told generation quota)
      ∙ limits_have n groups ∙ has

  own : All (λ entry. has_key entry.0 groups ≡ true) groups
  own k d inside = ap (λ (o : Option Group). is_some o) (each-found groups sound.groups k d inside)

  info_fits : All (λ entry. fits_quota parts (info_part entry) ≡ true) groups
  info_fits k d inside =
      let entry = get_or groups k d in
      let counters = entry.1.counters in
      let plain : is_plain (info_of entry.1.stamp counters) ≡ true =
      and_from (counters.rfer == counters.rfer) (counters.excl == counters.excl)
      (eq-eqb counters.rfer counters.rfer refl) (eq-eqb counters.excl counters.excl refl) in
      and_from (has_key entry.0 (filter_map limit_told parts) && is_group_number entry.0)
      (is_plain (info_of entry.1.stamp counters))
      (and_from (has_key entry.0 (filter_map limit_told parts)) (is_group_number entry.0)
      (limit_there entry.0 (own k d inside)) (served.numbers k d inside)) plain

  limit_fits : All (λ entry. fits_quota parts (limit_part entry) ≡ true) groups
  limit_fits k d inside =
      let entry = get_or groups k d in
      and_from (has_key entry.0 (filter_map info_told parts)) (is_limit (limit_of entry.1.max_rfer entry.1.max_excl))
      (info_there entry.0 (own k d inside)) (limits_sound entry.1.max_rfer entry.1.max_excl)

  twinned : (a b : ℕ) → has_pair b a related ≡ true → has_twin parts a b ≡ true
  twinned a b has = twin_is a b parts ∙ twins a b parts
      ∙ ap (λ (list : List (ℕ × ℕ)). has_pair b a list) (relations-told generation quota) ∙ has

  kept : (n : ℕ) → is_kept (hierarchy_of quota) n ≡ true → has_key n (filter_map info_told parts) ≡ true
  kept n has = info_there n (sym (key-found n groups) ∙ has)

  one_fits : (a b : ℕ) → has_pair a b related ≡ true → fits_quota parts (Relation a b) ≡ true
  one_fits a b has = elim (or_cases (has_pair b a quota.pairs) (has_pair a b quota.pairs)
      (sym (both-has a b quota.pairs) ∙ has)) [
        | inl turned ↦
            let low = sound.rising b a turned in
            let twin = twinned a b (both-has b a quota.pairs
            ∙ or_right (has_pair a b quota.pairs) (has_pair b a quota.pairs) turned) in
            all_of a b twin (kept a (sound.parents b a turned))
            (ne_eqb (level_of_group a) (level_of_group b) (λ same. omega (arith, same, low)))
        | inr straight ↦
            let low = sound.rising a b straight in
            let twin = twinned a b (both-has b a quota.pairs
            ∙ or_left (has_pair a b quota.pairs) (has_pair b a quota.pairs) straight) in
            all_of a b twin (kept a (sound.members a b straight))
            (ne_eqb (level_of_group a) (level_of_group b) (λ same. omega (arith, same, low)))
      ] where
        all_of : (a b : ℕ) → has_twin parts a b ≡ true → has_key a (filter_map info_told parts) ≡ true
            → (level_of_group a == level_of_group b) ≡ false
            → fits_quota parts (Relation a b) ≡ true
        all_of a b twin there apart =
            and_from (has_twin parts a b && has_key a (filter_map info_told parts))
            (not (level_of_group a == level_of_group b))
            (and_from (has_twin parts a b) (has_key a (filter_map info_told parts)) twin there) (ap not apart)

  relation_fits : All (λ pair. fits_quota parts (relation_part pair) ≡ true) related
  relation_fits k d inside =
      let pair = get_or related k d in
      one_fits pair.0 pair.1 (pair-there related k pair inside (get_or_default related k d pair inside))

  all_fit : list_all (fits_quota parts) parts ≡ true
  all_fit =
      let counters = mapped_all (fits_quota parts) info_part groups
      (recursion_from_All (λ (entry : ℕ × Group). fits_quota parts (info_part entry) ≡ true) groups info_fits) in
      let maxima = mapped_all (fits_quota parts) limit_part groups
      (recursion_from_All (λ (entry : ℕ × Group). fits_quota parts (limit_part entry) ≡ true) groups limit_fits) in
      let pairs = mapped_all (fits_quota parts) relation_part related
      (recursion_from_All (λ (pair : ℕ × ℕ). fits_quota parts (relation_part pair) ≡ true) related relation_fits) in
      list_all-append (fits_quota parts) (infos ++ limits) relations
      ∙ and_from (list_all (fits_quota parts) (infos ++ limits)) (list_all (fits_quota parts) relations)
      (list_all-append (fits_quota parts) infos limits
      ∙ and_from (list_all (fits_quota parts) infos) (list_all (fits_quota parts) limits) counters maxima) pairs

  all_own : list_all (λ sub. has_key sub (filter_map info_told parts)) live ≡ true
  all_own =
      each_all (λ sub. has_key sub (filter_map info_told parts)) live
      (recursion_from_All (λ (sub : ℕ). has_key sub (filter_map info_told parts) ≡ true) live
      (λ k d inside. info_there (get_or live k d) (served.own k d inside)))

  keeps : is_quota live parts ≡ true
  unfolding is_quota
  keeps = and_from (list_all (fits_quota parts) parts) (list_all (λ sub. has_key sub (filter_map info_told parts)) live)
      all_fit all_own

  few : are_few parts ≡ true
  unfolding are_few
  few =
      let many : length (filter_map info_told parts) ≡ length groups =
      ap (λ (list : List (ℕ × QgroupInfo)). length list) (infos-told generation quota) ∙ length-map groups info_entry in
      let twice : count_by is_relation_part parts ≡ 2 * length quota.pairs =
      relations-counted parts ∙ ap (λ (list : List (ℕ × ℕ)). length list) (relations-told generation quota)
      ∙ both-length quota.pairs sound.pairs sound.rising in
      and_from (nat_le (length (filter_map info_told parts)) most_groups)
      (nat_le (count_by is_relation_part parts) (2 * most_relations))
      (le-leb (length (filter_map info_told parts)) most_groups (omega (arith, many, served.groups)))
      (le-leb (count_by is_relation_part parts) (2 * most_relations) (omega (arith, twice, served.relations)))

  pub quota-taken : quota_rule live parts ≡ None
  quota-taken = rw (keeps, few) refl
