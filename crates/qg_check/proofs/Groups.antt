-- The groups of a quota tree whose rules are kept.
use Rattle.std.proofs.Common.{◌≡◌, ℕ, ◌≤◌, ◌<◌, ◌/◌, Bool, true, false, cond, List, [], ◌∷◌, map, length, get_or, refl}
use Rattle.std.proofs.Common.{sym, ap, subst, ◌∙◌, inl, inr, arith}
use Rattle.std.specs.Prelude.{◌&&◌, ◌==◌, Option, Some, None, IsTrue, is_some, nat_le, nat_lt}
use Rattle.std.specs.List.{AllByRecursion, count_by, filter_map, list_all, list_any}
use Rattle.std.proofs.lemmas.Bool.{and_parts, eqb-true, leb-true, ltb-true, or_cases}
use Rattle.std.proofs.lemmas.List.{length-map}
use Rattle.std.proofs.lemmas.List.Elements.{All-from_recursion}
use Rattle.std.proofs.lemmas.List.Sums.{AllPass-from_list_all}
use Rattle.qg_num.specs.declared.rule.Rule.{Rule}
use Rattle.qg_num.specs.declared.rule.Rule.TheVariants as rule
use Rattle.qg_node.specs.Nodes.{is_ascending}
use Rattle.qg_items.specs.declared.quota.QgroupInfo.{QgroupInfo}
use Rattle.qg_image.specs.Table.{has_key, keys_of, value_at}
use Rattle.qg_image.specs.declared.part.QuotaPart.{QuotaPart}
use Rattle.qg_image.specs.declared.part.QuotaPart.TheVariants.{Status, Info, Limits, Relation}
use Rattle.qg_image.specs.ItemMeaning.{is_subvolume_number, quota_part_stamps}
use Rattle.qg_image.specs.declared.quota.Group.{Group}
use Rattle.qg_image.specs.declared.quota.Quota.{Quota}
use Rattle.qg_image.specs.Members.{hierarchy_of, level_of_group}
use Rattle.qg_image.specs.ImageState.{group_told, info_told, limit_told, pair_told, quota_told}
use Rattle.qg_image.specs.Verdict.{are_few, fits_quota, is_group_number, is_plain, is_quota, is_relation_part}
use Rattle.qg_image.specs.Verdict.{is_status_part}
use Rattle.qg_image.specs.Walk.{are_by, tells_generation}
use Rattle.qg_image.specs.declared.failure.Failure.TheVariants.{Broken}
use Rattle.qg_image.specs.Failure.{first_failure, unless}
use Rattle.qg_tree_items.specs.Keys.{quota_key}
use Rattle.qg_qgroups.specs.Groups.{IsSound}
use Rattle.qg_quota.specs.Quota.{quota_rule}
use Rattle.qg_check.specs.Editable.{AreGroups}
use Rattle.qg_backref_rule.proofs.NumberSets.{Ascends}
use Rattle.qg_check.proofs.Relations.{pairs_few}
use Rattle.qg_check.proofs.Rising.{groups_ascend, increases}

-- ---- the rules

-- no rule is broken where both are kept
pub record KeepsRules (subvolumes : List ℕ) (parts : List QuotaPart) : Type 0 where
  pub quota : is_quota subvolumes parts ≡ true
  pub few : are_few parts ≡ true

pub quota_rule_kept : (subvolumes : List ℕ) (parts : List QuotaPart) → quota_rule subvolumes parts ≡ None
    → KeepsRules subvolumes parts
quota_rule_kept subvolumes parts none = cases (is_quota subvolumes parts) (are_few parts) refl refl none where
  cases : (quota few : Bool) → is_quota subvolumes parts ≡ quota → are_few parts ≡ few
      → cond quota (cond few None (Some rule.Limits)) (Some rule.Quota) ≡ None → KeepsRules subvolumes parts
  cases true true q f h = record { quota = q; few = f }
  cases true false q f h = absurd cc
  cases false few q f h = absurd cc

-- and one that is broken is told
pub quota_rule_told : (subvolumes : List ℕ) (parts : List QuotaPart) (broken : Rule) (address : ℕ)
    → quota_rule subvolumes parts ≡ Some broken
    → first_failure (None ∷ unless (is_quota subvolumes parts) rule.Quota address
    ∷ unless (are_few parts) rule.Limits address ∷ []) ≡ Some (Broken broken address)
quota_rule_told subvolumes parts broken address told = cases (is_quota subvolumes parts) (are_few parts) told where
  cases : (quota few : Bool) → cond quota (cond few None (Some rule.Limits)) (Some rule.Quota) ≡ Some broken
      → first_failure (None ∷ unless quota rule.Quota address ∷ unless few rule.Limits address ∷ [])
      ≡ Some (Broken broken address)
  cases true true h = absurd cc
  cases true false h = let is : rule.Limits ≡ broken = cc in ap (λ (r : Rule). Some (Broken r address)) is
  cases false few h = let is : rule.Quota ≡ broken = cc in ap (λ (r : Rule). Some (Broken r address)) is

-- ---- groups by their items

-- no generation of these parts is past this one
abbrev pub quotas_are_by : ℕ → List QuotaPart → Bool
quotas_are_by generation parts =
    list_all (λ part. are_by generation (quota_part_stamps part) && tells_generation generation part) parts

by_parts : (generation : ℕ) (part : QuotaPart) (parts : List QuotaPart) → quotas_are_by generation (part ∷ parts) ≡ true
    → (are_by generation (quota_part_stamps part) ≡ true) × (quotas_are_by generation parts ≡ true)
by_parts generation part parts by =
    let split = and_parts (are_by generation (quota_part_stamps part) && tells_generation generation part)
    (quotas_are_by generation parts) by in
    ((and_parts (are_by generation (quota_part_stamps part)) (tells_generation generation part) split.0).0, split.1)

-- the group that counters tell, with the limits of its number
abbrev group_by : List QuotaPart → ℕ × QgroupInfo → ℕ × Group
group_by all entry = (entry.0, group_told entry.1 (value_at entry.0 (filter_map limit_told all)))

told_is : (parts : List QuotaPart)
    → quota_told parts ≡ record {
      groups = map (group_by parts) (filter_map info_told parts);
      pairs = filter_map pair_told parts;
    }
unfolding quota_told
told_is parts = refl

stamped : (generation : ℕ) (all parts : List QuotaPart) → quotas_are_by generation parts ≡ true
    → AllByRecursion (λ entry. entry.1.stamp ≤ generation) (map (group_by all) (filter_map info_told parts))
stamped generation all [] by = tt
stamped generation all (Status status ∷ parts) by =
    stamped generation all parts (by_parts generation (Status status) parts by).1
stamped generation all (Info group info ∷ parts) by =
    let split = by_parts generation (Info group info) parts by in (
      leb-true info.generation generation (and_parts (nat_le info.generation generation) true split.0).0,
      stamped
          generation all parts split.1,
    )
stamped generation all (Limits group limit ∷ parts) by =
    stamped generation all parts (by_parts generation (Limits group limit) parts by).1
stamped generation all (Relation group other ∷ parts) by =
    stamped generation all parts (by_parts generation (Relation group other) parts by).1

same_keys : (all : List QuotaPart) (infos : List (ℕ × QgroupInfo)) → keys_of (map (group_by all) infos) ≡ keys_of infos
same_keys all [] = refl
same_keys all (entry ∷ infos) = ap (λ (keys : List ℕ). entry.0 ∷ keys) (same_keys all infos)

-- whether there is a value is the same after both choices
both_some : (same : Bool) {A B : Type 0} (x : A) (y : B) (xs : Option A) (ys : Option B) → is_some xs ≡ is_some ys
    → is_some (cond same (Some x) xs) ≡ is_some (cond same (Some y) ys)
both_some true x y xs ys h = refl
both_some false x y xs ys h = h

same_has : (n : ℕ) (all : List QuotaPart) (infos : List (ℕ × QgroupInfo))
    → has_key n (map (group_by all) infos) ≡ has_key n infos
same_has n all [] = refl
same_has n all (entry ∷ infos) =
    both_some (entry.0 == n) (group_told entry.1 (value_at entry.0 (filter_map limit_told all))) entry.1
    (value_at n (map (group_by all) infos)) (value_at n infos) (same_has n all infos)

numbered : (all parts : List QuotaPart) → list_all (fits_quota all) parts ≡ true
    → AllByRecursion (λ entry. IsTrue (is_group_number entry.0)) (map (group_by all) (filter_map info_told parts))
numbered all [] fits = tt
numbered all (Status status ∷ parts) fits = numbered all parts fits
numbered all (Info group info ∷ parts) fits =
    let split = and_parts (fits_quota all (Info group info)) (list_all (fits_quota all) parts) fits in
    let there = has_key group (filter_map limit_told all) in
    let front = and_parts (there && is_group_number group) (is_plain info) split.0 in
    ((and_parts there (is_group_number group) front.0).1, numbered all parts split.1)
numbered all (Limits group limit ∷ parts) fits =
    numbered all parts (and_parts (fits_quota all (Limits group limit)) (list_all (fits_quota all) parts) fits).1
numbered all (Relation group other ∷ parts) fits =
    numbered all parts (and_parts (fits_quota all (Relation group other)) (list_all (fits_quota all) parts) fits).1

-- what is asked of the items
record AreAsked (subvolumes : List ℕ) (parts : List QuotaPart) : Type 0 where
  fit : list_all (fits_quota parts) parts ≡ true
  own : list_all (λ sub. has_key sub (filter_map info_told parts)) subvolumes ≡ true

asked : (subvolumes : List ℕ) (parts : List QuotaPart) → is_quota subvolumes parts ≡ true → AreAsked subvolumes parts
unfolding is_quota
asked subvolumes parts quota =
    let own = list_all (λ sub. has_key sub (filter_map info_told parts)) subvolumes in
    let split = and_parts (list_any is_status_part parts && list_all (fits_quota parts) parts) own quota in
    record {
      fit = (and_parts (list_any is_status_part parts) (list_all (fits_quota parts) parts) split.0).1;
      own = split.1;
    }

few_groups : (parts : List QuotaPart) → are_few parts ≡ true → length (filter_map info_told parts) ≤ 4096
unfolding are_few
few_groups parts few =
    leb-true (length (filter_map info_told parts)) 4096 (and_parts (nat_le (length (filter_map info_told parts)) 4096)
    (nat_le (count_by is_relation_part parts) 32768) few).0

-- the next commit can name the groups that a quota tree tells
pub groups_fit : (generation : ℕ) (subvolumes : List ℕ) (parts : List QuotaPart)
    → is_ascending (map quota_key parts) ≡ true
    → KeepsRules subvolumes parts → IsSound (hierarchy_of (quota_told parts)) → quotas_are_by generation parts ≡ true
    → AreGroups generation subvolumes (quota_told parts)
groups_fit generation subvolumes parts ascending keeps sound by =
    let infos = filter_map info_told parts in
    let groups = map (group_by parts) infos in
    let those = asked subvolumes parts keeps.quota in
    let own = AllPass-from_list_all (λ sub. has_key sub (filter_map info_told parts)) subvolumes those.own in
    let told = subst (λ (quota : Quota). IsSound (hierarchy_of quota)) (told_is parts) sound in
    let few : length (map (group_by parts) (filter_map info_told parts)) ≤ 4096 =
    omega (arith, length-map infos (group_by parts), few_groups parts keeps.few) in
    subst (AreGroups generation subvolumes) (sym (told_is parts)) (record {
      few = few;
      ascending = increases (keys_of groups)
          (subst Ascends (sym (same_keys parts infos)) (groups_ascend parts ascending));
      numbers = All-from_recursion (λ (entry : ℕ × Group). IsTrue (is_group_number entry.0)) groups
          (numbered parts parts those.fit);
      own = λ k d inside. same_has (get_or subvolumes k d) parts infos ∙ own k d inside;
      stamped = All-from_recursion (λ (entry : ℕ × Group). entry.1.stamp ≤ generation) groups
          (stamped generation parts parts by);
      few_pairs = pairs_few parts told.pairs those.fit keeps.few;
      sound = told;
    })

-- ---- the groups of subvolumes

small_level : (n : ℕ) → n < 281474976710656 → n / 281474976710656 ≡ 0
small_level n small = omega arith

-- the number of a subvolume is that of a group of level 0
pub lowest_number : (n : ℕ) → is_subvolume_number n ≡ true → level_of_group n ≡ 0
unfolding is_subvolume_number
lowest_number n number = elim (or_cases (n == 5) (nat_le 256 n && nat_lt n 281474976710656) number) [
  | inl is ↦ subst (λ m. level_of_group m ≡ 0) (sym (eqb-true n 5 is)) refl
  | inr free ↦ small_level n (ltb-true n 281474976710656 (and_parts (nat_le 256 n) (nat_lt n 281474976710656) free).1)
]
