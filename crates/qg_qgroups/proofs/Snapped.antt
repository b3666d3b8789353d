-- The groups that a snapshot's list names, and the group that is made for it.
use Rattle.std.proofs.Common.{◌≡◌, ℕ, ◌<◌, Bool, true, false, List, [], ◌∷◌, arith, length, Option, Some, None, refl}
use Rattle.std.proofs.Common.{sym, ap, ◌∙◌, inl, inr, nat_lt}
use Rattle.std.specs.Prelude.{◌||◌, ◌&&◌, ◌==◌, not, IsTrue}
use Rattle.std.specs.Bool.{then_some}
use Rattle.std.specs.List.{AllByRecursion, IsDistinct, list_any}
use Rattle.std.proofs.lemmas.Bool.{cases_Bool, eq-eqb, eqb-false, eqb-true, true≢false}
use Rattle.std.proofs.lemmas.List.Elements.{All-cons}
use Rattle.std.proofs.lemmas.Map.Keys.{IsDistinct-cons}
use Rattle.qg_num.specs.declared.refusal.Refusal.{Refusal}
use Rattle.qg_num.specs.declared.refusal.Refusal.TheVariants as why
use Rattle.qg_image.specs.ItemMeaning.{first_some}
use Rattle.qg_image.specs.Table.{has_key, keys_of}
use Rattle.qg_image.specs.declared.quota.Quota.{Quota}
use Rattle.qg_image.specs.Members.{hierarchy_of, level_of_group}
use Rattle.qg_image.specs.State.{State, is_quota_on}
use Rattle.qg_machine.specs.Refusals.{no_parents, refuse}
use Rattle.qg_qgroups.specs.declared.fault.HierFault.TheVariants as fault
use Rattle.qg_qgroups.specs.Faults.{create_fault}
use Rattle.qg_qgroups.specs.Groups.{has_number, is_kept}
use Rattle.qg_qgroups.specs.Changing.{is_missing, AreParents}
use Rattle.qg_qgroups.specs.OnOrOff.{parents_refusal, snap_refusal}
use Rattle.qg_qgroups.proofs.Refused.{none-of, refused-not}
use Rattle.qg_qgroups.proofs.Tables.{key-found}

-- ---- as the machine refuses them

module _ (state : State) where
  told : (quota : Option Quota) (earlier parents : List ℕ) → no_parents (record state { quota = quota }) earlier parents
      ≡ parents_refusal quota earlier parents
  told None earlier [] = refl
  told (Some quota) earlier [] = refl
  told None earlier (group ∷ parents) =
      ap (λ (rest : Option Refusal). first_some
      (refuse (not (not (level_of_group group == 0))) why.Level ∷ is_missing None group
      ∷ refuse (list_any (λ before. before == group) earlier) why.Related
      ∷ rest ∷ [])) (told None (group ∷ earlier) parents)
  told (Some quota) earlier (group ∷ parents) =
      ap (λ (rest : Option Refusal). first_some
      (refuse (not (not (level_of_group group == 0))) why.Level ∷ is_missing (Some quota) group
      ∷ refuse (list_any (λ before. before == group) earlier) why.Related ∷ rest ∷ []))
      (told (Some quota) (group ∷ earlier) parents)

  pub snap-told : (parents : List ℕ)
      → snap_refusal state.quota parents
      ≡ first_some (refuse (not (is_quota_on state) && nat_lt 0 (length parents)) why.NoQuota
      ∷ no_parents state [] parents ∷ [])
  snap-told parents =
      ap (λ (rest : Option Refusal).
      first_some (refuse (not (is_quota_on state) && nat_lt 0 (length parents)) why.NoQuota ∷ rest ∷ []))
      (sym (told state.quota [] parents))

-- ---- what holds where they are not refused

not-false : (b : Bool) → not b ≡ false → b ≡ true
not-false true is = refl
not-false false is = absurd (true≢false is)

late : (a b : Bool) → b ≡ true → (a || b) ≡ true
late true b is = refl
late false b is = is

early : (a b : Bool) → a ≡ true → (a || b) ≡ true
early true b is = refl
early false b is = absurd (true≢false (sym is))

-- of one group that is not refused, and those behind it
record IsFirst (quota : Quota) (earlier : List ℕ) (group : ℕ) (parents : List ℕ) : Type 0 where
  above : (level_of_group group == 0) ≡ false
  there : has_number group (keys_of quota.groups) ≡ true
  new : list_any (λ before. before == group) earlier ≡ false
  rest : parents_refusal (Some quota) (group ∷ earlier) parents ≡ None

first : (quota : Quota) (earlier : List ℕ) (group : ℕ) (parents : List ℕ)
    → parents_refusal (Some quota) earlier (group ∷ parents) ≡ None
    → IsFirst quota earlier group parents
first quota earlier group parents none =
    let level : Option Refusal = refuse (not (not (level_of_group group == 0))) why.Level in
    let missing : Option Refusal = is_missing (Some quota) group in
    let related : Option Refusal = refuse (list_any (λ before. before == group) earlier) why.Related in
    let behind : Option Refusal = parents_refusal (Some quota) (group ∷ earlier) parents in
    let one = none-of level (missing ∷ related ∷ behind ∷ []) none in
    let two = none-of missing (related ∷ behind ∷ []) one.1 in
    let three = none-of related (behind ∷ []) two.1 in
    let four = none-of behind [] three.1 in
    record {
      above = not-true (level_of_group group == 0)
          (refused-not (not (not (level_of_group group == 0))) why.Level one.0);
      there = not-false (has_number group (keys_of quota.groups))
          (refused-not (not (has_number group (keys_of quota.groups))) why.NoGroup two.0);
      new = refused-not (list_any (λ before. before == group) earlier) why.Related three.0;
      rest = four.0;
    } where
      not-true : (b : Bool) → not (not b) ≡ false → b ≡ false
      not-true true is = absurd (true≢false is)
      not-true false is = refl

-- one that was named before is none of them
apart : (quota : Quota) (before : ℕ) (earlier parents : List ℕ) → list_any (λ one. one == before) earlier ≡ true
    → parents_refusal (Some quota) earlier parents ≡ None → AllByRecursion (λ group. (before == group) ≡ false) parents
apart quota before earlier [] named none = tt
apart quota before earlier (group ∷ parents) named none =
    let is : IsFirst quota earlier group parents = first quota earlier group parents none in (
      elim (cases_Bool (before == group)) [
        | inl same ↦ absurd (true≢false (sym named
            ∙ ap (λ (n : ℕ). list_any (λ one. one == n) earlier) (eqb-true before group same) ∙ is.new))
        | inr differ ↦ differ
      ],
      apart quota before (group ∷ earlier) parents
          (late (group == before) (list_any (λ one. one == before) earlier) named) is.rest,
    )

parents-by : (quota : Quota) (earlier parents : List ℕ) → parents_refusal (Some quota) earlier parents ≡ None
    → AreParents quota parents
unfolding IsDistinct
parents-by quota earlier [] none = record {
  there = λ k d inside. absurd (omega (arith, inside));
  above = λ k d inside. absurd (omega (arith, inside));
  distinct = tt;
}
parents-by quota earlier (group ∷ parents) none =
    let is : IsFirst quota earlier group parents = first quota earlier group parents none in
    let rest : AreParents quota parents = parents-by quota (group ∷ earlier) parents is.rest in
    let level : 0 < level_of_group group =
    positive (level_of_group group) (eqb-false (level_of_group group) 0 is.above) in
    record {
      there = All-cons (λ (parent : ℕ). IsTrue (is_kept (hierarchy_of quota) parent)) group parents is.there rest.there;
      above = All-cons (λ (parent : ℕ). 0 < level_of_group parent) group parents level rest.above;
      distinct = IsDistinct-cons (λ (a b : ℕ). a == b) group parents
          (apart quota group (group ∷ earlier) parents (early (group == group) (list_any (λ one. one == group) earlier)
          (own group)) is.rest) rest.distinct;
    } where
      positive : (n : ℕ) → (n ≡ 0 → ⊥) → 0 < n
      positive n some = omega (arith, some)

      own : (n : ℕ) → (n == n) ≡ true
      own n = eq-eqb n n refl

-- the groups of a snapshot's list may be its parents
pub parents-free : (quota : Quota) (parents : List ℕ) → snap_refusal (Some quota) parents ≡ None
    → AreParents quota parents
parents-free quota parents none = parents-by quota [] parents
    (none-of (parents_refusal (Some quota) [] parents) []
    (none-of (refuse (not true && nat_lt 0 (length parents)) why.NoQuota) (parents_refusal (Some quota) [] parents ∷ [])
    none).1).0

-- a number that no group has is free for one
pub group-free : (quota : Quota) (number : ℕ) → has_key number quota.groups ≡ false
    → create_fault (hierarchy_of quota) number ≡ None
group-free quota number absent = ap (λ (b : Bool). then_some b fault.GroupThere) (key-found number quota.groups
    ∙ absent)
