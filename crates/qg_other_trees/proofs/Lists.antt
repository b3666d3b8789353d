-- What the root tree and the quota tree of any number of subvolumes and groups name.
use Rattle.std.proofs.Common.{◌≡◌, ℕ, inl, inr, Bool, true, false, List, [], ◌∷◌, refl, sym, ap, ◌∙◌}
use Rattle.std.specs.Prelude.{Option, Some, None, is_some, ◌==◌, if◌then◌else◌, nat_lt}
use Rattle.std.specs.List.{AllByRecursion}
use Rattle.std.proofs.lemmas.Bool.{cases_Bool, eqb-true, true≢false}
use Rattle.std.proofs.lemmas.List.Elements.{recursion_from_All}
use Rattle.qg_num.specs.declared.rule.Rule.TheVariants as rule
use Rattle.qg_items.specs.declared.root.RootItem.{RootItem}
use Rattle.qg_image.specs.ItemMeaning.{is_subvolume_number}
use Rattle.qg_image.specs.Table.{has_key, value_at, with_value}
use Rattle.qg_image.specs.declared.part.QuotaPart.{QuotaPart}
use Rattle.qg_image.specs.declared.quota.Quota.{Quota}
use Rattle.qg_image.specs.ImageState.{quota_told, subvolume_roots}
use Rattle.qg_image.specs.Verdict.{are_few, are_roots, is_quota}
use Rattle.qg_root_items.specs.Written.{roots_named, with_quotas}
use Rattle.qg_quota.specs.Laws.{IsServedFor}
use Rattle.qg_quota.specs.Written.{parts_of_quota}
use Rattle.qg_quota.proofs.ReadBack.{quota-back}
use Rattle.qg_quota.proofs.Taken.{quota-taken}
use Rattle.qg_check.specs.Editable.{AreGroups, AreSubvolumes}

-- ---- the root tree

AreNumbers : List (ℕ × RootItem) → Type 0
AreNumbers entries = AllByRecursion (λ entry. is_subvolume_number entry.0 ≡ true) entries

other_than_quotas : (n : ℕ) → is_subvolume_number n ≡ true → (n == 8) ≡ false
unfolding is_subvolume_number
other_than_quotas n is = elim (cases_Bool (n == 8)) [
  | inl same ↦ absurd (true≢false (sym is ∙ ap is_subvolume_number (eqb-true n 8 same)))
  | inr other ↦ other
]

-- all of them are subvolumes'
all_subvolumes : (entries : List (ℕ × RootItem)) → AreNumbers entries → subvolume_roots entries ≡ entries
unfolding AreNumbers
all_subvolumes [] numbers = refl
all_subvolumes (entry ∷ entries) numbers = rw (numbers.0, all_subvolumes entries numbers.1) refl

beside_quotas : (quotas : RootItem) (entries : List (ℕ × RootItem)) → AreNumbers entries
    → subvolume_roots (with_value 8 quotas entries) ≡ entries
unfolding AreNumbers is_subvolume_number
beside_quotas quotas [] numbers = refl
beside_quotas quotas (entry ∷ entries) numbers = elim (cases_Bool (nat_lt 8 entry.0)) [
  | inl behind ↦ rw behind (all_subvolumes (entry ∷ entries) numbers)
  | inr before ↦
      rw (before, other_than_quotas entry.0 numbers.0)
      (rw (numbers.0, beside_quotas quotas entries numbers.1) refl)
]

quotas_found : (quotas : RootItem) (entries : List (ℕ × RootItem))
    → value_at 8 (with_value 8 quotas entries) ≡ Some quotas
quotas_found quotas [] = refl
quotas_found quotas (entry ∷ entries) = elim (cases_Bool (nat_lt 8 entry.0)) [
  | inl behind ↦ rw behind refl
  | inr before ↦ elim (cases_Bool (entry.0 == 8)) [
    | inl same ↦ rw (before, same) refl
    | inr other ↦ rw (before, other) (rw other (quotas_found quotas entries))
  ]
]

-- no subvolume has the quota tree's number
none_there : (entries : List (ℕ × RootItem)) → AreNumbers entries → value_at 8 entries ≡ None
unfolding AreNumbers
none_there [] numbers = refl
none_there (entry ∷ entries) numbers = rw (other_than_quotas entry.0 numbers.0) (none_there entries numbers.1)

-- the quota tree's ROOT_ITEM is found where there is one
with_found : (quotas : Option RootItem) (entries : List (ℕ × RootItem)) → AreNumbers entries
    → value_at 8 (with_quotas quotas entries) ≡ quotas
with_found None entries numbers = none_there entries numbers
with_found (Some root) entries numbers = quotas_found root entries

-- and beside it are the subvolumes'
with_beside : (quotas : Option RootItem) (entries : List (ℕ × RootItem)) → AreNumbers entries
    → subvolume_roots (with_quotas quotas entries) ≡ entries
with_beside None entries numbers = all_subvolumes entries numbers
with_beside (Some root) entries numbers = beside_quotas root entries numbers

-- the ROOT_ITEM of the quota tree that the root tree names is that told
pub quotas_named : (generation : ℕ) (extents : RootItem) (roots : List (ℕ × RootItem)) (quotas : Option RootItem)
    → AreSubvolumes generation roots → value_at 8 (roots_named extents roots quotas) ≡ quotas
unfolding AreNumbers
quotas_named generation extents roots quotas are =
    with_found quotas roots (recursion_from_All (λ entry. is_subvolume_number entry.0 ≡ true) roots are.numbers)

-- and those of subvolumes are
pub subvolumes_named : (generation : ℕ) (extents : RootItem) (roots : List (ℕ × RootItem)) (quotas : Option RootItem)
    → AreSubvolumes generation roots → subvolume_roots (roots_named extents roots quotas) ≡ roots
unfolding AreNumbers is_subvolume_number
subvolumes_named generation extents roots quotas are =
    with_beside quotas roots (recursion_from_All (λ entry. is_subvolume_number entry.0 ≡ true) roots are.numbers)

-- ---- rules of the root tree

has_beside : (n : ℕ) (quotas : RootItem) (entries : List (ℕ × RootItem)) → (8 == n) ≡ false → AreNumbers entries
    → value_at n (with_value 8 quotas entries) ≡ value_at n entries
unfolding AreNumbers
has_beside n quotas [] differs numbers = rw differs refl
has_beside n quotas (entry ∷ entries) differs numbers = elim (cases_Bool (nat_lt 8 entry.0)) [
  | inl behind ↦ rw behind (rw differs refl)
  | inr before ↦
      rw (before, other_than_quotas entry.0 numbers.0)
      (ap (λ (rest : Option RootItem). if entry.0 == n then Some entry.1 else rest)
      (has_beside n quotas entries differs numbers.1))
]

-- the top-level subvolume is named
top_named : (quotas : Option RootItem) (entries : List (ℕ × RootItem)) → AreNumbers entries → has_key 5 entries ≡ true
    → has_key 5 (with_quotas quotas entries) ≡ true
top_named None entries numbers top = top
top_named (Some root) entries numbers top =
    ap (λ (value : Option RootItem). is_some value) (has_beside 5 root entries refl numbers) ∙ top

pub roots_keep : (generation : ℕ) (extents : RootItem) (roots : List (ℕ × RootItem)) (quotas : Option RootItem)
    → AreSubvolumes generation roots → are_roots (roots_named extents roots quotas) ≡ true
unfolding AreNumbers are_roots
roots_keep generation extents roots quotas are =
    let numbers = recursion_from_All (λ entry. is_subvolume_number entry.0 ≡ true) roots are.numbers in
    top_named quotas roots numbers are.top_level

-- ---- the quota tree

-- quota that can be told serves the subvolumes
served_for : (generation : ℕ) (subvolumes : List ℕ) (quota : Quota) → AreGroups generation subvolumes quota
    → IsServedFor subvolumes quota
served_for generation subvolumes quota are =
    record { own = are.own; numbers = are.numbers; groups = are.few; relations = are.few_pairs }

-- the items of quota tell it
pub quota_said : (generation : ℕ) (subvolumes : List ℕ) (quota : Quota) → AreGroups generation subvolumes quota
    → quota ≡ quota_told (parts_of_quota generation quota)
quota_said generation subvolumes quota are = sym (quota-back generation quota are.sound)

-- neither of two rules is broken
both_pass : (fits few : Bool) → (if fits then (if few then None else Some rule.Limits) else Some rule.Quota) ≡ None
    → (fits ≡ true) × (few ≡ true)
both_pass true true none = (refl, refl)
both_pass true false none = absurd cc
both_pass false few none = absurd cc

module _ (generation : ℕ) (subvolumes : List ℕ) (quota : Quota) (are : AreGroups generation subvolumes quota) where
  abbrev parts : List QuotaPart
  parts = parts_of_quota generation quota

  pass : (is_quota subvolumes parts ≡ true) × (are_few parts ≡ true)
  pass =
      both_pass (is_quota subvolumes parts) (are_few parts)
      (quota-taken generation subvolumes quota are.sound (served_for generation subvolumes quota are))

  pub quota_keeps : is_quota subvolumes parts ≡ true
  quota_keeps = pass.0

  pub quota_few : are_few parts ≡ true
  quota_few = pass.1
