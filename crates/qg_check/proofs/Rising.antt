-- Numbers that rise, where the keys of items do.
use Rattle.std.proofs.Common.{◌≡◌, ℕ, zero, suc, ◌+◌, ◌<◌, Bool, true, false, cond, List, [], ◌∷◌, map, length, get_or}
use Rattle.std.proofs.Common.{sym, subst, arith, inl, inr}
use Rattle.std.specs.List.{AllByRecursion, Contains, filter_map}
use Rattle.std.specs.List.Sorted.{IsStrictlyIncreasing}
use Rattle.std.specs.Ordering.{is_lt, nat_cmp, ordering_then}
use Rattle.std.proofs.lemmas.Bool.Decides.{nat_tests}
use Rattle.qg_node.specs.Nodes.{is_ascending}
use Rattle.qg_items.specs.declared.root.RootItem.{RootItem}
use Rattle.qg_items.specs.declared.quota.QgroupInfo.{QgroupInfo}
use Rattle.qg_image.specs.Table.{keys_of}
use Rattle.qg_image.specs.ItemMeaning.{is_subvolume_number}
use Rattle.qg_image.specs.declared.part.QuotaPart.{QuotaPart}
use Rattle.qg_image.specs.declared.part.QuotaPart.TheVariants.{Status, Info, Limits, Relation}
use Rattle.qg_tree_items.specs.Keys.{quota_key, root_key}
use Rattle.qg_image.proofs.Contained.{contains_cases, contains_here, none_contained}
use Rattle.qg_image.specs.ImageState.{info_told, subvolume_roots}
use Rattle.qg_backref_rule.proofs.NumberSets.{Ascends}
use Rattle.qg_check.proofs.Ascending.{IsLess, ascending_behind, greater_behind}

-- numbers of which each is less than all behind it increase
pub increases : (ns : List ℕ) → Ascends ns → IsStrictlyIncreasing ns
increases [] up = λ k short. absurd (omega (arith, short))
increases (n ∷ []) up = λ k short. absurd (omega (arith, short))
increases (n ∷ m ∷ ns) up = each (increases (m ∷ ns) up.1) where
  each : IsStrictlyIncreasing (m ∷ ns) → (k : ℕ) → k + 1 < length (n ∷ m ∷ ns)
      → get_or (n ∷ m ∷ ns) k 0 < get_or (n ∷ m ∷ ns) (k + 1) 0
  each rest zero short = up.0 m (contains_here m ns)
  each rest (suc k) short =
      let next : suc k + 1 ≡ suc (k + 1) = omega arith in
      subst (λ j. get_or (m ∷ ns) k 0 < get_or (n ∷ m ∷ ns) j 0) (sym next) (rest k (omega (arith, short)))

-- ---- the root tree

first_less : (a b : ℕ) → is_lt (ordering_then (nat_cmp a b) (ordering_then (nat_cmp 132 132) (nat_cmp 0 0))) ≡ true
    → a < b
first_less a b less = grind (arith, nat_tests)

root_less : (a b : ℕ × RootItem) → IsLess (root_key a) (root_key b) → a.0 < b.0
root_less a b less = first_less a.0 b.0 less

-- a number is less than those of subvolumes among roots that are greater
below_subvolumes : (entry : ℕ × RootItem) (roots : List (ℕ × RootItem))
    → AllByRecursion (IsLess (root_key entry)) (map root_key roots)
    → (n : ℕ) → Contains (keys_of (subvolume_roots roots)) n → entry.0 < n
below_subvolumes entry [] greater n has = absurd (none_contained n has)
below_subvolumes entry (root ∷ roots) greater n has =
    cases (is_subvolume_number root.0) (below_subvolumes entry roots greater.1 n) has where
      cases : (sub : Bool) → (Contains (keys_of (subvolume_roots roots)) n → entry.0 < n)
          → Contains (keys_of (cond sub (root ∷ subvolume_roots roots) (subvolume_roots roots))) n → entry.0 < n
      cases true later has' = elim (contains_cases root.0 (keys_of (subvolume_roots roots)) n has') [
        | inl is ↦ subst (λ m. entry.0 < m) is (root_less entry root greater.0)
        | inr behind ↦ later behind
      ]
      cases false later has' = later has'

-- subvolumes ascend by number
pub subvolumes_ascend : (roots : List (ℕ × RootItem)) → is_ascending (map root_key roots) ≡ true
    → Ascends (keys_of (subvolume_roots roots))
subvolumes_ascend [] up = tt
subvolumes_ascend (entry ∷ roots) up =
    cases (is_subvolume_number entry.0)
    (subvolumes_ascend roots (ascending_behind (root_key entry) (map root_key roots) up))
  where
    cases : (sub : Bool) → Ascends (keys_of (subvolume_roots roots))
        → Ascends (keys_of (cond sub (entry ∷ subvolume_roots roots) (subvolume_roots roots)))
    cases true rest = (below_subvolumes entry roots (greater_behind (root_key entry) (map root_key roots) up), rest)
    cases false rest = rest

-- ---- the quota tree

number_less : (a b : ℕ) → is_lt (nat_cmp a b) ≡ true → a < b
number_less a b less = grind (arith, nat_tests)

info_less : (a b : ℕ) (x y : QgroupInfo) → IsLess (quota_key (Info a x)) (quota_key (Info b y)) → a < b
info_less a b x y less = number_less a b less

below_groups : (group : ℕ) (info : QgroupInfo) (parts : List QuotaPart)
    → AllByRecursion (IsLess (quota_key (Info group info))) (map quota_key parts)
    → (n : ℕ) → Contains (keys_of (filter_map info_told parts)) n → group < n
below_groups group info [] greater n has = absurd (none_contained n has)
below_groups group info (Status status ∷ parts) greater n has = below_groups group info parts greater.1 n has
below_groups group info (Limits other limit ∷ parts) greater n has = below_groups group info parts greater.1 n has
below_groups group info (Relation other another ∷ parts) greater n has = below_groups group info parts greater.1 n has
below_groups group info (Info other own ∷ parts) greater n has =
    elim (contains_cases other (keys_of (filter_map info_told parts)) n has) [
      | inl is ↦ subst (λ m. group < m) is (info_less group other info own greater.0)
      | inr behind ↦ below_groups group info parts greater.1 n behind
    ]

-- groups ascend by number
pub groups_ascend : (parts : List QuotaPart) → is_ascending (map quota_key parts) ≡ true
    → Ascends (keys_of (filter_map info_told parts))
groups_ascend [] up = tt
groups_ascend (Status status ∷ parts) up =
    groups_ascend parts (ascending_behind (quota_key (Status status)) (map quota_key parts) up)
groups_ascend (Limits other limit ∷ parts) up =
    groups_ascend parts (ascending_behind (quota_key (Limits other limit)) (map quota_key parts) up)
groups_ascend (Relation other another ∷ parts) up =
    groups_ascend parts (ascending_behind (quota_key (Relation other another)) (map quota_key parts) up)
groups_ascend (Info group info ∷ parts) up = (
  below_groups group info parts (greater_behind (quota_key (Info group info)) (map quota_key parts) up),
  groups_ascend parts (ascending_behind (quota_key (Info group info)) (map quota_key parts) up),
)
