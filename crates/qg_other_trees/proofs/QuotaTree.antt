-- The quota tree of quota that may be off: all that is said of it, where there is one.
use Rattle.std.proofs.Common.{◌≡◌, ℕ, ◌+◌, ◌*◌, ◌≤◌, List, [], map, length, take, refl, arith}
use Rattle.std.specs.Prelude.{Option, Some, None, IfSome}
use Rattle.std.specs.List.{AllByRecursion, filter_map}
use Rattle.std.specs.List.Sorted.{IsPermutation}
use Rattle.std.specs.Option.{option_map}
use Rattle.std.proofs.lemmas.List.Sorted.{IsPermutation-refl}
use Rattle.qg_node.specs.declared.item.Item.{Item}
use Rattle.qg_node.specs.declared.node.Node.{Node}
use Rattle.qg_items.specs.declared.root.RootItem.{RootItem}
use Rattle.qg_items.specs.declared.tree.TheConstants.{QUOTA_TREE}
use Rattle.qg_image.specs.ItemMeaning.{quota_part}
use Rattle.qg_image.specs.declared.part.QuotaPart.{QuotaPart}
use Rattle.qg_image.specs.Need.{nodes_filled}
use Rattle.qg_image.specs.declared.quota.Quota.{Quota}
use Rattle.qg_image.specs.declared.tree.TreeKind.TheVariants.{Quotas}
use Rattle.qg_root_items.specs.Written.{quota_roots}
use Rattle.qg_quota.specs.Writable.{AreWritableQuota}
use Rattle.qg_quota.specs.Written.{items_of_quota, parts_of_quota, status_at}
use Rattle.qg_check.specs.Editable.{AreGroupsOf}
use Rattle.qg_tree_layout.specs.Build.{IsMadeFor}
use Rattle.qg_tree_layout.specs.Row.{address_of}
use Rattle.qg_tree_layout.specs.declared.building.Built.{Built}
use Rattle.qg_other_trees.specs.Trees.{IsQuotaTreeOf, IsTreeOfItems, QuotaTells, most_nodes, quota_nodes_laid}
use Rattle.qg_other_trees.specs.Trees.{quota_tree_bytes, quota_trees, root_item_laid}
use Rattle.qg_other_trees.proofs.Enough.{most_filled}

-- what holds of a value holds of one that may be there
pub of_some : {A : Type 0} (P Q : A → Type 0) (given : Option A) → ((x : A) → P x → Q x) → IfSome given P
    → IfSome given Q
of_some P Q None f h = tt
of_some P Q (Some x) f h = f x h

-- there is one quota tree at the most
pub one_most : (quota : Option Quota) → quota_trees quota ≤ 1
one_most None = omega arith
one_most (Some quota) = omega arith

-- it has no more nodes than its slots are asked for
pub few_there : (nodesize : ℕ) (quota : Option Quota) (count : ℕ)
    → count ≤ quota_trees quota * most_nodes nodesize (quota_tree_bytes quota)
    → count ≤ 5 * nodes_filled nodesize (quota_tree_bytes quota) + quota_trees quota
few_there nodesize None count few = omega (arith, few)
few_there nodesize (Some quota) count few = omega (arith, few, most_filled nodesize (quota_tree_bytes (Some quota)))

-- quota that can be told can be written
pub can_write : (generation : ℕ) (subvolumes : List ℕ) (quota : Option Quota) → AreGroupsOf generation subvolumes quota
    → IfSome quota (AreWritableQuota generation)
can_write generation subvolumes None groups = tt
can_write generation subvolumes (Some quota) groups = record { sound = groups.sound; stamped = groups.stamped }

-- what its items say, and nothing while quota is off
abbrev pub parts_if : ℕ → Option Quota → List QuotaPart
parts_if generation None = []
parts_if generation (Some quota) = parts_of_quota generation quota

-- its items, and none while quota is off
abbrev pub items_if : ℕ → Option Quota → List Item
items_if generation None = []
items_if generation (Some quota) = items_of_quota (status_at generation) quota

-- the ROOT_ITEM of the tree that was laid out
abbrev pub root_if : ℕ → Option Built → Option RootItem
root_if generation quotas = option_map (λ built. root_item_laid built generation) quotas

-- its nodes in the order of its walk, and none while quota is off
abbrev pub quota_walked : (nodesize generation : ℕ) (quota : Option Quota) (slots : List ℕ) (quotas : Option Built)
    → IsQuotaTreeOf nodesize generation quota slots quotas → List Node
quota_walked nodesize generation (Some quota) slots (Some built) is = is.stands.reached.those
quota_walked nodesize generation _ slots _ is = []

-- its items, and none while quota is off
abbrev pub quota_told_by : (nodesize generation : ℕ) (quota : Option Quota) (slots : List ℕ) (quotas : Option Built)
    → IsQuotaTreeOf nodesize generation quota slots quotas → List Item
quota_told_by nodesize generation (Some quota) slots (Some built) is = is.items
quota_told_by nodesize generation _ slots _ is = []

-- the tree of quota that is on
pub record HasQuotaTree (nodesize generation : ℕ) (quota : Quota) (slots : List ℕ) (quotas : Option Built) : Type
    0 where
  pub built : Built
  pub there : quotas ≡ Some built
  pub stands : IsTreeOfItems Quotas QUOTA_TREE nodesize generation (QuotaTells generation quota) slots built

pub quota_there : (nodesize generation : ℕ) (quota : Quota) (slots : List ℕ) (quotas : Option Built)
    → IsQuotaTreeOf nodesize generation (Some quota) slots quotas → HasQuotaTree nodesize generation quota slots quotas
quota_there nodesize generation quota slots None is = absurd is
quota_there nodesize generation quota slots (Some built) is = record { built = built; there = refl; stands = is }

module _ (nodesize generation : ℕ) where
  -- its root is low enough
  pub quota_low : (quota : Option Quota) (slots : List ℕ) (quotas : Option Built)
      → IsQuotaTreeOf nodesize generation quota slots quotas → IfSome quotas (λ built. built.level ≤ 7)
  quota_low None slots None is = tt
  quota_low None slots (Some built) is = absurd is
  quota_low (Some quota) slots None is = absurd is
  quota_low (Some quota) slots (Some built) is = is.stands.low

  -- the root tree names it where quota is on
  pub as_many : (quota : Option Quota) (slots : List ℕ) (quotas : Option Built)
      → IsQuotaTreeOf nodesize generation quota slots quotas
      → quota_roots (root_if generation quotas) ≡ quota_trees quota
  as_many None slots None is = refl
  as_many None slots (Some built) is = absurd is
  as_many (Some quota) slots None is = absurd is
  as_many (Some quota) slots (Some built) is = refl

  -- its nodes lie in the first of the slots
  pub quota_placed : (quota : Option Quota) (slots : List ℕ) (quotas : Option Built)
      → IsQuotaTreeOf nodesize generation quota slots quotas
      → map address_of (quota_nodes_laid quotas) ≡ take (length (quota_nodes_laid quotas)) slots
  quota_placed None slots None is = refl
  quota_placed None slots (Some built) is = absurd is
  quota_placed (Some quota) slots None is = absurd is
  quota_placed (Some quota) slots (Some built) is = is.stands.placed

  -- they are nodes of this generation
  pub quota_made : (quota : Option Quota) (slots : List ℕ) (quotas : Option Built)
      → IsQuotaTreeOf nodesize generation quota slots quotas
      → AllByRecursion (IsMadeFor nodesize QUOTA_TREE generation) (quota_nodes_laid quotas)
  quota_made None slots None is = tt
  quota_made None slots (Some built) is = absurd is
  quota_made (Some quota) slots None is = absurd is
  quota_made (Some quota) slots (Some built) is = is.stands.made

  -- the walk meets each of them once
  pub quota_same : (quota : Option Quota) (slots : List ℕ) (quotas : Option Built)
      → (is : IsQuotaTreeOf nodesize generation quota slots quotas)
      → IsPermutation (quota_walked nodesize generation quota slots quotas is) (quota_nodes_laid quotas)
  quota_same None slots None is = IsPermutation-refl []
  quota_same None slots (Some built) is = absurd is
  quota_same (Some quota) slots None is = absurd is
  quota_same (Some quota) slots (Some built) is = is.stands.reached.same

  -- its items are those of the quota, and are read as its parts
  pub quota_written : (quota : Option Quota) (slots : List ℕ) (quotas : Option Built)
      → (is : IsQuotaTreeOf nodesize generation quota slots quotas)
      → quota_told_by nodesize generation quota slots quotas is ≡ items_if generation quota
  quota_written None slots None is = refl
  quota_written None slots (Some built) is = absurd is
  quota_written (Some quota) slots None is = absurd is
  quota_written (Some quota) slots (Some built) is = is.told.written

  pub quota_read : (quota : Option Quota) (slots : List ℕ) (quotas : Option Built)
      → (is : IsQuotaTreeOf nodesize generation quota slots quotas)
      → filter_map quota_part (quota_told_by nodesize generation quota slots quotas is) ≡ parts_if generation quota
  quota_read None slots None is = refl
  quota_read None slots (Some built) is = absurd is
  quota_read (Some quota) slots None is = absurd is
  quota_read (Some quota) slots (Some built) is = is.told.told
