-- The root, extent and quota trees of a commit, one behind the other in free slots (this project's own). Addresses and
-- lengths are in bytes.
use Rattle.std.specs.Prelude.{◌≡◌, ℕ, ◌+◌, ◌-◌, ◌*◌, ◌^◌, ◌<◌, ◌≤◌, List, [], ◌++◌, length, drop, Option, None, Some}
use Rattle.std.specs.Prelude.{◌&&◌, ◌==◌, if◌then◌else◌, nat_le, All, IsTrue}
use Rattle.std.specs.List.{IsDistinct, filter_map, list_all}
use Rattle.std.specs.Option.{option_map}
use Rattle.qg_num.specs.declared.counters.Counters.{Counters}
use Rattle.qg_node.specs.declared.item.Item.{Item}
use Rattle.qg_node.specs.declared.node.Node.{Node}
use Rattle.qg_node.specs.Nodes.{items_bytes}
use Rattle.qg_items.specs.declared.root.RootItem.{RootItem}
use Rattle.qg_items.specs.declared.tree.TheConstants.{ROOT_TREE, EXTENT_TREE, QUOTA_TREE}
use Rattle.qg_super.specs.declared.sizes.Sizes.{Sizes}
use Rattle.qg_super.specs.declared.superblock.Super.{Super}
use Rattle.qg_super.specs.Places.{capacity, is_served}
use Rattle.qg_image.specs.ItemMeaning.{extent_part, quota_part, root_part}
use Rattle.qg_image.specs.Table.{keys_of}
use Rattle.qg_image.specs.declared.quota.Quota.{Quota}
use Rattle.qg_image.specs.Need.{nodes_filled}
use Rattle.qg_image.specs.declared.tree.TreeKind.{TreeKind}
use Rattle.qg_image.specs.declared.tree.TreeKind.TheVariants.{Extents, Quotas, Roots}
use Rattle.qg_image.specs.Walk.{is_item_of}
use Rattle.qg_check.specs.Editable.{AreGroupsOf, AreSubvolumes}
use Rattle.qg_tree_layout.specs.declared.building.Built.{Built}
use Rattle.qg_tree_layout.specs.Build.{IsBuilt}
use Rattle.qg_root_items.specs.Written.{items_of_roots, roots_named}
use Rattle.qg_quota.specs.Written.{items_of_quota, parts_of_quota, status_at}
use Rattle.qg_refs.specs.declared.kept.Kept.{Kept}
use Rattle.qg_extents.specs.Written.{items_of_book, parts_of_book}
use Rattle.qg_other_trees.specs.declared.laying.OtherTrees.{OtherTrees}
use Rattle.qg_other_trees.specs.declared.laying.TreeContents.{TreeContents}

-- ---- what is asked

-- so many free slots at least, all different, and no more than an image can have
pub record AreEnough (count : ℕ) (slots : List ℕ) : Type 0 where
  pub apart : IsDistinct (λ a b. a == b) slots
  pub few : length slots ≤ 16128
  pub enough : count ≤ length slots

-- the quota trees: one, and none while quota is off
abbrev pub quota_trees : Option Quota → ℕ
quota_trees None = 0
quota_trees (Some quota) = 1

-- what the items of the root tree take of leaves, in bytes, where there are so many subvolumes: a ROOT_ITEM of 464 for
-- each, one for the extent tree, and one for the quota tree where there is one
abbrev pub root_tree_bytes : ℕ → Option Quota → ℕ
root_tree_bytes subvolumes quota = 464 * (subvolumes + 1 + quota_trees quota)

-- what those of the quota tree take: a QGROUP_STATUS of 57, for each group a QGROUP_INFO and a QGROUP_LIMIT of 65, and
-- for each relation two QGROUP_RELATIONs of 25; nothing while quota is off
abbrev pub quota_tree_bytes : Option Quota → ℕ
quota_tree_bytes None = 0
quota_tree_bytes (Some quota) = 57 + 130 * length quota.groups + 50 * length quota.pairs

-- the nodes that the items of the three trees fill, at the least; of two while quota is off
abbrev pub nodes_of_trees : ℕ → List (ℕ × Kept) → List (ℕ × RootItem) → Option Quota → ℕ
nodes_of_trees nodesize book roots quota =
    nodes_filled nodesize (items_bytes (items_of_book book))
    + nodes_filled nodesize (root_tree_bytes (length roots) quota)
    + nodes_filled nodesize (quota_tree_bytes quota)

-- the nodes of a tree whose items take so many bytes, at the most: those that fit in a leaf are one
abbrev pub most_nodes : ℕ → ℕ → ℕ
most_nodes nodesize bytes = if nat_le bytes (capacity nodesize) then 1 else 5 * nodes_filled nodesize bytes + 1

-- the nodes of the three trees, at the most; of two while quota is off
abbrev pub most_nodes_of_trees : ℕ → List (ℕ × Kept) → List (ℕ × RootItem) → Option Quota → ℕ
most_nodes_of_trees nodesize book roots quota =
    most_nodes nodesize (items_bytes (items_of_book book))
    + most_nodes nodesize (root_tree_bytes (length roots) quota)
    + quota_trees quota * most_nodes nodesize (quota_tree_bytes quota)

-- three trees of this generation that tell this can be laid out in these slots, in an image of these sizes
pub record CanBeLaid (sizes : Sizes) (generation : ℕ) (told : TreeContents) (slots : List ℕ) : Type 0 where
  pub served : IsTrue (is_served sizes)
  -- there is a generation behind it, and it is one
  pub some : 1 ≤ generation
  pub early : generation < 2 ^ 64 - 1
  -- the subvolumes and the groups; what is known of nodes and extents is of no later generation either
  pub subvolumes : AreSubvolumes generation told.roots.now
  pub groups : AreGroupsOf generation (keys_of told.roots.now) told.quota.now
  pub known : All (λ entry. entry.1.what.generation ≤ generation) told.book.now
  -- the slots are enough for the three trees: a tree has five times the nodes that its items fill, and one more
  pub room : AreEnough (5 * nodes_of_trees sizes.nodesize told.book.now told.roots.now told.quota.now + 3) slots

-- ---- what the trees tell

-- in the first of the slots stands a tree of one generation, of items that it may hold and that tell this
pub record IsTreeOfItems (tree : TreeKind) (owner nodesize generation : ℕ) (Tell : List Item → Type 0) (slots : List ℕ)
    (built : Built) : Type 0 where
  pub items : List Item
  pub stands : IsBuilt nodesize owner generation items slots built.nodes built.root built.level
  pub allowed : IsTrue (list_all (is_item_of tree generation) items)
  pub told : Tell items

-- the ROOT_ITEM of a tree that has no snapshot
abbrev pub root_item_laid : Built → ℕ → RootItem
root_item_laid built generation =
    record { generation = generation; bytenr = built.root; last_snapshot = 0; refs = 1; level = built.level }

-- the items of the root tree are the ROOT_ITEMs of the extent tree, the subvolumes and the quota tree, and are read as
-- these
pub record RootsTell (extents : RootItem) (roots : List (ℕ × RootItem)) (quotas : Option RootItem) (items : List Item)
    : Type 0 where
  pub written : items ≡ items_of_roots extents roots quotas
  pub told : filter_map root_part items ≡ roots_named extents roots quotas

-- the items of the quota tree are those of groups, their limits and their relations, and are read as these
pub record QuotaTells (generation : ℕ) (quota : Quota) (items : List Item) : Type 0 where
  pub written : items ≡ items_of_quota (status_at generation) quota
  pub told : filter_map quota_part items ≡ parts_of_quota generation quota

-- the items of the extent tree are those of a book, and are read as its records
pub record ExtentsTell (book : List (ℕ × Kept)) (items : List Item) : Type 0 where
  pub written : items ≡ items_of_book book
  pub told : filter_map extent_part items ≡ parts_of_book book

-- ---- the trees together

-- the nodes of the quota tree, and none while quota is off
abbrev pub quota_nodes_laid : Option Built → List Node
quota_nodes_laid None = []
quota_nodes_laid (Some built) = built.nodes

-- the nodes of all three
abbrev pub nodes_laid : OtherTrees → List Node
nodes_laid trees = trees.roots.nodes ++ trees.extents.nodes ++ quota_nodes_laid trees.quotas

-- in the first of the slots stands the quota tree of this quota; while quota is off there is none
abbrev pub IsQuotaTreeOf : ℕ → ℕ → Option Quota → List ℕ → Option Built → Type 0
IsQuotaTreeOf nodesize generation None slots None = Unit {0}
IsQuotaTreeOf nodesize generation (Some quota) slots (Some built) =
    IsTreeOfItems Quotas QUOTA_TREE nodesize generation (QuotaTells generation quota) slots built
IsQuotaTreeOf nodesize generation _ slots _ = ⊥

-- the superblock of an image of these sizes
abbrev pub superblock_laid : Sizes → ℕ → ℕ → Super
superblock_laid sizes generation root = record {
  generation = generation;
  root = root;
  nodesize = sizes.nodesize;
  slots = sizes.slots;
  sectors = sizes.sectors;
  format = 1;
}

-- Three trees of this generation in an image of these sizes, one behind the other in the slots, with the superblock
-- that leads to them: of subvolumes with these ROOT_ITEMs, of these references, and of this quota; two while quota is
-- off
pub record AreTrees (sizes : Sizes) (generation : ℕ) (roots : List (ℕ × RootItem)) (book : List (ℕ × Kept))
    (quota : Option Quota) (slots : List ℕ) (trees : OtherTrees) : Type 0 where
  pub subvolumes : AreSubvolumes generation roots
  pub groups : AreGroupsOf generation (keys_of roots) quota
  pub extent_tree : IsTreeOfItems Extents EXTENT_TREE sizes.nodesize generation (ExtentsTell book) slots trees.extents
  pub quota_tree : IsQuotaTreeOf sizes.nodesize generation quota (drop (length trees.extents.nodes) slots) trees.quotas
  pub root_tree : IsTreeOfItems Roots ROOT_TREE sizes.nodesize generation
      (RootsTell (root_item_laid trees.extents generation) roots
      (option_map (λ built. root_item_laid built generation) trees.quotas))
      (drop (length (quota_nodes_laid trees.quotas)) (drop (length trees.extents.nodes) slots)) trees.roots
  pub leads : trees.superblock ≡ superblock_laid sizes generation trees.roots.root

-- the trees that tell this
abbrev pub AreTreesOf : Sizes → ℕ → TreeContents → List ℕ → OtherTrees → Type 0
AreTreesOf sizes generation told slots trees =
    AreTrees sizes generation told.roots.now told.book.now told.quota.now slots trees

-- the commit that changed the counters last
abbrev pub stamp_after : Counters → Counters → ℕ → ℕ → ℕ
stamp_after old new stamp generation = if (old.rfer == new.rfer) && (old.excl == new.excl) then stamp else generation
