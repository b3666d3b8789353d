-- The nodes and the superblock of an image that is just made: four leaves of generation 1 (this project's own).
-- Addresses are in bytes.
use Rattle.std.specs.Prelude.{ℕ, List, [], ◌∷◌, map, Some}
use Rattle.qg_num.specs.declared.counters.Counters.{Counters}
use Rattle.qg_node.specs.declared.item.Item.{Item}
use Rattle.qg_node.specs.declared.node.Node.{Node}
use Rattle.qg_items.specs.declared.kind.TheConstants.{METADATA_ITEM, TREE_BLOCK_REF}
use Rattle.qg_items.specs.declared.tree.TheConstants.{ROOT_TREE, EXTENT_TREE, TOP_LEVEL, QUOTA_TREE}
use Rattle.qg_items.specs.declared.root.RootItem.{RootItem}
use Rattle.qg_items.specs.ItemText.{extent_text}
use Rattle.qg_super.specs.declared.sizes.Sizes.{Sizes}
use Rattle.qg_super.specs.declared.superblock.Super.{Super}
use Rattle.qg_super.specs.Places.{slot_at}
use Rattle.qg_image.specs.declared.quota.Quota.{Quota}
use Rattle.qg_image.specs.IsFresh.{fresh_leaf}
use Rattle.qg_root_items.specs.Written.{items_of_roots}
use Rattle.qg_quota.specs.Written.{items_of_quota, status_at}
use Rattle.qg_extents.specs.Fresh.{fresh_table}
use Rattle.qg_extents.specs.Written.{item_at}
use Rattle.qg_other_trees.specs.declared.laying.OtherTrees.{OtherTrees}
use Rattle.qg_other_trees.specs.Telling.{one_group}
use Rattle.qg_other_trees.specs.Trees.{AreTrees}

-- a tree of generation 1 whose root is a leaf at an address
abbrev pub fresh_root : ℕ → RootItem
fresh_root address = record { generation = 1; bytenr = address; last_snapshot = 0; refs = 1; level = 0 }

-- the only subvolume, whose root is such a leaf
abbrev pub fresh_roots : ℕ → List (ℕ × RootItem)
fresh_roots address = (TOP_LEVEL, fresh_root address) ∷ []

-- the root tree's leaf: the extent tree, the top-level subvolume and the quota tree
abbrev pub root_items : ℕ → ℕ → ℕ → List Item
root_items extents files quotas = items_of_roots (fresh_root extents) (fresh_roots files) (Some (fresh_root quotas))

-- the extent tree's leaf: the record of the subvolume's root node at an address, a leaf of generation 1 that isn't
-- full, with one reference; and that reference, which is the subvolume's
abbrev pub extent_items : ℕ → List Item
extent_items root =
    item_at root METADATA_ITEM 0 (extent_text (record { refs = 1; generation = 1; flags = 2 }))
    ∷ item_at root TREE_BLOCK_REF TOP_LEVEL []
    ∷ []

-- what the top-level subvolume's group counts: its root node
abbrev pub fresh_counters : ℕ → Counters
fresh_counters nodesize = record { rfer = nodesize; excl = nodesize }

-- its group alone, which has no limit
abbrev pub fresh_quota : ℕ → Quota
fresh_quota nodesize = one_group (fresh_counters nodesize) 1

-- the quota tree's leaf: quota is on; the top-level subvolume's group counts its root node and has no limit
abbrev pub quota_items : ℕ → List Item
quota_items nodesize = items_of_quota (status_at 1) (fresh_quota nodesize)

-- the superblock
abbrev pub fresh_super : Sizes → ℕ → Super
fresh_super sizes root = record {
  generation = 1;
  root = root;
  nodesize = sizes.nodesize;
  slots = sizes.slots;
  sectors = sizes.sectors;
  format = 1;
}

-- the top-level subvolume's leaf
abbrev pub own_leaf : Sizes → Node
own_leaf sizes = fresh_leaf TOP_LEVEL (slot_at sizes 2) []

-- the four leaves: the root tree, the extent tree, the top-level subvolume and the quota tree, in the first slots
abbrev pub fresh_nodes : Sizes → List Node
fresh_nodes sizes =
    fresh_leaf ROOT_TREE (slot_at sizes 0) (root_items (slot_at sizes 1) (slot_at sizes 2) (slot_at sizes 3))
    ∷ fresh_leaf EXTENT_TREE (slot_at sizes 1) (extent_items (slot_at sizes 2))
    ∷ own_leaf sizes
    ∷ fresh_leaf QUOTA_TREE (slot_at sizes 3) (quota_items sizes.nodesize)
    ∷ []

-- the slots that the other trees are laid out in, one behind the other: the second for the extent tree, the fourth for
-- the quota tree, the first for the root tree; and those behind them, as a layout asks for more
abbrev pub fresh_slots : Sizes → List ℕ
fresh_slots sizes =
    map (slot_at sizes)
    (1 ∷ 3 ∷ 0 ∷ 4 ∷ 5 ∷ 6 ∷ 7 ∷ 8 ∷ 9 ∷ 10 ∷ 11 ∷ 12 ∷ 13 ∷ 14 ∷ 15 ∷ 16 ∷ 17 ∷ 18 ∷ [])

-- the root, extent and quota trees of generation 1 in these slots, of a subvolume whose root is an empty leaf in the
-- third slot
abbrev pub AreFreshTrees : Sizes → OtherTrees → Type 0
AreFreshTrees sizes trees =
    AreTrees sizes 1 (fresh_roots (slot_at sizes 2)) (fresh_table sizes.nodesize (slot_at sizes 2))
    (Some (fresh_quota sizes.nodesize)) (fresh_slots sizes) trees
