-- The root, extent and quota trees of a committed state, said without an image (this project's own). Addresses are in
-- bytes.
use Rattle.std.specs.Prelude.{◌≡◌, ◌⊎◌, ℕ, List, [], ◌++◌, Option, Some, None, MatchBool, MatchOption}
use Rattle.std.specs.List.{AllByRecursion, filter_map}
use Rattle.std.specs.Option.{option_map}
use Rattle.qg_node.specs.declared.item.Item.{Item}
use Rattle.qg_node.specs.declared.node.Node.{Node}
use Rattle.qg_node.specs.Nodes.{header_of}
use Rattle.qg_node.specs.NodeText.{IsNode}
use Rattle.qg_node.specs.Fits.{NodeFits}
use Rattle.qg_items.specs.declared.root.RootItem.{RootItem}
use Rattle.qg_items.specs.declared.tree.TheConstants.{EXTENT_TREE, QUOTA_TREE}
use Rattle.qg_super.specs.declared.superblock.Super.{Super}
use Rattle.qg_image.specs.Table.{value_at}
use Rattle.qg_image.specs.ItemMeaning.{root_part, extent_part, quota_part}
use Rattle.qg_image.specs.State.{State, Subvolume, layout_of, node_at}
use Rattle.qg_image.specs.Reach.{level_of}
use Rattle.qg_image.specs.Owed.{Agrees}
use Rattle.qg_image.specs.declared.tree.TreeKind.{TreeKind}
use Rattle.qg_image.specs.declared.tree.TreeKind.TheVariants.{Roots, Extents, Quotas}
use Rattle.qg_image.specs.declared.expected.Expected.{Expected}
use Rattle.qg_image.specs.Walk.{root_expected, root_told, node_failure, walk_failure, deepest}
use Rattle.qg_image.specs.ItemsUnder.{items_under, nodes_under}
use Rattle.qg_image.specs.Among.{node_among, found_among}
use Rattle.qg_image.specs.ImageState.{subvolume_roots, quota_told}

-- a node of the format of so many bytes, whose numbers fit their fields
pub record IsOfFormat (nodesize : ℕ) (node : Node) : Type 0 where
  pub node_of_format : IsNode nodesize node
  pub fits : NodeFits node

-- the superblock of a committed state whose root tree has its root node at an address
abbrev pub super_at : State → ℕ → Super
super_at state root = record {
  generation = state.generation;
  root = root;
  nodesize = state.sizes.nodesize;
  slots = state.sizes.slots;
  sectors = state.sizes.sectors;
  format = 1;
}

-- the nodes are those of one tree, each before those below it, which breaks no rule of the walk; and these are its
-- items
pub record IsTreeOfNodes (tree : TreeKind) (super : Super) (expected : Expected) (root : ℕ) (nodes : List Node)
    (items : List Item) : Type 0 where
  pub walked : walk_failure (node_failure tree super) (found_among nodes) deepest expected root ≡ None
  pub nodes_are : nodes_under tree super (found_among nodes) (level_of (node_among nodes root)) expected root
      ≡ Some nodes
  pub items_are : items_under tree super (found_among nodes) (level_of (node_among nodes root)) expected root
      ≡ Some items

-- so it is of a tree with this ROOT_ITEM; of no tree there are no nodes and no items
abbrev pub IsTreeOfRoot : TreeKind → Super → Option RootItem → List Node → List Item → Type 0
IsTreeOfRoot tree super None nodes items = (nodes ≡ []) × (items ≡ [])
IsTreeOfRoot tree super (Some root) nodes items = IsTreeOfNodes tree super (root_told root) root.bytenr nodes items

-- the ROOT_ITEM of a subvolume whose root node is this
abbrev pub root_item_of : Subvolume → Node → RootItem
root_item_of subvolume root = record {
  generation = (header_of root).generation;
  bytenr = subvolume.root;
  last_snapshot = subvolume.last_snapshot;
  refs = 1;
  level = (header_of root).level;
}

-- the ROOT_ITEMs of the subvolumes of a state
unfoldable pub subvolume_items : State → List (ℕ × RootItem)
subvolume_items state =
    filter_map (λ entry. option_map (λ root. (entry.0, root_item_of entry.1 root)) (node_at state.layout entry.1.root))
    state.subvolumes

-- These are the nodes of the root, extent and quota trees of a committed state. Each is a tree by the rules of the
-- walk. The root tree names the other two and the subvolumes' roots, the quota tree tells quota and is there where
-- quota is on, and the extent tree records exactly what is owed. Which number a reference's key has, and which
-- generation a data extent's record tells, is free.
pub record AreOtherTrees (state : State) (others : List Node) : Type 0 where
  pub format : AllByRecursion (IsOfFormat state.sizes.nodesize) others
  pub root : ℕ
  pub root_nodes : List Node
  pub root_items : List Item
  pub roots : IsTreeOfNodes Roots (super_at state root) (root_expected None None) root root_nodes root_items
  pub subvolumes : subvolume_roots (filter_map root_part root_items) ≡ subvolume_items state
  pub extent_root : RootItem
  pub extents_named : value_at EXTENT_TREE (filter_map root_part root_items) ≡ Some extent_root
  pub extent_nodes : List Node
  pub extent_items : List Item
  pub extents : IsTreeOfRoot Extents (super_at state root) (Some extent_root) extent_nodes extent_items
  pub agrees : Agrees (layout_of state) (filter_map extent_part extent_items)
  pub quota_root : Option RootItem
  pub quotas_named : value_at QUOTA_TREE (filter_map root_part root_items) ≡ quota_root
  pub quota_nodes : List Node
  pub quota_items : List Item
  pub quotas : IsTreeOfRoot Quotas (super_at state root) quota_root quota_nodes quota_items
  pub told : state.quota ≡ option_map (λ root. quota_told (filter_map quota_part quota_items)) quota_root
  pub all : others ≡ root_nodes ++ extent_nodes ++ quota_nodes
