-- What an image holds after a commit (this project's own).
use Rattle.std.specs.Prelude.{◌≡◌, ℕ, ◌≤◌, List, length, Some, None, Ok, Contains, IsTrue}
use Rattle.std.specs.List.{All, AllByRecursion, flat_map}
use Rattle.std.specs.List.Sorted.{IsPermutation}
use Rattle.qg_node.specs.declared.item.Item.{Item}
use Rattle.qg_node.specs.declared.node.Node.{Node}
use Rattle.qg_node.specs.Nodes.{header_of}
use Rattle.qg_items.specs.declared.root.RootItem.{RootItem}
use Rattle.qg_super.specs.declared.superblock.Super.{Super}
use Rattle.qg_super.specs.Places.{first_place, is_run, second_place, total_bytes}
use Rattle.qg_super.specs.SuperText.{sizes_of}
use Rattle.qg_image.specs.Below.{items_below, nodes_below}
use Rattle.qg_image.specs.FilesOf.{AreItemsOfFiles}
use Rattle.qg_image.specs.Table.{value_at}
use Rattle.qg_image.specs.declared.element.Element.{Element}
use Rattle.qg_image.specs.Owed.{layout_extents}
use Rattle.qg_image.specs.State.{Placed, State, Subvolume, layout_of, next_generation, node_at}
use Rattle.qg_image.specs.Reach.{level_of}
use Rattle.qg_image.specs.declared.tree.TreeKind.{TreeKind}
use Rattle.qg_image.specs.declared.tree.TreeKind.TheVariants.{Files}
use Rattle.qg_image.specs.declared.expected.Expected.{Expected}
use Rattle.qg_image.specs.Walk.{node_found, root_told, tree_failure}
use Rattle.qg_image.specs.OtherTrees.{root_item_of}
use Rattle.qg_image.specs.ItemsUnder.{items_under, nodes_under}
use Rattle.qg_image.specs.ImageState.{super_in, level_in, nodes_of_root, tree_items, tree_nodes}

-- an image has this superblock at both places, is as long as it says, and has these nodes where they lie
pub record HasCommit (super : Super) (nodes : List Node) (image : List ℕ) : Type 0 where
  pub first : super_in image first_place ≡ Some super
  pub second : super_in image second_place ≡ Some super
  pub long : total_bytes (sizes_of super) ≤ length image
  pub found : All (λ node. node_found super image (header_of node).address ≡ Ok node) nodes

-- in the image a tree breaks no rule, and these are its items and, in some order, its nodes
pub record IsTreeIn (tree : TreeKind) (super : Super) (image : List ℕ) (expected : Expected) (root : ℕ)
    (items : List Item)
    (nodes : List Node) : Type 0 where
  pub walked : tree_failure tree super image expected root ≡ None
  pub items_are : tree_items tree super image expected root ≡ items
  pub those : List Node
  pub nodes_are : tree_nodes tree super image expected root ≡ those
  pub same : IsPermutation those nodes
  -- so both are defined
  pub own : items_under tree super (node_found super image) (level_in super image root) expected root ≡ Some items
  pub under : nodes_under tree super (node_found super image) (level_in super image root) expected root ≡ Some those

-- each node of a layout stands at its address in an image
abbrev pub HoldsLayout : Super → List ℕ → List (ℕ × Placed) → Type 0
HoldsLayout super image layout = AllByRecursion (λ entry. node_found super image entry.0 ≡ Ok entry.1.node) layout

-- the next commit of a state may write this superblock: what it says of the root tree is left open
pub record IsToCome (state : State) (super : Super) : Type 0 where
  pub generation : super.generation ≡ next_generation state
  pub same_sizes : sizes_of super ≡ state.sizes

-- A subvolume's tree in a state breaks no rule in an image, by the ROOT_ITEM of its root node. Its items and nodes
-- there are those that the state's layout has under the root
pub record IsWalkedIn (state : State) (subvolume : Subvolume) (super : Super) (image : List ℕ) : Type 0 where
  pub node : Node
  pub there : node_at state.layout subvolume.root ≡ Some node
  pub items : List Item
  pub held : items_below (node_at state.layout) (level_of (node_at state.layout subvolume.root)) subvolume.root
      ≡ Some items
  pub files : AreItemsOfFiles super.generation items subvolume.files
  pub nodes : List Node
  pub below : nodes_below (node_at state.layout) (level_of (node_at state.layout subvolume.root)) subvolume.root
      ≡ Some nodes
  pub walked : IsTreeIn Files super image (root_told (root_item_of subvolume node)) subvolume.root items nodes

-- the data extents that the leaves of a state's layout name are runs of the data area
abbrev pub AreRuns : State → Type 0
AreRuns state = (run : Element) → Contains (layout_extents (layout_of state)) run
    → IsTrue (is_run state.sizes run.address run.bytes)

-- nodes are those of a layout: each node of it is one of them, and each lies there
pub record AreThoseOf (layout : List (ℕ × Placed)) (nodes : List Node) : Type 0 where
  pub met : (at : ℕ) (placed : Placed) → value_at at layout ≡ Some placed → Contains nodes placed.node
  pub there : (node : Node) → Contains nodes node → node_at layout (header_of node).address ≡ Some node

-- the nodes of the trees that have these ROOT_ITEMs in an image, all together
abbrev pub nodes_of_roots : Super → List ℕ → List (ℕ × RootItem) → List Node
nodes_of_roots super image roots = flat_map (λ entry. nodes_of_root Files super image entry.1) roots
