-- Which layouts of nodes the machine may come to: slots and the cut of trees are its only free choices (this project's
-- own).
use Rattle.std.specs.Prelude.{◌≡◌, ◌⊎◌, ℕ, ◌≤◌, Bool, false, ◌&&◌, ◌||◌, not, List, length, map, Some, None, Result}
use Rattle.std.specs.Prelude.{◌==◌, IsTrue}
use Rattle.std.specs.List.{Contains, list_all, list_any, filter, AllByRecursion}
use Rattle.std.specs.List.Sorted.{IsStrictlyIncreasing}
use Rattle.qg_node.specs.declared.item.Item.{Item}
use Rattle.qg_node.specs.declared.node.Node.{Node}
use Rattle.qg_node.specs.Nodes.{header_of}
use Rattle.qg_node.specs.NodeText.{IsNode}
use Rattle.qg_node.specs.Fits.{NodeFits}
use Rattle.qg_super.specs.declared.superblock.Super.{Super}
use Rattle.qg_super.specs.Places.{is_slot}
use Rattle.qg_image.specs.Table.{value_at, has_key, keys_of}
use Rattle.qg_image.specs.FilesOf.{AreItemsOfFiles}
use Rattle.qg_image.specs.State.{State, Subvolume, Placed, layout_of, node_at, next_generation}
use Rattle.qg_image.specs.Reach.{level_of, reaches, is_reached, owners}
use Rattle.qg_image.specs.Space.{is_free_slot}
use Rattle.qg_image.specs.declared.failure.Failure.{Failure}
use Rattle.qg_image.specs.declared.tree.TreeKind.TheVariants.{Files}
use Rattle.qg_image.specs.Walk.{root_expected, node_failure, walk_failure, deepest}
use Rattle.qg_image.specs.ItemsUnder.{items_under}
use Rattle.qg_image.specs.Among.{found_there}

-- ---- a state whose layout is that of its files

-- what the layout has at an address
abbrev pub found_in : List (ℕ × Placed) → ℕ → Result Node Failure
found_in layout address = found_there (node_at layout address) address

-- the superblock that the next commit would write, its root left open
abbrev pub super_to_come : State → Super
super_to_come state = record {
  generation = next_generation state;
  root = 0;
  nodesize = state.sizes.nodesize;
  slots = state.sizes.slots;
  sectors = state.sizes.sectors;
  format = 1;
}

-- the tree under a subvolume's root breaks no rule of the walk over an image that the next commit would write (levels,
-- owners, generations, key ranges, shape, items), and holds the items of its files
pub record IsTreeOf (state : State) (subvolume : Subvolume) : Type 0 where
  pub items : List Item
  pub walked : walk_failure (node_failure Files (super_to_come state)) (found_in state.layout) deepest
      (root_expected None None) subvolume.root ≡ None
  pub under :
      items_under Files (super_to_come state) (found_in state.layout) (level_of (node_at state.layout subvolume.root))
      (root_expected None None) subvolume.root
      ≡ Some items
  pub files : AreItemsOfFiles (next_generation state) items subvolume.files

-- a node of the layout is one of the format, its numbers fit their fields, it stands under its address, and some
-- subvolume reaches it
pub record IsReached (state : State) (entry : ℕ × Placed) : Type 0 where
  pub node_of_format : IsNode state.sizes.nodesize entry.1.node
  pub fits : NodeFits entry.1.node
  pub placed : (header_of entry.1.node).address ≡ entry.0
  pub reached : IsTrue (is_reached (layout_of state) entry.0)

-- the layout is that of the files: it is a table (addresses ascend, each once), each subvolume has its tree, and there
-- are no other nodes
pub record IsWhole (state : State) : Type 0 where
  pub ascending : IsStrictlyIncreasing (keys_of state.layout)
  pub trees : AllByRecursion (λ entry. IsTreeOf state entry.1) state.subvolumes
  pub reached : AllByRecursion (IsReached state) state.layout

-- ---- after a file command, by copy on write

-- a node is another subvolume's too, or the last commit holds it
abbrev pub is_fixed : State → ℕ → ℕ → Bool
is_fixed state sub address =
    list_any (λ other. not (other == sub)) (owners (layout_of state) address)
    || list_any (λ node. node == address) state.held.nodes

-- a node that stays is full exactly where it was or where its owner no longer reaches it
abbrev pub is_full_after : State → Placed → ℕ → Bool
is_full_after new placed address = placed.full || not (reaches (layout_of new) (header_of placed.node).owner address)

-- a node that is edited where it lies has the owner and the generation that it had
abbrev pub has_same_maker : Node → Node → Bool
has_same_maker node other = ((header_of node).owner == (header_of other).owner)
    && ((header_of node).generation == (header_of other).generation)

-- a node that stays is full where it must be and has its maker; where it is fixed it stays as it is
pub record StaysAs (old new : State) (sub : ℕ) (entry : ℕ × Placed) (placed : Placed) : Type 0 where
  pub full : placed.full ≡ is_full_after new entry.1 entry.0
  pub maker : IsTrue (has_same_maker placed.node entry.1.node)
  pub fixed : IsTrue (is_fixed old sub entry.0) → placed.node ≡ entry.1.node

-- a node of the layout stays as it may; any node goes where nobody reaches it
abbrev pub KeepsNode : State → State → ℕ → ℕ × Placed → Type 0
KeepsNode old new sub entry = (placed : Placed) → value_at entry.0 new.layout ≡ Some placed
    → StaysAs old new sub entry placed

-- a node that was not there lies in a free slot, is the subvolume's, of the generation to come, and not full
abbrev pub is_made_node : State → ℕ → ℕ × Placed → Bool
is_made_node old owner entry =
    is_free_slot old entry.0 && ((header_of entry.1.node).owner == owner)
    && ((header_of entry.1.node).generation == next_generation old) && not entry.1.full

-- the nodes of the new state that the old one hadn't
abbrev pub made_nodes : State → State → List (ℕ × Placed)
made_nodes old new = filter (λ entry. not (has_key entry.0 old.layout)) new.layout

-- the layout follows the files of one subvolume, which it may give new nodes, so many at most
pub record CopiesOnWrite (old new : State) (sub copies : ℕ) : Type 0 where
  pub whole : IsWhole new
  pub kept : AllByRecursion (KeepsNode old new sub) old.layout
  pub made : IsTrue (list_all (is_made_node old sub) (made_nodes old new))
  pub few : length (made_nodes old new) ≤ copies

-- ---- the other trees

-- A node of the root, extent or quota tree lies in a slot that the layout leaves: a free one, or it is itself a node
-- that one of these trees had in the last commit, and stays where it was
pub record LiesInOtherSlot (old new : State) (node : Node) : Type 0 where
  pub slot : IsTrue (is_slot old.sizes (header_of node).address)
  pub left : has_key (header_of node).address new.layout ≡ false
  pub free_or_held : IsTrue (is_free_slot old (header_of node).address) ⊎ Contains old.held.others node
