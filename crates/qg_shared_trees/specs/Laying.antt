-- The trees of subvolumes, as they stand between two edits, and the layout of a state of the machine (this project's
-- own). Addresses are in bytes.
use Rattle.std.specs.Prelude.{◌≡◌, ◌↔◌, ℕ, ◌<◌, List, Some, Contains, IsTrue}
use Rattle.std.specs.List.{filter_map, list_all, AllByRecursion}
use Rattle.std.specs.List.Sorted.{IsStrictlyIncreasing}
use Rattle.qg_device.specs.History.{History}
use Rattle.qg_num.specs.declared.piece.Piece.{Piece}
use Rattle.qg_node.specs.declared.item.Item.{Item}
use Rattle.qg_node.specs.declared.node.Node.{Node}
use Rattle.qg_node.specs.Fits.{NodeFits}
use Rattle.qg_node.specs.Nodes.{header_of}
use Rattle.qg_node.specs.NodeText.{IsNode}
use Rattle.qg_items.specs.declared.extent.Reference.{Reference}
use Rattle.qg_image.specs.FilesOf.{AreItemsOfFiles}
use Rattle.qg_image.specs.Table.{keys_of, value_at}
use Rattle.qg_machine.specs.Layout.{KeepsNode, is_made_node, made_nodes}
use Rattle.qg_image.specs.declared.element.Element.{Element}
use Rattle.qg_image.specs.Owed.{layout_extents, owed_count}
use Rattle.qg_image.specs.Space.{present_extents}
use Rattle.qg_image.specs.State.{Placed, State, Subvolume, layout_of, next_generation, node_at}
use Rattle.qg_refs.specs.Book.{AgreesWithOwed, full_in, what_in}
use Rattle.qg_extents.specs.Table.{book_of}
use Rattle.qg_shared_trees.specs.ForestStanding.{IsKnownRun}
use Rattle.qg_shared_trees.specs.Tree.{Root}
use Rattle.qg_shared_trees.specs.Settled.{what_of}
use Rattle.qg_fs_tree.specs.declared.fs_tree.FsTree.{FsTree}
use Rattle.qg_fs_tree.specs.Standing.{IsReachedBy, Moves, items_in, layout_in, name_told, nodes_of, trees_of, ways_in}

-- ---- the nodes of the layout

-- the nodes that some tree reaches, each with its address
abbrev pub nodes_in : FsTree → History → List (ℕ × Placed)
nodes_in fs history = (layout_in fs history).nodes

-- some tree reaches an address
pub record IsMet (fs : FsTree) (history : History) (q : ℕ) : Type 0 where
  pub tree : Root
  pub among : Contains (trees_of fs) tree
  pub reached : IsReachedBy fs history tree q

-- some tree reaches an address, and this node is told there, with the mark that is kept of it
pub record IsMetAs (fs : FsTree) (history : History) (q : ℕ) (placed : Placed) : Type 0 where
  pub met : IsMet fs history q
  pub told : nodes_of fs history q ≡ Some placed.node
  pub full : placed.full ≡ full_in (book_of fs.refs.refs q)

-- The nodes of the trees as a layout are a table by address: what some tree reaches and is told there, and nothing
-- else. A tree reaches what ways lead to
pub record AreThoseReached (fs : FsTree) (history : History) : Type 0 where
  pub ascending : IsStrictlyIncreasing (keys_of (nodes_in fs history))
  pub among : (q : ℕ) (placed : Placed)
      → value_at q (nodes_in fs history) ≡ Some placed ↔ IsMetAs fs history q placed
  pub told : (q : ℕ) (node : Node)
      → node_at (nodes_in fs history) q ≡ Some node ↔ (IsMet fs history q × (nodes_of fs history q ≡ Some node))
  pub ways : (tree : Root) (q : ℕ) → IsReachedBy fs history tree q ↔ 0 < ways_in fs history tree q

-- ---- nodes that fit

-- a node has a text of so many bytes, and its numbers fit their fields
pub record IsFit (nodesize : ℕ) (node : Node) : Type 0 where
  pub sound : IsNode nodesize node
  pub fits : NodeFits node

-- so it is of each node that some tree reaches
abbrev pub AreFit : FsTree → History → Type 0
AreFit fs history = (q : ℕ) (node : Node) → IsMet fs history q → nodes_of fs history q ≡ Some node
    → IsFit fs.land.space.sizes.nodesize node

-- ---- the state

-- the layout of a state is the trees, as they stand: each subvolume has one of them
pub record IsLaidOut (state : State) (fs : FsTree) (history : History) : Type 0 where
  pub sizes : state.sizes ≡ fs.land.space.sizes
  pub generation : next_generation state ≡ fs.tree.next
  pub layout : layout_of state ≡ layout_in fs history

-- the items of each tree are those of its subvolume's files
abbrev pub HaveFiles : State → FsTree → History → Type 0
HaveFiles state fs history = (tree : Root) (subvolume : Subvolume) → Contains (trees_of fs) tree
    → value_at tree.owner state.subvolumes ≡ Some subvolume
    → AreItemsOfFiles fs.tree.next (items_in fs history tree) subvolume.files

-- ---- edits, one after the other

-- What edits of a tree make of it between two commits: number, generation to come and sizes stay, and so does what the
-- last commit holds, which is told as it was
pub record IsMoved (old new : FsTree) (history : History) : Type 0 where
  pub moves : Moves old new history
  pub owner : new.tree.owner ≡ old.tree.owner
  pub next : new.tree.next ≡ old.tree.next
  pub sizes : new.land.space.sizes ≡ old.land.space.sizes
  pub held_slots : new.land.space.held_slots ≡ old.land.space.held_slots
  pub kept : (q : ℕ) → Contains old.land.space.held_slots q → nodes_of new history q ≡ nodes_of old history q

-- the last commit of a state holds these slots
abbrev pub HoldsSlots : State → List ℕ → Type 0
HoldsSlots state slots = (slot : ℕ) → Contains slots slot ↔ Contains state.held.nodes slot

-- a state's layout follows another's by copy on write: nodes that stay are as they may be, and so are new ones
pub record CopiesNodes (old new : State) (sub : ℕ) : Type 0 where
  pub kept : AllByRecursion (KeepsNode old new sub) old.layout
  pub made : IsTrue (list_all (is_made_node old sub) (made_nodes old new))

-- ---- what is owed

-- the pieces that items tell, each with the number of its file
abbrev pub names_in : List Item → List (ℕ × Piece)
names_in items = filter_map name_told items

-- What a state's layout owes is what the tree owes, and exactly that is counted. Of each node level, generation and
-- mark are known; the extents that leaves name are those of the present files, and their lengths are known
pub record IsCounted (state : State) (fs : FsTree) (history : History) : Type 0 where
  pub owed : (at : ℕ) (reference : Reference)
      → owed_count (layout_of state) at reference ≡ owed_count (layout_in fs history) at reference
  pub agrees : AgreesWithOwed (layout_of state) (book_of fs.refs.refs)
  pub nodes : (q : ℕ) (placed : Placed) → value_at q state.layout ≡ Some placed
      → what_in (book_of fs.refs.refs q)
      ≡ Some (what_of fs.land.space.sizes.nodesize (header_of placed.node).generation placed.node)
  pub marks : (q : ℕ) (placed : Placed) → value_at q state.layout ≡ Some placed
      → full_in (book_of fs.refs.refs q) ≡ placed.full
  pub extents : (run : Element) → Contains (layout_extents (layout_of state)) run ↔ Contains (present_extents state) run
  pub known : (run : Element) → Contains (layout_extents (layout_of state)) run
      → IsKnownRun fs.land.space.sizes (book_of fs.refs.refs) run
