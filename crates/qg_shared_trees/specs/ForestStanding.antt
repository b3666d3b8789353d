-- What nodes in memory, a disk and a book of references hold of a state of the machine, whose subvolumes may share
-- nodes and extents (this project's own). Addresses and lengths are in bytes.
use Rattle.std.specs.Prelude.{◌≡◌, ◌↔◌, ℕ, List, Option, Some, None, IsTrue, Contains}
use Rattle.std.specs.List.Sorted.{IsStrictlyIncreasing}
use Rattle.qg_device.specs.History.{History}
use Rattle.qg_super.specs.declared.sizes.Sizes.{Sizes}
use Rattle.qg_super.specs.Places.{is_run, is_slot}
use Rattle.qg_image.specs.Table.{keys_of, value_at}
use Rattle.qg_image.specs.declared.element.Element.{Element}
use Rattle.qg_image.specs.Owed.{homeless}
use Rattle.qg_image.specs.Space.{present_extents}
use Rattle.qg_image.specs.State.{Placed, State, Subvolume, layout_of, next_generation}
use Rattle.qg_machine.specs.Layout.{IsWhole}
use Rattle.qg_machine.specs.Refusals.{root_level}
use Rattle.qg_blocks.specs.NodesFound.{told}
use Rattle.qg_tree_backrefs.specs.Types.{Ground}
use Rattle.qg_refs.specs.Book.{AgreesWithOwed, Book, full_in, what_in}
use Rattle.qg_extents.specs.Table.{book_of}
use Rattle.qg_tree_read.specs.Tree.{Root}
use Rattle.qg_tree_backrefs.specs.declared.tree_refs.TreeRefs.{TreeRefs}
use Rattle.qg_tree_backrefs.specs.Settled.{IsSettled}

-- ---- trees

-- the address of a subvolume's root node
abbrev pub root_of : State → ℕ → ℕ
root_of state sub = root_told (value_at sub state.subvolumes) where
  root_told : Option Subvolume → ℕ
  root_told None = 0
  root_told (Some subvolume) = subvolume.root

-- a subvolume's tree: its root, the root's level, and the subvolume's number; what is made for it is of the
-- generation to come
abbrev pub tree_of : State → ℕ → Root
tree_of state sub = record {
  address = root_of state sub;
  height = root_level state sub;
  owner = sub;
  next = next_generation state;
}

-- ---- nodes and extents

-- a node of the layout lies in a slot and is told there, with the mark that the book has of it
pub record HoldsNode (land : Ground) (history : History) (book : TreeRefs) (at : ℕ) (placed : Placed) :
    Type 0
  where
    pub slot : IsTrue (is_slot land.space.sizes at)
    pub told : told land.blocks.draft history at ≡ Some placed.node
    pub mark : full_in (book_of book.refs at) ≡ placed.full

-- an extent is a run of whole sectors, and its length is known
pub record IsKnownRun (sizes : Sizes) (book : Book) (run : Element) : Type 0 where
  pub lies : IsTrue (is_run sizes run.address run.bytes)
  pub generation : ℕ
  pub known : what_in (book run.address)
      ≡ Some (record { bytes = run.bytes; level = None; generation = generation })

-- ---- the state

-- Nodes in memory, a disk and a book hold a state. Its subvolumes ascend by number, its layout is that of its files,
-- and each node that is not full is reached by its owner. The layout's nodes are told, and the book counts exactly
-- what the layout owes; what stands of book, nodes and space between two edits stands. The runs that are taken are
-- the extents of the present files, and slots and runs of the last commit are those that the state's holds
pub record HoldsState (land : Ground) (history : History) (book : TreeRefs) (state : State) : Type 0 where
  pub sizes : state.sizes ≡ land.space.sizes
  pub nodesize : book.nodesize ≡ state.sizes.nodesize
  pub next : book.next ≡ next_generation state
  pub fits : book.misfit ≡ None
  pub numbers : IsStrictlyIncreasing (keys_of state.subvolumes)
  pub whole : IsWhole state
  pub home : homeless (layout_of state) ≡ None
  pub nodes : (at : ℕ) (placed : Placed) → value_at at state.layout ≡ Some placed
      → HoldsNode land history book at placed
  pub agrees : AgreesWithOwed (layout_of state) (book_of book.refs)
  pub settled : IsSettled book land history
  pub extents : (run : Element) → Contains (present_extents state) run
      → IsKnownRun state.sizes (book_of book.refs) run
  pub runs : (run : Element) → Contains land.space.runs run ↔ Contains (present_extents state) run
  pub held_slots : (slot : ℕ) → Contains land.space.held_slots slot ↔ Contains state.held.nodes slot
  pub held_runs : (run : Element) → Contains land.space.held_runs run ↔ Contains state.held.extents run
