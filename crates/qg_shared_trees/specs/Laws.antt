-- What subvolumes' trees are in a state of the machine (this project's own).
use Rattle.std.specs.Prelude.{◌≡◌, ◌≢◌, ℕ, ◌^◌, ◌<◌, ◌≤◌, List, IsTrue, Contains, All}
use Rattle.std.specs.List.{AllByRecursion, flat_map}
use Rattle.qg_device.specs.History.{History}
use Rattle.qg_num.specs.declared.piece.Piece.{Piece}
use Rattle.qg_node.specs.declared.item.Item.{Item}
use Rattle.qg_node.specs.Fits.{ItemFits}
use Rattle.qg_super.specs.Places.{data_begin, is_slot}
use Rattle.qg_image.specs.declared.file.File.{File}
use Rattle.qg_tree_items.specs.Writable.{AreWritableFiles}
use Rattle.qg_root_items.specs.Written.{items_of_file}
use Rattle.qg_machine.specs.Layout.{IsTreeOf, IsWhole}
use Rattle.qg_image.specs.State.{State}
use Rattle.qg_refs.specs.Book.{full_in}
use Rattle.qg_extents.specs.Table.{book_of}
use Rattle.qg_image.specs.Walk.{deepest}
use Rattle.qg_shared_trees.specs.Tree.{Root}
use Rattle.qg_fs_tree.specs.declared.fs_tree.FsTree.{FsTree}
use Rattle.qg_fs_tree.specs.Standing.{IsSubvolume, KeepsTree, Stands, items_in, trees_of}
use Rattle.qg_shared_trees.specs.Laying.{AreFit, AreThoseReached, CopiesNodes, HaveFiles, HoldsSlots, IsCounted}
use Rattle.qg_shared_trees.specs.Laying.{IsLaidOut}
use Rattle.qg_shared_trees.specs.Laying.{IsMet, IsMoved, names_in}

-- the nodes of the trees as a layout are those that some tree reaches
abbrev pub NodesAreThoseReached : Type 0
NodesAreThoseReached = (fs : FsTree) (history : History)
    → 0 < fs.land.space.sizes.nodesize
    → ((q : ℕ) → IsMet fs history q → IsTrue (is_slot fs.land.space.sizes q))
    → AreThoseReached fs history

-- each tree that stands is no higher than the walk goes
abbrev pub IsLow : Type 0
IsLow = (fs : FsTree) (history : History) (bytes : ℕ) (items : List Item) (names : List (ℕ × Piece))
    → IsSubvolume fs history bytes → Stands fs history items names
    → (tree : Root) → Contains (trees_of fs) tree → tree.height ≤ deepest

-- where trees stand, and their items are those of their subvolumes' files, each subvolume has its tree in the state
abbrev pub TreesAreWalked : Type 0
TreesAreWalked = (fs : FsTree) (history : History) (bytes : ℕ) (items : List Item)
    (names : List (ℕ × Piece)) (state : State)
    → IsSubvolume fs history bytes → Stands fs history items names → IsLaidOut state fs history
    → HaveFiles state fs history → AllByRecursion (λ entry. IsTreeOf state entry.1) state.subvolumes

-- the nodes that trees reach fit, where the generation to come fits, and their items do
abbrev pub NodesFitByItems : Type 0
NodesFitByItems = (fs : FsTree) (history : History) (bytes : ℕ) (items : List Item)
    (names : List (ℕ × Piece)) → IsSubvolume fs history bytes → Stands fs history items names
    → fs.tree.next < 2 ^ 64
    → ((tree : Root) → Contains (trees_of fs) tree → All ItemFits (items_in fs history tree)) → AreFit fs history

-- the items that are written for files fit
abbrev pub ItemsOfFilesFit : Type 0
ItemsOfFilesFit = (files : List (ℕ × File)) → AreWritableFiles files → All ItemFits (flat_map items_of_file files)

-- and where they fit, the state's layout is that of its files
abbrev pub StateIsWhole : Type 0
StateIsWhole = (fs : FsTree) (history : History) (bytes : ℕ) (items : List Item) (names : List (ℕ × Piece))
    (state : State)
    → IsSubvolume fs history bytes → Stands fs history items names → IsLaidOut state fs history
    → HaveFiles state fs history → AreFit fs history → IsWhole state

-- edits, one after the other, make of the trees what they make of them together; where they stand none makes nothing
-- of them, and a piece that names an extent in the data area, or names it no more, makes nothing of them either
pub record MovesCompose : Type 0 where
  pub none : (fs : FsTree) (history : History) (items : List Item) (names : List (ℕ × Piece))
      → Stands fs history items names → IsMoved fs fs history
  pub named : (old new : FsTree) (history : History) (bytes at : ℕ) (items : List Item)
      (names : List (ℕ × Piece)) → IsSubvolume old history bytes → Stands old history items names → KeepsTree old new
      → data_begin ≤ at
      → ((q : ℕ) → q ≢ at → full_in (book_of new.refs.refs q) ≡ full_in (book_of old.refs.refs q))
      → IsMoved old new history
  pub both : (a b c : FsTree) (history : History) → IsMoved a b history → IsMoved b c history
      → IsMoved a c history

-- edits between two commits leave a layout that follows the one before by copy on write
abbrev pub CommandsCopy : Type 0
CommandsCopy = (old new : FsTree) (history : History) (bytes left : ℕ) (items items_new : List Item)
    (names names_new : List (ℕ × Piece)) (before after : State)
    → IsSubvolume old history bytes → Stands old history items names
    → IsSubvolume new history left → Stands new history items_new names_new → IsMoved old new history
    → IsLaidOut before old history → IsLaidOut after new history
    → HoldsSlots before old.land.space.held_slots → CopiesNodes before after old.tree.owner

-- where the pieces that are named are those of the items, what is owed is counted
abbrev pub OwedIsCounted : Type 0
OwedIsCounted = (fs : FsTree) (history : History) (bytes : ℕ) (items : List Item) (state : State)
    → IsSubvolume fs history bytes → Stands fs history items (names_in items)
    → IsLaidOut state fs history → HaveFiles state fs history → IsCounted state fs history
