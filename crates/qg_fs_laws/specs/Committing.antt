-- A commit of subvolumes' trees that are kept of a state of the machine, and what it leaves (this project's own).
--
-- Addresses and lengths are in bytes.
use Rattle.std.specs.Prelude.{◌≡◌, ℕ, ◌≤◌, List, Option, Some, IsTrue, All, Contains, length}
use Rattle.std.specs.List.Sorted.{IsPermutation}
use Rattle.qg_device.specs.History.{Event, History, Recorded, content}
use Rattle.qg_num.specs.declared.counters.Counters.{Counters}
use Rattle.qg_num.specs.declared.piece.Piece.{Piece}
use Rattle.qg_items.specs.declared.root.RootItem.{RootItem}
use Rattle.qg_super.specs.Places.{data_begin, is_slot, total_bytes}
use Rattle.qg_image.specs.declared.file.File.{File}
use Rattle.qg_image.specs.Table.{keys_of, value_at, without_key}
use Rattle.qg_image.specs.declared.quota.Quota.{Quota}
use Rattle.qg_image.specs.Counts.{StoresCounts}
use Rattle.qg_image.specs.State.{State, Subvolume}
use Rattle.qg_image.specs.Verdict.{longest_extent}
use Rattle.qg_machine.specs.Written.{new_nodes}
use Rattle.qg_machine.specs.Step.{Commits}
use Rattle.qg_refs.specs.declared.kept.What.{What}
use Rattle.qg_refs.specs.Book.{what_in}
use Rattle.qg_extents.specs.Table.{book_of}
use Rattle.qg_space.specs.Holding.{AscendApart, Holding}
use Rattle.qg_weighed.specs.Laws.{IsRecorded}
use Rattle.qg_tree_read.specs.Tree.{Root}
use Rattle.qg_file_edits.specs.Types.{FsTree}
use Rattle.qg_file_edits.specs.Standing.{trees_of}
use Rattle.qg_file_edits.specs.Changes.{files_cloned_from, files_cut, files_written}
use Rattle.qg_commit.specs.Types.{OtherTrees}
use Rattle.qg_commit.specs.Sound.{committed}
use Rattle.qg_commit.specs.Sound as sound
use Rattle.qg_commit.specs.HoldsAfter.{AreFree, with_tree_commit}
use Rattle.qg_commit.specs.Writing.{IsLaying, nodes_written}
use Rattle.qg_fs_laws.specs.Keeping.{AreDueCounters, IsKept, KeepsState, NamesOthers, other_names, quota_laid}

-- ---- what is asked

-- the slots of the present state are slots of the image, and its runs are of whole sectors, ascend and lie apart
pub record IsInOrder (space : Holding) : Type 0 where
  pub slots : (slot : ℕ) → Contains space.slots slot → IsTrue (is_slot space.sizes slot)
  pub runs : AscendApart space.sizes data_begin space.runs

-- no extent that pieces name is longer than the longest
abbrev pub AreShortPieces : List Piece → Type 0
AreShortPieces pieces = All (λ piece. piece.extent_bytes ≤ longest_extent) pieces

-- none that files name
abbrev pub AreShort : List (ℕ × File) → Type 0
AreShort files = All (λ file. AreShortPieces file.1.pieces) files

-- none that a state's subvolumes name
abbrev pub IsShort : State → Type 0
IsShort state = All (λ entry. AreShort entry.1.files) state.subvolumes

-- so it is of the files that each file command leaves, if a write makes no longer one, and a clone takes pieces that
-- name no longer one
pub record LeavesShort (generation : ℕ) (files : List (ℕ × File)) : Type 0 where
  pub written : (ino off len extent : ℕ) → len ≤ longest_extent
      → AreShort (files_written generation ino off len extent files)
  pub cloned : (pieces : List Piece) (from len ino off : ℕ) → AreShortPieces pieces
      → AreShort (files_cloned_from generation pieces from len ino off files)
  pub cut : (ino size : ℕ) (file : File) → value_at ino files ≡ Some file
      → AreShort (files_cut generation ino size file files)
  pub unlinked : (ino : ℕ) → AreShort (without_key ino files)

-- the ROOT_ITEM of a tree whose root node is of this generation, and whose subvolume's last snapshot is of that one
abbrev pub root_made : Root → ℕ → ℕ → RootItem
root_made tree last_snapshot generation = record {
  generation = generation;
  bytenr = tree.address;
  last_snapshot = last_snapshot;
  refs = 1;
  level = tree.height;
}

-- a tree's ROOT_ITEM, of the generation that the book knows of its root node
pub record IsRootNow (fs : FsTree) (tree : Root) (last_snapshot : ℕ) (root : RootItem) : Type 0 where
  pub what : What
  pub known : what_in (book_of fs.refs.refs tree.address) ≡ Some what
  pub root_is : root ≡ root_made tree last_snapshot what.generation

-- ROOT_ITEMs are those of a state's subvolumes, by number, each that of its tree
pub record AreRootsNow (fs : FsTree) (state : State) (roots : List (ℕ × RootItem)) : Type 0 where
  pub numbers : keys_of roots ≡ keys_of state.subvolumes
  pub each : (tree : Root) (subvolume : Subvolume) (root : RootItem) → Contains (trees_of fs) tree
      → value_at tree.owner state.subvolumes ≡ Some subvolume → value_at tree.owner roots ≡ Some root
      → IsRootNow fs tree subvolume.last_snapshot root

-- Trees are kept of a state over a disk that tells and is as long as the image, and there are counts for its groups.
-- The root, extent and quota trees of the next generation are laid out in free slots, and tell the trees and the counts
pub record LaysTree (fs : FsTree) (events : List Event) (bytes : ℕ) (state : State) (mine : Subvolume)
    (files : List (ℕ × File)) (roots : List (ℕ × RootItem)) (counters : ℕ → Counters) (slots : List ℕ)
    (trees : OtherTrees) : Type 0 where
  pub kept : IsKept fs (Recorded events) bytes
  pub keeps : KeepsState fs (Recorded events) state mine files
  pub order : IsInOrder fs.land.space
  pub short : IsShort state
  pub long : total_bytes fs.land.space.sizes ≤ length (content events)
  pub counted : AreDueCounters state counters
  pub roots_are : AreRootsNow fs state roots
  pub free : AreFree fs.land.space slots
  pub laid : IsLaying fs.land.space.sizes fs.tree.next roots fs.refs.refs
      (quota_laid fs.tree.next counters state.quota) slots fs.land.blocks.draft trees

-- ---- what the disk holds

-- Once the commit's calls were made the image is sound, and stands for the state that the commit leaves, whose quota is
-- this. That is one of the machine; the nodes written are those that the commit before did not hold, in some
-- order; and each group stores the counters that are due
pub record IsSoundCommit (fs : FsTree) (events : List Event) (state : State) (quota : Option Quota) (slots : List ℕ)
    (trees : OtherTrees) : Type 0 where
  pub is : sound.IsCommitted trees state quota slots (content (with_tree_commit fs trees events))
  pub machine : Commits state (committed is.others state quota)
  pub written : IsPermutation (nodes_written fs.land.blocks.draft trees)
      (new_nodes state.held (committed is.others state quota))
  pub counted : StoresCounts (committed is.others state quota)

-- ---- what is kept

-- Trees are kept of a committed state, whose extent tree is what the book holds; and the items of its other trees name
-- what those of its subvolumes and groups do
pub record KeepsCommit (fs : FsTree) (history : History) (state : State) (mine : Subvolume)
    (files : List (ℕ × File)) : Type 0 where
  pub keeps : KeepsState fs history state mine files
  pub recorded : IsRecorded state fs.refs.held
  pub others : NamesOthers state.held (other_names state)
