-- Trees that have the items of files: the one at hand before a command and after it, and others (this project's own).
--
-- Positions, lengths and sizes are in bytes.
use Rattle.std.specs.Prelude.{◌≡◌, ℕ, ◌+◌, ◌*◌, ◌<◌, ◌≤◌, List, All, IsTrue}
use Rattle.std.specs.List.{flat_map}
use Rattle.std.specs.Option.{option_map}
use Rattle.qg_device.specs.History.{History}
use Rattle.qg_num.specs.declared.piece.Piece.{Piece}
use Rattle.qg_image.specs.declared.file.File.{File}
use Rattle.qg_image.specs.FilesOf.{inodes_end, is_aligned, largest_size, least_inode}
use Rattle.qg_image.specs.Table.{value_at}
use Rattle.qg_machine.specs.FileChange.{pieces_or_none}
use Rattle.qg_tree_items.specs.Writable.{AreWritableFiles, IsFileBy}
use Rattle.qg_root_items.specs.Written.{inode_of, items_of_file}
use Rattle.qg_space.specs.Holding.{free_slots}
use Rattle.qg_tree_read.specs.Tree.{Root}
use Rattle.qg_file_edits.specs.PiecesWritten.{pieces_met}
use Rattle.qg_file_edits.specs.Named.{named}
use Rattle.qg_image.specs.Need.{file_copies}
use Rattle.qg_shared_trees.specs.Heavier.{BookGetsHeavier, edit_bytes, name_new_bytes}
use Rattle.qg_shared_trees.specs.Types.{FsTree}
use Rattle.qg_shared_trees.specs.Standing.{IsSubvolume, Stands, items_in, made_slots, taken_slots}
use Rattle.qg_shared_trees.specs.Laying.{IsMoved}
use Rattle.qg_file_edits.specs.declared.found.Found.{Found}

-- ---- where the tree is told

-- a tree has the items of these files, and the pieces that name extents are theirs. The files can be written, and tell
-- no generation past the one to come
pub record HoldsFiles (fs : FsTree) (history : History) (files : List (ℕ × File)) : Type 0 where
  pub stands : Stands fs history (flat_map items_of_file files) (named files)
  pub writable : AreWritableFiles files
  pub by : All (IsFileBy fs.tree.next) files

-- a tree has the items of these files, which can be written, and tell no generation past the one to come
pub record HasFiles (fs : FsTree) (history : History) (tree : Root) (files : List (ℕ × File)) : Type 0 where
  pub items : items_in fs history tree ≡ flat_map items_of_file files
  pub writable : AreWritableFiles files
  pub by : All (IsFileBy fs.tree.next) files

-- the pieces of the file of a number; none where there is no such file
abbrev pub pieces_of : ℕ → List (ℕ × File) → List Piece
pieces_of ino files = pieces_or_none (value_at ino files)

-- what was read of a file is its INODE_ITEM, if there is such a file, and the pieces of it that a range meets
pub record Finds (files : List (ℕ × File)) (ino from to : ℕ) (found : Found) : Type 0 where
  pub inode : found.inode ≡ option_map inode_of (value_at ino files)
  pub met : found.met ≡ pieces_met from to (pieces_of ino files)

-- A command left the tree with these files, as edits between two commits do. Of slots it took at most so many more than
-- it gave back, and at most so many that were not taken before; and at most so many fewer are free. What the extent
-- tree's items take grows by no more than edits and names bring, as many as pieces that are touched and three, and
-- twice so many
pub record LeavesFiles (old new : FsTree) (history : History) (files : List (ℕ × File)) (pieces : ℕ)
    : Type 0 where
  pub holds : HoldsFiles new history files
  pub moved : IsMoved old new history
  pub few : taken_slots new.land.space ≤ taken_slots old.land.space + file_copies old.tree.height pieces
  pub made : made_slots old.land.space new.land.space ≤ file_copies old.tree.height pieces
  pub free : free_slots old.land.space ≤ free_slots new.land.space + file_copies old.tree.height pieces
  pub heavier : BookGetsHeavier old.refs new.refs
      ((pieces + 3) * edit_bytes old.land.space.sizes.nodesize 3 + 2 * (pieces + 3) * name_new_bytes)

-- ---- over any disk

-- nodes and space are such as a tree is edited in; the other trees, sizes, and what the last commit holds, stay, and
-- the disk is not written
pub record LeavesHeld (old new : FsTree) (before after : History) (bytes left : ℕ) : Type 0 where
  pub subvolume : IsSubvolume new after left
  pub others : new.others ≡ old.others
  pub node_sizes : new.land.blocks.draft.sizes ≡ old.land.blocks.draft.sizes
  pub bound : new.land.blocks.bound ≡ old.land.blocks.bound
  pub sizes : new.land.space.sizes ≡ old.land.space.sizes
  pub held_slots : new.land.space.held_slots ≡ old.land.space.held_slots
  pub held_runs : new.land.space.held_runs ≡ old.land.space.held_runs
  pub history : after ≡ before
  pub size : left ≡ bytes

-- a tree stays that of its number, and the generation to come stays
pub record StaysOwn (old new : FsTree) : Type 0 where
  pub owner : new.tree.owner ≡ old.tree.owner
  pub next : new.tree.next ≡ old.tree.next

-- a file may have the number, and a range of whole sectors, one at least
pub record IsFileRange (ino off len : ℕ) : Type 0 where
  pub least : least_inode ≤ ino
  pub below : ino < inodes_end
  pub off_aligned : IsTrue (is_aligned off)
  pub len_aligned : IsTrue (is_aligned len)
  pub some : 0 < len
  pub near : off + len ≤ largest_size
