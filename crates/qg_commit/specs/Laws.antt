-- What a disk holds after a commit, and which nodes a commit writes (this project's own). Addresses are in bytes.
use Rattle.std.specs.Prelude.{◌≡◌, ℕ, ◌≤◌, List, length, Option, Some, All}
use Rattle.std.specs.List.Sorted.{IsPermutation}
use Rattle.qg_device.specs.History.{Event, History, Recorded, history_after, content}
use Rattle.qg_num.specs.declared.piece.Piece.{Piece}
use Rattle.qg_node.specs.declared.item.Item.{Item}
use Rattle.qg_node.specs.declared.node.Node.{Node}
use Rattle.qg_items.specs.declared.root.RootItem.{RootItem}
use Rattle.qg_super.specs.Places.{total_bytes}
use Rattle.qg_image.specs.State.{State}
use Rattle.qg_machine.specs.Written.{new_nodes}
use Rattle.qg_image.specs.declared.quota.Quota.{Quota}
use Rattle.qg_refs.specs.declared.kept.Kept.{Kept}
use Rattle.qg_extents.specs.Table.{IsTable}
use Rattle.qg_blocks.specs.NodesFound.{fresh_at}
use Rattle.qg_commit.specs.Calls.{IsReadBack}
use Rattle.qg_commit.specs.Types.{OtherTrees}
use Rattle.qg_commit.specs.Trees.{nodes_laid}
use Rattle.qg_shared_trees.specs.Types.{FsTree}
use Rattle.qg_shared_trees.specs.Standing.{IsSubvolume, Stands}
use Rattle.qg_shared_trees.specs.Laying.{AreFit, HoldsSlots, IsMet, nodes_in}
use Rattle.qg_commit.specs.Writing.{IsLaying, fresh_nodes, nodes_written}
use Rattle.qg_commit.specs.HoldsAfter.{AreForgotten, AreFree, IsFlushed, IsOnDisk, with_tree_commit}

-- where trees stand, one of them reaches each fresh node
abbrev pub FreshAreReached : Type 0
FreshAreReached = (fs : FsTree) (history : History) (bytes : ℕ) (items : List Item)
    (names : List (ℕ × Piece)) → IsSubvolume fs history bytes → Stands fs history items names → IsTable fs.refs.refs
    → (at : ℕ) (node : Node) → fresh_at fs.land.blocks.draft at ≡ Some node → IsMet fs history at

-- so where the numbers of what they reach fit their fields, each fresh node is read from its text
abbrev pub FreshAreReadBack : Type 0
FreshAreReadBack = (fs : FsTree) (history : History) (bytes : ℕ) (items : List Item)
    (names : List (ℕ × Piece)) (roots : List (ℕ × RootItem)) (book : List (ℕ × Kept)) (quota : Option Quota)
    (generation : ℕ) (slots : List ℕ) (trees : OtherTrees)
    → IsSubvolume fs history bytes → Stands fs history items names → IsTable fs.refs.refs → AreFit fs history
    → IsLaying fs.land.space.sizes generation roots book quota slots fs.land.blocks.draft trees
    → All (IsReadBack fs.land.space.sizes.nodesize) (fresh_nodes fs.land.blocks.draft)

-- where trees of subvolumes stand, and the three trees were laid out in free slots, a disk that is long enough holds
-- the commit and the nodes of all of them once the calls were made
abbrev pub CommitIsOnDisk : Type 0
CommitIsOnDisk = (fs : FsTree) (events : List Event) (bytes : ℕ) (items : List Item) (names : List (ℕ × Piece))
    (roots : List (ℕ × RootItem)) (book : List (ℕ × Kept)) (quota : Option Quota) (generation : ℕ) (slots : List ℕ)
    (trees : OtherTrees)
    → IsSubvolume fs (Recorded events) bytes → Stands fs (Recorded events) items names
    → IsLaying fs.land.space.sizes generation roots book quota slots fs.land.blocks.draft trees
    → AreFree fs.land.space slots → All (IsReadBack fs.land.space.sizes.nodesize) (fresh_nodes fs.land.blocks.draft)
    → total_bytes fs.land.space.sizes ≤ length (content events) → IsOnDisk fs trees events

-- the nodes written are those of the committed state, whose layout is all trees, that the last commit does not hold, in
-- some order
abbrev pub WrittenAreNew : Type 0
WrittenAreNew = (fs : FsTree) (history : History) (bytes : ℕ) (items : List Item)
    (names : List (ℕ × Piece)) (roots : List (ℕ × RootItem)) (book : List (ℕ × Kept)) (quota : Option Quota)
    (generation : ℕ) (slots : List ℕ) (trees : OtherTrees) (old new : State)
    → IsSubvolume fs history bytes → Stands fs history items names → IsTable fs.refs.refs
    → IsLaying fs.land.space.sizes generation roots book quota slots fs.land.blocks.draft trees
    → AreFree fs.land.space slots → HoldsSlots old fs.land.space.held_slots → new.layout ≡ nodes_in fs history
    → IsPermutation new.held.others (nodes_laid trees)
    → IsPermutation (nodes_written fs.land.blocks.draft trees) (new_nodes old.held new)

-- after the calls `written` of qg_blocks may be called, where no clean node in memory lies in a slot that was written
abbrev pub FreshAreFlushed : Type 0
FreshAreFlushed = (fs : FsTree) (before : History) (bytes : ℕ) (roots : List (ℕ × RootItem))
    (book : List (ℕ × Kept))
    (quota : Option Quota) (generation : ℕ) (slots : List ℕ) (trees : OtherTrees)
    → IsSubvolume fs before bytes
    → IsLaying fs.land.space.sizes generation roots book quota slots fs.land.blocks.draft trees
    → AreFree fs.land.space slots → AreForgotten fs.land.blocks slots
    → All (IsReadBack fs.land.space.sizes.nodesize) (fresh_nodes fs.land.blocks.draft)
    → ((events : List Event) → before ≡ Recorded events → total_bytes fs.land.space.sizes ≤ length (content events))
    → IsFlushed fs.land before (history_after (with_tree_commit fs trees) before)
