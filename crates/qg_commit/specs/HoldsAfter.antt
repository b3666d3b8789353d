-- What a disk holds after a commit, and what is known of nodes in memory then (this project's own). Addresses are in
-- bytes.
use Rattle.std.specs.Prelude.{◌≡◌, ℕ, List, None, Contains, IsTrue, ◌==◌, All}
use Rattle.std.specs.List.{IsDistinct}
use Rattle.qg_device.specs.History.{Event, History, Recorded, content}
use Rattle.qg_space.specs.Holding.{Holding, is_free_slot}
use Rattle.qg_blocks.specs.NodesInMemory.{Held}
use Rattle.qg_blocks.specs.NodesFound.{IsBacked, clean_at}
use Rattle.qg_blocks.specs.Writing.{AreWritten, Keeps}
use Rattle.qg_node_alloc.specs.declared.ground.Ground.{Ground}
use Rattle.qg_commit.specs.Calls.{with_commit}
use Rattle.qg_commit.specs.Types.{OtherTrees}
use Rattle.qg_commit.specs.OtherTreesHolds.{HasCommit, HoldsLayout}
use Rattle.qg_commit.specs.Trees.{nodes_laid}
use Rattle.qg_shared_trees.specs.Types.{FsTree}
use Rattle.qg_shared_trees.specs.Laying.{nodes_in}
use Rattle.qg_commit.specs.Writing.{nodes_written}

-- slots are all different, and neither the present state nor the last commit has any of them
pub record AreFree (holding : Holding) (slots : List ℕ) : Type 0 where
  pub apart : IsDistinct (λ a b. a == b) slots
  pub free : All (λ slot. IsTrue (is_free_slot holding slot)) slots

-- of what lies in these slots no clean node is in memory
abbrev pub AreForgotten : Held → List ℕ → Type 0
AreForgotten blocks slots = (slot : ℕ) → Contains slots slot → clean_at blocks slot ≡ None

-- what was done once a commit's calls were made
abbrev pub with_tree_commit : FsTree → OtherTrees → List Event → List Event
with_tree_commit fs trees events =
    with_commit trees.superblock (nodes_written fs.land.blocks.draft trees) events

-- the image then holds the commit, and each node that some tree reached before
pub record IsOnDisk (fs : FsTree) (trees : OtherTrees) (events : List Event) : Type 0 where
  pub commit : HasCommit trees.superblock (nodes_laid trees) (content (with_tree_commit fs trees events))
  pub layout : HoldsLayout trees.superblock (content (with_tree_commit fs trees events)) (nodes_in fs (Recorded events))

-- From one history of a disk to another each fresh node was given to it, and clean nodes are backed still. In each slot
-- that the last commit holds stands what stood there
pub record IsFlushed (land : Ground) (before after : History) : Type 0 where
  pub written : AreWritten land.blocks.draft after
  pub backed : IsBacked land.blocks after
  pub held : Keeps land.blocks.draft.sizes before after (λ at. Contains land.space.held_slots at)
