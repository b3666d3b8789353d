-- What a commit writes where the trees of subvolumes are edited by copy on write, and how far its calls came (this
-- project's own). Addresses are in bytes.
use Rattle.std.specs.Prelude.{◌≡◌, ◌⊎◌, ℕ, List, ◌++◌, Option, Some, IsTrue}
use Rattle.std.specs.List.Sorted.{IsStrictlySortedBy}
use Rattle.std.specs.Map.{keys_of, values_of}
use Rattle.std.specs.Ordering.{nat_cmp}
use Rattle.qg_device.specs.History.{Event, History, Recorded}
use Rattle.qg_node.specs.declared.node.Node.{Node}
use Rattle.qg_items.specs.declared.root.RootItem.{RootItem}
use Rattle.qg_super.specs.declared.sizes.Sizes.{Sizes}
use Rattle.qg_super.specs.Places.{is_slot}
use Rattle.qg_super.specs.SuperText.{is_super}
use Rattle.qg_image.specs.declared.quota.Quota.{Quota}
use Rattle.qg_refs.specs.declared.kept.Kept.{Kept}
use Rattle.qg_blocks.specs.NodesInMemory.{Draft}
use Rattle.qg_blocks.specs.NodesFound.{IsNodeAt, fresh_at}
use Rattle.qg_commit.specs.Calls.{MadeFront, unsure_calls}
use Rattle.qg_commit.specs.Types.{OtherTrees}
use Rattle.qg_commit.specs.Types.{TreeContents}
use Rattle.qg_commit.specs.Trees.{AreTrees, nodes_laid}

-- ---- what is asked

-- a node that a commit may write at an address of an image of these sizes: it has a text, names the address, and lies
-- in a slot
pub record IsWritableAt (sizes : Sizes) (at : ℕ) (node : Node) : Type 0 where
  pub kept : IsNodeAt sizes.nodesize at node
  pub slot : IsTrue (is_slot sizes at)

-- each fresh node is one
pub record AreWritable (sizes : Sizes) (draft : Draft) : Type 0 where
  pub each : (at : ℕ) (node : Node) → fresh_at draft at ≡ Some node → IsWritableAt sizes at node

-- ---- what is written

-- the fresh nodes, in the order of their addresses
abbrev pub fresh_nodes : Draft → List Node
fresh_nodes draft = values_of draft.fresh

-- the nodes of a commit: the fresh ones, and behind them those of the root, extent and quota trees
abbrev pub nodes_written : Draft → OtherTrees → List Node
nodes_written draft trees = fresh_nodes draft ++ nodes_laid trees

-- The three trees of a commit of this generation in an image of these sizes, in the first of the slots, that tell this;
-- and the addresses of the fresh nodes ascend, each once
pub record IsLaying (sizes : Sizes) (generation : ℕ) (roots : List (ℕ × RootItem)) (book : List (ℕ × Kept))
    (quota : Option Quota) (slots : List ℕ) (draft : Draft) (trees : OtherTrees) : Type 0 where
  pub superblock : IsTrue (is_super trees.superblock)
  pub laid : AreTrees sizes generation roots book quota slots trees
  pub ascending : IsStrictlySortedBy nat_cmp (keys_of draft.fresh)

-- the same of what a commit is told
abbrev pub IsLayingOf : Sizes → ℕ → TreeContents → List ℕ → Draft → OtherTrees → Type 0
IsLayingOf sizes generation told slots draft trees =
    IsLaying sizes generation told.roots.now told.book.now told.quota.now slots draft trees

-- the calls of a commit of such trees came so far, and the last sync is not among them
pub record ComesSoFar (sizes : Sizes) (generation : ℕ) (told : TreeContents) (slots : List ℕ) (draft : Draft)
    (events : List Event) (history : History) : Type 0 where
  pub trees : OtherTrees
  pub is : IsLayingOf sizes generation told slots draft trees
  pub made : MadeFront (unsure_calls trees.superblock (nodes_written draft trees)) events history

-- a commit did not end: nothing was done, or its calls came so far
abbrev pub StopsLaying : Sizes → ℕ → TreeContents → List ℕ → Draft → List Event → History → Type 0
StopsLaying sizes generation told slots draft events history =
    (history ≡ Recorded events) ⊎ ComesSoFar sizes generation told slots draft events history
