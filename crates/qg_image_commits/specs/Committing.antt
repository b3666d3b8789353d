-- What a commit lays out and leaves of what is kept (this project's own). Addresses and lengths are in bytes.
use Rattle.std.specs.Prelude.{◌≡◌, ℕ, ◌≤◌, Bool, false, List, [], length, map, Some, IfSome, Result, IsErrOf}
use Rattle.std.specs.List.{Contains}
use Rattle.qg_device.specs.History.{Event, History}
use Rattle.qg_num.specs.declared.counters.Counters.{Counters}
use Rattle.qg_num.specs.declared.fault.BlockFault.{BlockFault}
use Rattle.qg_num.specs.declared.fault.BlockFault.TheVariants.{NoMemory}
use Rattle.qg_node.specs.Nodes.{header_of}
use Rattle.qg_items.specs.declared.root.RootItem.{RootItem}
use Rattle.qg_super.specs.SuperText.{sizes_of}
use Rattle.qg_image.specs.Table.{keys_of, value_at}
use Rattle.qg_extents.specs.Table.{IsTable}
use Rattle.qg_super.specs.declared.sizes.Sizes.{Sizes}
use Rattle.qg_blocks.specs.Stopping.{StopsForCause}
use Rattle.qg_blocks.specs.NodesFound.{IfBroken}
use Rattle.qg_open_image.specs.Calls.{MadeFront, unsure_calls}
use Rattle.qg_tree_read.specs.Tree.{Root}
use Rattle.qg_open_image.specs.Standing.{trees_of}
use Rattle.qg_open_image.specs.CommitTreesCommitting.{IsCommitted}
use Rattle.qg_open_image.specs.Types.{OtherTrees}
use Rattle.qg_open_image.specs.Trees.{nodes_laid}
use Rattle.qg_open_image.specs.HoldsAfter.{AreFree}
use Rattle.qg_open_image.specs.Writing.{IsLaying, nodes_written}
use Rattle.qg_qgroups.specs.Tracked.{HoldsAll, IsTracked, quota_of}
use Rattle.qg_open_image.specs.FsLawsKeeping.{quota_laid}
use Rattle.qg_open_image.specs.FsLawsCommitting.{IsInOrder, IsRootNow}
use Rattle.qg_image_commits.specs.declared.planning.Plan.{Plan}
use Rattle.qg_open_image.specs.declared.open_image.OpenImage.{OpenImage}
use Rattle.qg_open_image.specs.declared.open_image.KeptSubvolume.{KeptSubvolume}
use Rattle.qg_open_image.specs.Keeping.{KnowsNoLater, commit_need}

-- ---- what a commit tells

-- ROOT_ITEMs are those of the subvolumes, by number, each that of its tree
pub record AreRootsOf (kept : OpenImage) (roots : List (ℕ × RootItem)) : Type 0 where
  pub numbers : keys_of roots ≡ keys_of kept.snapshots
  pub each : (tree : Root) (snapshot : KeptSubvolume) (root : RootItem) → Contains (trees_of kept.fs) tree
      → value_at tree.owner kept.snapshots ≡ Some snapshot → value_at tree.owner roots ≡ Some root
      → IsRootNow kept.fs tree snapshot.last_snapshot root

-- what a commit of what is kept tells besides the references, where these are the groups' counters, and slots that are
-- as many as it may take and free
pub record IsPlanOf (kept : OpenImage) (counters : ℕ → Counters) (plan : Plan) : Type 0 where
  pub roots : AreRootsOf kept plan.roots
  pub quota : plan.quota ≡ quota_laid kept.fs.tree.next counters (quota_of kept.quota)
  pub order : IsInOrder kept.fs.land.space
  pub table : IsTable kept.fs.refs.refs
  pub earlier : KnowsNoLater kept
  pub free : AreFree kept.fs.land.space plan.slots
  pub few : length plan.slots ≤ 16128
  pub enough : commit_need kept ≤ length plan.slots
  pub most : length plan.slots ≤ commit_need kept

-- the three other trees of such a commit
abbrev pub IsLaidBy : OpenImage → Plan → OtherTrees → Type 0
IsLaidBy kept plan trees =
    IsLaying (sizes_of kept.superblock) kept.fs.tree.next plan.roots kept.fs.refs.refs plan.quota plan.slots
    kept.fs.land.blocks.draft trees

-- the calls of such a commit came so far, and the last sync is not among them
pub record LaysSoFar (kept : OpenImage) (plan : Plan) (events : List Event) (history : History) : Type 0 where
  pub trees : OtherTrees
  pub laid : IsLaidBy kept plan trees
  pub made : MadeFront (unsure_calls trees.superblock (nodes_written kept.fs.land.blocks.draft trees)) events history

-- A commit that did not end has done nothing to the disk where a rule was named, for a cause over a disk of so many
-- bytes, and where memory was refused though the disk takes none: what a commit itself needs of memory is there before
-- its first call.
pub record StopsIntact {A : Type 0} (takes_memory : Bool) (result : Result A BlockFault) (sizes : Sizes) (bytes : ℕ)
    (before after : History) : Type 0 where
  pub broken : IfBroken result (after ≡ before)
  pub cause : StopsForCause result sizes bytes
  pub refused : takes_memory ≡ false → IsErrOf result NoMemory → after ≡ before

-- ---- what it leaves

-- These trees are committed: what is known of the last commit is told by them and the plan, the subvolumes' trees are
-- those of the next generation, nothing is pending, and nothing is held for the groups
pub record KeepsCommit (old : OpenImage) (plan : Plan) (trees : OtherTrees) (new : OpenImage) : Type 0 where
  pub superblock : new.superblock ≡ trees.superblock
  pub snapshots : new.snapshots ≡ old.snapshots
  pub quota : quota_of new.quota ≡ plan.quota
  pub settled : IfSome new.quota (λ quota. IsTracked quota × HoldsAll quota [])
  pub fs : IsCommitted old.fs new.fs (map (λ node. (header_of node).address) (nodes_laid trees))
  pub pending : new.pending ≡ 0
