-- What a commit is told of what is kept, and what it leaves of room (this project's own). Addresses and lengths are in
-- bytes.
use Rattle.std.specs.Prelude.{◌≡◌, ℕ, ◌+◌, ◌≤◌, ◌<◌, ◌==◌, All, List, [], ◌∷◌, length, map, Some, None}
use Rattle.std.specs.Prelude.{if◌then◌else◌}
use Rattle.std.specs.List.{Contains}
use Rattle.std.specs.List.Sorted.{IsStrictlyIncreasing}
use Rattle.qg_device.specs.History.{Event, History, Recorded, history_after}
use Rattle.qg_num.specs.declared.counters.Counters.{Counters}
use Rattle.qg_node.specs.declared.node.Node.{Node}
use Rattle.qg_items.specs.declared.root.RootItem.{RootItem}
use Rattle.qg_super.specs.declared.superblock.Super.{Super}
use Rattle.qg_image.specs.Table.{keys_of}
use Rattle.qg_image.specs.State.{State}
use Rattle.qg_machine.specs.Step.{Commits}
use Rattle.qg_refs.specs.declared.kept.What.{What}
use Rattle.qg_refs.specs.declared.kept.Kept.{Kept as Reference}
use Rattle.qg_refs.specs.Book.{what_in}
use Rattle.qg_extents.specs.Table.{book_of}
use Rattle.qg_open_image.specs.Calls.{Call, MadeFront, commit_calls, unsure_calls, with_commit}
use Rattle.qg_space.specs.Holding.{free_slots}
use Rattle.qg_tree_read.specs.Tree.{Root}
use Rattle.qg_tree_read.specs.Way.{HasRead}
use Rattle.qg_qgroup_counts.specs.declared.surveyed.Surveyed.{Surveyed}
use Rattle.qg_open_image.specs.CommitTreesCommitting.{for_generation}
use Rattle.qg_qgroups.specs.Tracked.{SameButCounts, quota_of}
use Rattle.qg_open_image.specs.FsLawsKeeping.{AreDueCounters}
use Rattle.qg_open_image.specs.FsLawsCommitting.{root_made}
use Rattle.qg_open_image.specs.declared.open_image.OpenImage.{OpenImage}
use Rattle.qg_open_image.specs.declared.open_image.KeptSubvolume.{KeptSubvolume}
use Rattle.qg_image_commits.specs.declared.planning.Plan.{Plan}
use Rattle.qg_image_commits.specs.Committing.{IsPlanOf}
use Rattle.qg_open_image.specs.Keeping.{IsKeptOf, commit_need}
use Rattle.qg_open_image.specs.Making.{BringsTo}

-- ---- what is surveyed

-- all nodes that subvolumes reach were read, and nothing else was done
pub record HasSurveyed (old new : OpenImage) (before after : History) (bytes left : ℕ) : Type 0 where
  pub rest : new ≡ record old {
    fs = record old.fs { land = record old.fs.land { blocks = new.fs.land.blocks } };
  }
  pub read : HasRead old.fs.land.blocks new.fs.land.blocks before after bytes left

-- what was surveyed ascends by address, and is no more than the image has slots
pub record AreInOrder (kept : OpenImage) (nodes : List Surveyed) : Type 0 where
  pub ascending : IsStrictlyIncreasing (map (λ node. node.linked.address) nodes)
  pub few : length nodes ≤ kept.superblock.slots

-- a thing of a later generation than this begins at an address
pub record IsLaterAt (generation : ℕ) (book : List (ℕ × Reference)) (at : ℕ) : Type 0 where
  pub kept : Reference
  pub there : Contains book (at, kept)
  pub later : generation < kept.what.generation

-- ---- trees by number

-- the numbers of trees
abbrev pub numbers_of : List Root → List ℕ
numbers_of trees = map (λ tree. tree.owner) trees

-- a tree's number, and where its root lies
abbrev pub root_of_tree : Root → ℕ × ℕ
root_of_tree tree = (tree.owner, tree.address)

-- ---- counts

-- the count that stands at the place of a number; nothing where the number is not there
abbrev pub counters_by : List ℕ → List Counters → ℕ → Counters
counters_by [] counts group = record { rfer = 0; excl = 0 }
counters_by (number ∷ numbers) [] group = record { rfer = 0; excl = 0 }
counters_by (number ∷ numbers) (count ∷ counts) group =
    if number == group then count else counters_by numbers counts group

-- ---- ROOT_ITEMs

-- a tree's ROOT_ITEM, of the generation that a book knows of its root node
pub record IsRootIn (book : List (ℕ × Reference)) (tree : Root) (last_snapshot : ℕ) (root : RootItem) : Type 0 where
  pub what : What
  pub known : what_in (book_of book tree.address) ≡ Some what
  pub root_is : root ≡ root_made tree last_snapshot what.generation

-- a book knows a tree's root node
abbrev pub KnowsRoot : List (ℕ × Reference) → Root → Type 0
KnowsRoot book tree = what_in (book_of book tree.address) ≡ None → ⊥

-- a ROOT_ITEM is that of one of some trees, by what is kept of its number
pub record IsRootOfOne (kept : OpenImage) (trees : List Root) (snapshots : List (ℕ × KeptSubvolume))
    (entry : ℕ × RootItem) : Type 0 where
  pub tree : Root
  pub among : Contains trees tree
  pub snapshot : ℕ × KeptSubvolume
  pub there : Contains snapshots snapshot
  pub number : tree.owner ≡ entry.0
  pub same : snapshot.0 ≡ entry.0
  pub root : IsRootIn kept.fs.refs.refs tree snapshot.1.last_snapshot entry.1

-- there is one for each number, in the order of these, and each is that of a tree
pub record AreRootsBy (kept : OpenImage) (trees : List Root) (snapshots : List (ℕ × KeptSubvolume))
    (roots : List (ℕ × RootItem)) : Type 0 where
  pub numbers : keys_of roots ≡ keys_of snapshots
  pub each : All (IsRootOfOne kept trees snapshots) roots

-- ---- the plan

-- a commit of what is kept may be told so, by some counters
pub record IsPlanSo (kept : OpenImage) (plan : Plan) : Type 0 where
  pub counters : ℕ → Counters
  pub is : IsPlanOf kept counters plan

-- and so by the counters that are due to a state's groups
pub record IsPlanTold (state : State) (kept : OpenImage) (plan : Plan) : Type 0 where
  pub counters : ℕ → Counters
  pub is : IsPlanOf kept counters plan
  pub direct : AreDueCounters state counters

-- ---- what a commit does, and leaves

-- the machine commits a state so, the disk was given the calls, and what is kept then is that of the state afterwards
pub record CommitsOn (old : State) (kept : OpenImage) (events : List Event) (history : History) : Type 0 where
  pub new : State
  pub commits : Commits old new
  pub keeps : IsKeptOf kept new history
  pub super : Super
  pub nodes : List Node
  pub brings : BringsTo old.held new events super nodes
  pub told : history ≡ Recorded (with_commit super nodes events)

-- of the calls of such a commit these came so far
pub record CommitsOfSoFar (calls : Super → List Node → List Call) (old : State) (events : List Event)
    (history : History) : Type 0 where
  pub new : State
  pub commits : Commits old new
  pub super : Super
  pub nodes : List Node
  pub brings : BringsTo old.held new events super nodes
  pub made : MadeFront (calls super nodes) events history

-- the calls of such a commit came so far
abbrev pub StartsCommitOf : State → List Event → History → Type 0
StartsCommitOf old events history = CommitsOfSoFar commit_calls old events history

-- and its last sync is not among them
abbrev pub StopsCommitOf : State → List Event → History → Type 0
StopsCommitOf old events history = CommitsOfSoFar unsure_calls old events history

-- What a commit leaves of what is kept, over any disk: nothing is pending, subvolumes are the same, groups too but for
-- their counts, and so are the trees, but for the generation to come, and the references, which are held; and it took
-- no more slots than it may
pub record LeavesRoom (old new : OpenImage) : Type 0 where
  pub pending : new.pending ≡ 0
  pub generation : new.superblock.generation ≡ old.superblock.generation + 1
  pub snapshots : new.snapshots ≡ old.snapshots
  pub groups : SameButCounts (quota_of old.quota) (quota_of new.quota)
  pub tree : new.fs.tree ≡ for_generation (old.fs.tree.next + 1) old.fs.tree
  pub others : new.fs.others.items ≡ map (for_generation (old.fs.tree.next + 1)) old.fs.others.items
  pub refs : new.fs.refs.refs ≡ old.fs.refs.refs
  pub held : new.fs.refs.held ≡ old.fs.refs.refs
  pub free : free_slots old.fs.land.space ≤ free_slots new.fs.land.space + commit_need old

-- and a disk, whether it tells what it held or not, was given all calls of a commit
pub record LeavesOver (old new : OpenImage) (before after : History) : Type 0 where
  pub room : LeavesRoom old new
  pub nodes : List Node
  pub calls : after ≡ history_after (with_commit new.superblock nodes) before
