-- Laws on a commit of subvolumes' trees that are kept of a state (this project's own). Addresses and lengths are in
-- bytes.
use Rattle.std.specs.Prelude.{◌≡◌, ℕ, List, map, None}
use Rattle.std.specs.List.{flat_map}
use Rattle.qg_device.specs.History.{Event, History, Recorded}
use Rattle.qg_num.specs.declared.counters.Counters.{Counters}
use Rattle.qg_node.specs.declared.node.Node.{Node}
use Rattle.qg_node.specs.Nodes.{header_of}
use Rattle.qg_items.specs.declared.root.RootItem.{RootItem}
use Rattle.qg_super.specs.declared.sizes.Sizes.{Sizes}
use Rattle.qg_image.specs.declared.file.File.{File}
use Rattle.qg_image.specs.Space.{present_extents}
use Rattle.qg_image.specs.State.{State, Subvolume}
use Rattle.qg_image.specs.Verdict.{extent_set, space_failure}
use Rattle.qg_root_items.specs.Written.{items_of_file}
use Rattle.qg_space.specs.Holding.{Holding}
use Rattle.qg_file_edits.specs.Named.{named}
use Rattle.qg_file_edits.specs.Types.{FsTree}
use Rattle.qg_commit_trees.specs.Committing.{IsCommitted, StandsStill}
use Rattle.qg_commit.specs.Types.{OtherTrees}
use Rattle.qg_commit.specs.Sound.{committed}
use Rattle.qg_commit.specs.Telling.{AreToldBy}
use Rattle.qg_commit.specs.Trees.{nodes_laid}
use Rattle.qg_fs_laws.specs.Keeping.{KeepsState, LieApart, quota_laid}
use Rattle.qg_fs_laws.specs.Committing.{AreShort, IsInOrder, IsShort, IsSoundCommit, KeepsCommit, LaysTree}
use Rattle.qg_fs_laws.specs.Committing.{LeavesShort}

-- once the calls of such a commit were made, the image is sound, and stands for the state that the commit leaves
abbrev pub TreeCommitIsSound : Type 0
TreeCommitIsSound = (fs : FsTree) (events : List Event) (bytes : ℕ) (state : State) (mine : Subvolume)
    (files : List (ℕ × File)) (roots : List (ℕ × RootItem)) (counters : ℕ → Counters)
    (slots : List ℕ) (trees : OtherTrees)
    → LaysTree fs events bytes state mine files roots counters slots trees
    → IsSoundCommit fs events state (quota_laid fs.tree.next counters state.quota) slots trees

-- and where the trees were made those of the next generation, and stand still, they are kept of that state
abbrev pub TreeCommitIsKept : Type 0
TreeCommitIsKept = (old new : FsTree) (events later : List Event) (bytes : ℕ) (state : State) (mine : Subvolume)
    (files : List (ℕ × File)) (roots : List (ℕ × RootItem)) (counters : ℕ → Counters)
    (slots : List ℕ) (trees : OtherTrees) (others : List Node)
    → LaysTree old events bytes state mine files roots counters slots trees
    → AreToldBy (committed others state (quota_laid old.tree.next counters state.quota)) slots trees others
    → IsCommitted old new (map (λ node. (header_of node).address) (nodes_laid trees))
    → StandsStill old new (Recorded events) (Recorded later) (flat_map items_of_file files) (named files)
    → KeepsCommit new (Recorded later) (committed others state (quota_laid old.tree.next counters state.quota)) mine
    files

-- where nothing was done but that nodes were read, or a disk was written elsewhere, trees that stand still are kept of
-- the same state
abbrev pub TreeIsKeptStill : Type 0
TreeIsKeptStill = (old new : FsTree) (before after : History) (state : State) (mine : Subvolume)
    (files : List (ℕ × File)) → new.tree ≡ old.tree → new.others ≡ old.others → new.land.space ≡ old.land.space
    → StandsStill old new before after (flat_map items_of_file files) (named files)
    → KeepsState old before state mine files → KeepsState new after state mine files

-- no two runs of a space in order begin at one address
abbrev pub RunsLieApart : Type 0
RunsLieApart = (space : Holding) → IsInOrder space → LieApart space.runs

-- extents that files name are no longer than the longest where those of a state keep the rule `space`
abbrev pub SpacedAreShort : Type 0
SpacedAreShort = (sizes : Sizes) (state : State)
    → space_failure sizes (extent_set (present_extents state)) ≡ None → IsShort state

-- and file commands leave them so
abbrev pub ShortAreLeft : Type 0
ShortAreLeft = (generation : ℕ) (files : List (ℕ × File)) → AreShort files → LeavesShort generation files
