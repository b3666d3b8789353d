-- Laws that lead from the trees of subvolumes to a step of the machine (this project's own). Addresses, lengths and
-- weights are in bytes.
use Rattle.std.specs.Prelude.{◌≡◌, ℕ, ◌+◌, List, length, Some, IsTrue, All}
use Rattle.std.specs.List.Sorted.{IsStrictlyIncreasing}
use Rattle.qg_device.specs.History.{History}
use Rattle.qg_num.specs.declared.counters.Counters.{Counters}
use Rattle.qg_node.specs.declared.node.Node.{Node}
use Rattle.qg_image.specs.declared.file.File.{File}
use Rattle.qg_image.specs.ItemMeaning.{is_subvolume_number}
use Rattle.qg_image.specs.Table.{keys_of, value_at}
use Rattle.qg_image.specs.declared.quota.Quota.{Quota}
use Rattle.qg_image.specs.Members.{hierarchy_of}
use Rattle.qg_image.specs.Need.{file_copies, weight}
use Rattle.qg_image.specs.Record.{Record}
use Rattle.qg_image.specs.Space.{is_free_slot}
use Rattle.qg_image.specs.State.{Accepted, State, Subvolume, layout_of, next_generation}
use Rattle.qg_qgroup_counts.specs.AllReached.{AreAllReached}
use Rattle.qg_machine.specs.Layout.{IsWhole}
use Rattle.qg_machine.specs.Refusals.{root_level}
use Rattle.qg_machine.specs.Step.{Commits}
use Rattle.qg_qgroups.specs.Groups.{IsSound}
use Rattle.qg_weighed.specs.Laws.{CountsLayout, IsRecorded}
use Rattle.qg_weighed.specs.Weight.{weight_of}
use Rattle.qg_file_edits.specs.ForestStanding.{HoldsState}
use Rattle.qg_file_edits.specs.Types.{FsTree}
use Rattle.qg_file_edits.specs.Files.{HasFiles, LeavesFiles}
use Rattle.qg_commit.specs.Types.{OtherTrees}
use Rattle.qg_commit.specs.Sound.{committed}
use Rattle.qg_commit.specs.Telling.{AreToldBy}
use Rattle.qg_commit.specs.Trees.{quota_tree_bytes, root_tree_bytes}
use Rattle.qg_fs_laws.specs.Keeping.{AreDueCounters, AreTreesOf, AreYoung, FollowsCommand, IsKept}
use Rattle.qg_fs_laws.specs.Keeping.{KeepsState, LieApart, NamesOthers, OthersHaveFiles}
use Rattle.qg_fs_laws.specs.Keeping.{TellsChanges, TellsSpace, elements_of, mine_after, other_names, other_weight}
use Rattle.qg_fs_laws.specs.Keeping.{quota_laid, state_after}

-- ---- what the trees tell

-- what is free of the trees' space is free of the state
abbrev pub SpaceIsTold : Type 0
SpaceIsTold = (fs : FsTree) (history : History) (bytes : ℕ) (state : State) (mine : Subvolume)
    (files : List (ℕ × File)) → IsKept fs history bytes → KeepsState fs history state mine files
    → TellsSpace state fs.land.space

-- the level of the root of the subvolume at hand is its tree's height
abbrev pub LevelIsTold : Type 0
LevelIsTold = (fs : FsTree) (history : History) (bytes : ℕ) (state : State) (mine : Subvolume)
    (files : List (ℕ × File)) → IsKept fs history bytes → KeepsState fs history state mine files
    → root_level state fs.tree.owner ≡ fs.tree.height

-- what the last commit holds of the root, extent and quota trees, or one now would hold, takes what the two books take,
-- and what the items of the root and the quota tree take, where the last commit's name what is listed
abbrev pub WeightIsTold : Type 0
WeightIsTold = (fs : FsTree) (history : History) (bytes : ℕ) (state : State) (mine : Subvolume)
    (files : List (ℕ × File)) (names : List Record)
    → IsKept fs history bytes → KeepsState fs history state mine files
    → IsRecorded state fs.refs.held → NamesOthers state.held names
    → weight state ≡ weight_of fs.refs.held fs.refs.refs + other_weight names state

-- and where they name what they would name now, these items are those of so many subvolumes, groups and relations
abbrev pub OthersWeigh : Type 0
OthersWeigh = (state : State) → IsStrictlyIncreasing (keys_of state.subvolumes)
    → All (λ entry. IsTrue (is_subvolume_number entry.0)) state.subvolumes
    → ((quota : Quota) → state.quota ≡ Some quota
    → IsStrictlyIncreasing (keys_of quota.groups) × IsSound (hierarchy_of quota))
    → other_weight (other_names state) state
    ≡ root_tree_bytes (length state.subvolumes) state.quota + quota_tree_bytes state.quota

-- what each file command changes that edits the subvolume at hand is told by its tree's files
abbrev pub ChangesAreTold : Type 0
ChangesAreTold = (fs : FsTree) (history : History) (bytes : ℕ) (state : State) (mine : Subvolume)
    (files : List (ℕ × File)) → IsKept fs history bytes → KeepsState fs history state mine files
    → TellsChanges state fs.tree.owner fs.tree.next fs.land.space.sizes.nodesize files

-- ---- counts

-- the nodes of the layout, and the runs that are taken, lie apart, and all that subvolumes reach is among them
abbrev pub ReachIsTold : Type 0
ReachIsTold = (fs : FsTree) (history : History) (bytes : ℕ) (state : State) (mine : Subvolume)
    (files : List (ℕ × File)) → IsKept fs history bytes → KeepsState fs history state mine files
    → LieApart fs.land.space.runs → AreAllReached (layout_of state) (elements_of state fs.land.space.runs)

-- ---- the state

-- a state that trees are kept of is whole, and the book counts what its layout owes
abbrev pub StateIsWhole : Type 0
StateIsWhole = (fs : FsTree) (history : History) (bytes : ℕ) (state : State) (mine : Subvolume)
    (files : List (ℕ × File)) → IsKept fs history bytes → KeepsState fs history state mine files
    → IsWhole state × CountsLayout (layout_of state) fs.refs.refs

-- nodes in memory, disk and book hold a state that trees are kept of
abbrev pub StateIsHeld : Type 0
StateIsHeld = (fs : FsTree) (history : History) (bytes : ℕ) (state : State) (mine : Subvolume)
    (files : List (ℕ × File)) → IsKept fs history bytes → KeepsState fs history state mine files
    → HoldsState fs.land history fs.refs state

-- and back: trees are kept of a state that is held, where they are its subvolumes', as a structural command leaves
-- them, and have the items of their files
abbrev pub HeldIsKept : Type 0
HeldIsKept = (fs : FsTree) (history : History) (bytes : ℕ) (state : State) (mine : Subvolume)
    → IsKept fs history bytes → HoldsState fs.land history fs.refs state → AreTreesOf fs state
    → AreYoung fs history → value_at fs.tree.owner state.subvolumes ≡ Some mine
    → HasFiles fs history fs.tree mine.files → OthersHaveFiles state fs history
    → KeepsState fs history state mine mine.files

-- ---- steps

-- a file command copies on write, and leaves trees that are kept of the state afterwards
abbrev pub FileCommandCopies : Type 0
FileCommandCopies = (old new : FsTree) (history : History) (bytes left pieces : ℕ) (before : State)
    (mine : Subvolume) (files files_new : List (ℕ × File)) (last : Accepted)
    → IsKept old history bytes → KeepsState old history before mine files → IsKept new history left
    → LeavesFiles old new history files_new pieces → new.land.space.held_runs ≡ old.land.space.held_runs
    → FollowsCommand new history before (state_after before files_new new history last)
    (mine_after mine files_new new) files_new old.tree.owner (file_copies old.tree.height pieces)

-- a commit whose other trees tell the state that it leaves, its groups having the counters due, and lie in free
-- slots, is one of the machine
abbrev pub CommitIsOfMachine : Type 0
CommitIsOfMachine = (old : State) (counters : ℕ → Counters) (slots : List ℕ) (trees : OtherTrees) (others : List Node)
    → AreDueCounters old counters → All (λ slot. IsTrue (is_free_slot old slot)) slots
    → AreToldBy (committed others old (quota_laid (next_generation old) counters old.quota)) slots trees others
    → Commits old (committed others old (quota_laid (next_generation old) counters old.quota))
