-- What a store keeps, and the state of the machine that it is kept of (this project's own). Addresses, lengths and
-- weights are in bytes.
use Rattle.std.specs.Prelude.{◌≡◌, ℕ, ◌+◌, ◌*◌, ◌<◌, ◌≤◌, All, List, length, map, IfSome, IsTrue}
use Rattle.std.specs.List.Sorted.{IsPermutation, IsStrictlyIncreasing}
use Rattle.qg_device.specs.History.{History}
use Rattle.qg_items.specs.declared.tree.TheConstants.{TOP_LEVEL}
use Rattle.qg_super.specs.Places.{total_bytes}
use Rattle.qg_super.specs.SuperText.{is_super, sizes_of}
use Rattle.qg_image.specs.declared.file.File.{File}
use Rattle.qg_image.specs.ItemMeaning.{is_subvolume_number}
use Rattle.qg_image.specs.Table.{has_key, keys_of}
use Rattle.qg_image.specs.Need.{IsReserved, file_copies, nodes_filled}
use Rattle.qg_image.specs.Record.{Record}
use Rattle.qg_image.specs.State.{Accepted, State, Subvolume}
use Rattle.qg_image.specs.Verdict.{longest_extent, most_subvolumes}
use Rattle.qg_blocks.specs.NodesInMemory.{nothing_fresh}
use Rattle.qg_blocks.specs.NodesFound.{IsBacked}
use Rattle.qg_space.specs.Holding.{free_slots}
use Rattle.qg_node_alloc.specs.Land.{IsDrafted}
use Rattle.qg_weighed.specs.Laws.{IsRecorded}
use Rattle.qg_weighed.specs.Weight.{weight_of}
use Rattle.qg_fs_laws.specs.Standing.{AreNumbered, CanTurn, trees_of}
use Rattle.qg_qgroups.specs.Tracked.{HoldsAll, HoldsAtMost, IsTracked, quota_of}
use Rattle.qg_fs_laws.specs.Editable.{AreGroupsOf}
use Rattle.qg_fs_laws.specs.Trees.{quota_tree_bytes, root_tree_bytes}
use Rattle.qg_fs_laws.specs.Keeping.{KeepsState, NamesOthers, other_names}
use Rattle.qg_fs_laws.specs.Committing.{IsShort}
use Rattle.qg_open_image.specs.declared.open_image.OpenImage.{OpenImage}
use Rattle.qg_open_image.specs.declared.open_image.KeptSubvolume.{KeptSubvolume}

-- ---- slots that are needed

-- what the extent tree's items take that the last commit holds or one now would hold, each once
abbrev pub book_weight : OpenImage → ℕ
book_weight kept = weight_of kept.fs.refs.held kept.fs.refs.refs

-- what the root tree's items take
abbrev pub root_weight : OpenImage → ℕ
root_weight kept = root_tree_bytes (length kept.snapshots) (quota_of kept.quota)

-- what the quota tree's items take
abbrev pub quota_weight : OpenImage → ℕ
quota_weight kept = quota_tree_bytes (quota_of kept.quota)

-- the nodes that all these fill
abbrev pub filled_by : OpenImage → ℕ
filled_by kept = nodes_filled kept.superblock.nodesize (book_weight kept + root_weight kept + quota_weight kept)

-- by a file command that touches so many pieces
abbrev pub need_of : OpenImage → ℕ → ℕ
need_of kept pieces = 10 * file_copies kept.fs.tree.height pieces + 8 * filled_by kept + 40

-- by a structural command that may copy so many nodes
abbrev pub structural_need_of : OpenImage → ℕ → ℕ
structural_need_of kept copies = 10 * copies + 16 * filled_by kept + 80

-- by a commit at the most: so many are free wherever one comes
abbrev pub commit_room_of : OpenImage → ℕ
commit_room_of kept = 5 * filled_by kept + 40

-- by a commit as it is planned, which is no more: for each of the root, extent and quota trees five times the nodes
-- that its items fill, and one more
abbrev pub commit_need : OpenImage → ℕ
commit_need kept =
    5 * (nodes_filled kept.superblock.nodesize (book_weight kept)
    + nodes_filled kept.superblock.nodesize (root_weight kept)
    + nodes_filled kept.superblock.nodesize (quota_weight kept)) + 3

-- ---- over any disk

-- as many bytes are held for each group as these commands reserved into its members, while quota is on
abbrev pub HoldsPending : OpenImage → List Accepted → Type 0
HoldsPending kept pending = IfSome kept.quota (λ quota. HoldsAll quota pending)

-- what is kept of a subvolume whose last snapshot is of this generation
abbrev pub kept_at : ℕ → KeptSubvolume
kept_at generation = record { last_snapshot = generation }

-- what is kept of a subvolume of a state
abbrev pub kept_subvolume : Subvolume → KeptSubvolume
kept_subvolume subvolume = kept_at subvolume.last_snapshot

-- Subvolumes by number, none of whose last snapshots is of a generation past this one: no more than an image can have,
-- ascending, the top-level one among them
pub record AreSubvolumesBy (generation : ℕ) (snapshots : List (ℕ × KeptSubvolume)) : Type 0 where
  pub few : length snapshots ≤ most_subvolumes
  pub ascending : IsStrictlyIncreasing (keys_of snapshots)
  pub numbers : All (λ entry. IsTrue (is_subvolume_number entry.0)) snapshots
  pub top_level : IsTrue (has_key TOP_LEVEL snapshots)
  pub copied : All (λ entry. entry.1.last_snapshot ≤ generation) snapshots

-- the most bytes that one command reserves: those of the longest extent, and of a node of the largest size
abbrev pub most_reserved : ℕ
most_reserved = longest_extent + 16384

-- What is kept fits together, whatever a disk holds: numbers are in their ranges; there is one tree for each subvolume,
-- of the generation to come, each may be the one at hand, and their fresh nodes may be written; and the groups are some
-- that the quota tree can tell, hierarchy and limits agree with them, and no more is held than what is pending may
-- have reserved
pub record IsFitted (kept : OpenImage) : Type 0 where
  pub superblock : IsTrue (is_super kept.superblock)
  pub subvolumes : AreSubvolumesBy kept.fs.tree.next kept.snapshots
  pub trees : IsPermutation (map (λ tree. tree.owner) (trees_of kept.fs)) (keys_of kept.snapshots)
  pub numbered : AreNumbered kept.fs
  pub turn : CanTurn kept.fs
  pub groups : AreGroupsOf kept.fs.tree.next (keys_of kept.snapshots) (quota_of kept.quota)
  pub tracked : IfSome kept.quota IsTracked
  pub bounded : IfSome kept.quota (HoldsAtMost (kept.pending * most_reserved))
  pub next : kept.fs.tree.next ≡ kept.superblock.generation + 1
  pub sizes : kept.fs.land.space.sizes ≡ sizes_of kept.superblock
  pub drafted : IsDrafted kept.fs.land kept.fs.tree.next

-- so it does, its clean nodes are those of a disk, where that tells, and the disk is as long as the image
pub record IsKept (kept : OpenImage) (history : History) (bytes : ℕ) : Type 0 where
  pub fitted : IsFitted kept
  pub backed : IsBacked kept.fs.land.blocks history
  pub long : total_bytes (sizes_of kept.superblock) ≤ bytes

-- Nothing was done but that nodes were read, or put out of memory, or another tree came to hand: only clean nodes are
-- others, and which tree is at hand, for which the book then stands
pub record SameButClean (old new : OpenImage) : Type 0 where
  pub rest : new ≡ record old {
    fs = record old.fs {
      tree = new.fs.tree;
      others = new.fs.others;
      land = record old.fs.land {
        blocks = record old.fs.land.blocks { clean = new.fs.land.blocks.clean };
      };
      refs = record old.fs.refs { tree = new.fs.refs.tree };
    };
  }
  pub trees : IsPermutation (trees_of old.fs) (trees_of new.fs)

-- a book knows nothing that is of a later generation than the one to come
abbrev pub KnowsNoLater : OpenImage → Type 0
KnowsNoLater kept = All (λ entry. entry.1.what.generation ≤ kept.fs.tree.next) kept.fs.refs.refs

-- ---- over a disk that tells

-- Over a disk with this history it is kept of a state, where the items of the last commit's root and quota trees name
-- what is listed. The trees have the files of the state's subvolumes and are its layout; the book beside the present
-- one is what the last commit recorded; what is pending is held for its groups; where something is pending the slots
-- that a commit may want are free, of what is kept and of the state, and where nothing is, and the last commit names
-- what one now would name, no node is fresh
pub record IsKeptWith (kept : OpenImage) (state : State) (history : History) (names : List Record) : Type 0 where
  pub files : List (ℕ × File)
  pub mine : Subvolume
  pub keeps : KeepsState kept.fs history state mine files
  pub short : IsShort state
  pub snapshots : map (λ entry. (entry.0, kept_subvolume entry.1)) state.subvolumes ≡ kept.snapshots
  pub quota : state.quota ≡ quota_of kept.quota
  pub holds : HoldsPending kept state.pending
  pub pending : length state.pending ≡ kept.pending
  pub recorded : IsRecorded state kept.fs.refs.held
  pub others : NamesOthers state.held names
  pub reserved : 0 < kept.pending → commit_room_of kept ≤ free_slots kept.fs.land.space
  pub reserve : IsReserved state
  pub idle : kept.pending ≡ 0 → names ≡ other_names state
      → kept.fs.land.blocks.draft ≡ nothing_fresh kept.fs.land.blocks.draft.sizes

-- so it is kept of a state between two commands: the last commit's items name what a commit now would name
abbrev pub IsKeptOf : OpenImage → State → History → Type 0
IsKeptOf kept state history = IsKeptWith kept state history (other_names state)
