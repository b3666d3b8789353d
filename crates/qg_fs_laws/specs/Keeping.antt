-- A tree at hand among those of all subvolumes, that is kept of a state of the machine, and what it tells of it (this
-- project's own).
--
-- Addresses, lengths and weights are in bytes.
use Rattle.std.specs.Prelude.{◌≡◌, ◌↔◌, ℕ, ◌+◌, ◌^◌, ◌<◌, ◌≤◌, false, ◌==◌, List, ◌∷◌, ◌++◌, length, map, Option}
use Rattle.std.specs.Prelude.{Some, IsTrue, Contains}
use Rattle.std.specs.List.{IsDistinct}
use Rattle.std.specs.Option.{option_map}
use Rattle.qg_device.specs.History.{History}
use Rattle.qg_num.specs.declared.command.Command.TheVariants.{Write, Clone, Truncate, Unlink}
use Rattle.qg_num.specs.declared.counters.Counters.{Counters}
use Rattle.qg_node.specs.declared.node.Node.{Node}
use Rattle.qg_node.specs.Nodes.{header_of}
use Rattle.qg_super.specs.Places.{is_slot}
use Rattle.qg_image.specs.declared.file.File.{File}
use Rattle.qg_image.specs.Table.{has_key, keys_of, value_at, without_key}
use Rattle.qg_image.specs.declared.element.Element.{Element}
use Rattle.qg_image.specs.declared.quota.Group.{Group}
use Rattle.qg_image.specs.declared.quota.Quota.{Quota}
use Rattle.qg_image.specs.Counts.{due_counters}
use Rattle.qg_image.specs.Need.{held_records, quota_records, root_records}
use Rattle.qg_image.specs.Record.{Record, records_bytes}
use Rattle.qg_image.specs.Space as present
use Rattle.qg_image.specs.State.{Accepted, Committed, State, Subvolume, file_at, files_in_sub, layout_of}
use Rattle.qg_machine.specs.FileChange.{file_change, pieces_meeting, pieces_or_none, pieces_past}
use Rattle.qg_machine.specs.Layout.{CopiesOnWrite}
use Rattle.qg_machine.specs.Step.{with_tree}
use Rattle.qg_space.specs.Holding.{Holding, first_run, free_slots, has_slot, is_free_run, is_free_slot}
use Rattle.qg_blocks.specs.NodesFound.{fresh_at}
use Rattle.qg_refs.specs.declared.kept.What.{What}
use Rattle.qg_refs.specs.Book.{full_in, what_in}
use Rattle.qg_extents.specs.Table.{IsTable, book_of}
use Rattle.qg_weighed.specs.Laws.{is_among, is_of_extents}
use Rattle.qg_tree_read.specs.Tree.{Root}
use Rattle.qg_file_edits.specs.ForestStanding.{tree_of}
use Rattle.qg_file_edits.specs.Types.{FsTree}
use Rattle.qg_file_edits.specs.Standing.{IsReachedBy, IsSubvolume, trees_of}
use Rattle.qg_file_edits.specs.Laying.{HoldsSlots, IsLaidOut, nodes_in}
use Rattle.qg_file_edits.specs.Changes.{files_cloned_from, files_cut, files_written}
use Rattle.qg_file_edits.specs.Files.{HasFiles, HoldsFiles, pieces_of}
use Rattle.qg_commit.specs.Trees.{stamp_after}

-- ---- what is kept

-- what is known of the trees over any disk
pub record IsKept (fs : FsTree) (history : History) (bytes : ℕ) : Type 0 where
  pub subvolume : IsSubvolume fs history bytes
  pub table : IsTable fs.refs.refs
  pub near : fs.tree.next < 2 ^ 64

-- each tree besides the one at hand has the items of its subvolume's files
abbrev pub OthersHaveFiles : State → FsTree → History → Type 0
OthersHaveFiles state fs history = (tree : Root) (subvolume : Subvolume) → Contains fs.others.items tree
    → value_at tree.owner state.subvolumes ≡ Some subvolume → HasFiles fs history tree subvolume.files

-- Trees are kept of a state: the one at hand has the items of these files, which the subvolume of its number has, and
-- each other one those of its own subvolume's; they are the state's layout; and of their space, slots and runs of the
-- last commit are those that the state's holds
pub record KeepsState (fs : FsTree) (history : History) (state : State) (mine : Subvolume)
    (files : List (ℕ × File)) : Type 0 where
  pub there : value_at fs.tree.owner state.subvolumes ≡ Some mine
  pub are : mine.files ≡ files
  pub holds : HoldsFiles fs history files
  pub have : OthersHaveFiles state fs history
  pub laid : IsLaidOut state fs history
  pub held_slots : HoldsSlots state fs.land.space.held_slots
  pub held_runs : (run : Element) → Contains fs.land.space.held_runs run ↔ Contains state.held.extents run

-- the trees are those of a state, each of the root that its subvolume has: the one at hand, which the book stands for,
-- and the others, ascending by number
pub record AreTreesOf (fs : FsTree) (state : State) : Type 0 where
  pub there : IsTrue (has_key fs.tree.owner state.subvolumes)
  pub hand : fs.tree ≡ tree_of state fs.tree.owner
  pub others : fs.others.items ≡ map (tree_of state) (keys_of (without_key fs.tree.owner state.subvolumes))
  pub book : fs.refs.tree ≡ fs.tree.owner

-- What stands of fresh nodes and of the book where what was pending was committed before a structural command: a fresh
-- node is not full, and only its owner's tree reaches it; and nothing that is known is of a generation past the one to
-- come
pub record AreYoung (fs : FsTree) (history : History) : Type 0 where
  pub alone : (tree : Root) (at : ℕ) (node : Node) → Contains (trees_of fs) tree → IsReachedBy fs history tree at
      → fresh_at fs.land.blocks.draft at ≡ Some node
      → (full_in (book_of fs.refs.refs at) ≡ false) × ((header_of node).owner ≡ tree.owner)
  pub dated : (at : ℕ) (what : What) → what_in (book_of fs.refs.refs at) ≡ Some what → what.generation ≤ fs.tree.next

-- ---- what they tell of the state

-- what is free of a space is free of a state, and the present state has the slots of the layout
pub record TellsSpace (state : State) (space : Holding) : Type 0 where
  pub slot : (at : ℕ) → is_free_slot space at ≡ present.is_free_slot state at
  pub slots : free_slots space ≡ present.free_slots state
  pub run : (at bytes : ℕ) → is_free_run space at bytes ≡ present.is_free_run state at bytes
  pub first : (bytes : ℕ) → first_run space bytes ≡ present.first_run state bytes
  pub taken : (at : ℕ) → IsTrue (is_slot space.sizes at) → has_slot space at ≡ has_key at state.layout

-- What each file command that edits a subvolume changes, by its files and the generation to come, where a write finds
-- its run, and a file that is cut or goes is there. A clone reads a file of any subvolume
pub record TellsChanges (state : State) (sub generation nodesize : ℕ) (files : List (ℕ × File)) : Type 0 where
  pub all : files_in_sub state sub ≡ files
  pub file : (ino : ℕ) → file_at state sub ino ≡ value_at ino files
  pub write : (ino off len extent : ℕ) → present.first_run state len ≡ Some extent
      → file_change state (Write sub ino off len) ≡ Some (record {
        sub = sub;
        files = files_written generation ino off len extent files;
        amount = len + nodesize;
        pieces = pieces_meeting off (off + len) (pieces_of ino files);
      })
  pub clone : (from_sub source from len ino off : ℕ)
      → file_change state (Clone from_sub source from len sub ino off) ≡ Some (record {
        sub = sub;
        files = files_cloned_from generation (pieces_or_none (file_at state from_sub source)) from len ino off files;
        amount = nodesize;
        pieces = pieces_meeting off (off + len) (pieces_of ino files)
            + pieces_meeting from (from + len) (pieces_or_none (file_at state from_sub source));
      })
  pub cut : (ino size : ℕ) (file : File) → value_at ino files ≡ Some file
      → file_change state (Truncate sub ino size) ≡ Some (record {
        sub = sub;
        files = files_cut generation ino size file files;
        amount = 0;
        pieces = pieces_past size file.pieces;
      })
  pub unlink : (ino : ℕ) (file : File) → value_at ino files ≡ Some file
      → file_change state (Unlink sub ino) ≡ Some (record {
        sub = sub;
        files = without_key ino files;
        amount = 0;
        pieces = length file.pieces;
      })

-- ---- weights

-- what the root and the quota tree would name if a commit came now
abbrev pub other_names : State → List Record
other_names state = root_records state ++ quota_records state.quota

-- what the items take that name what is listed, or what these trees would name now, each once
abbrev pub other_weight : List Record → State → ℕ
other_weight names state = records_bytes (names ++ other_names state)

-- what the last commit's items name besides the extent tree's is what is listed
pub record NamesOthers (held : Committed) (names : List Record) : Type 0 where
  pub others : (one : Record) → IsTrue (is_among names one) → is_of_extents one ≡ false
  pub same : (one : Record) → is_of_extents one ≡ false → is_among (held_records held) one ≡ is_among names one

-- ---- counts

-- no two runs begin at one address
abbrev pub LieApart : List Element → Type 0
LieApart runs = IsDistinct (λ a b. a.address == b.address) runs

-- the nodes of a state's layout and these runs, each with its bytes
abbrev pub elements_of : State → List Element → List Element
elements_of state runs =
    map (λ slot. record { address = slot; bytes = state.sizes.nodesize }) (keys_of state.layout) ++ runs

-- a group with its counters; the stamp is that of the commit of a generation where they differ from the stored ones
abbrev pub group_after : ℕ → (ℕ → Counters) → ℕ × Group → ℕ × Group
group_after generation counters entry = (
  entry.0,
  record entry.1 {
    counters = counters entry.0;
    stamp = stamp_after entry.1.counters (counters entry.0) entry.1.stamp generation;
  },
)

-- quota, once each group has its counters
abbrev pub quota_after : ℕ → (ℕ → Counters) → Quota → Quota
quota_after generation counters quota = record quota { groups = map (group_after generation counters) quota.groups }

-- the same of quota that may be off
abbrev pub quota_laid : ℕ → (ℕ → Counters) → Option Quota → Option Quota
quota_laid generation counters quota = option_map (quota_after generation counters) quota

-- these counters are those that are due to a state's groups, while quota is on
abbrev pub AreDueCounters : State → (ℕ → Counters) → Type 0
AreDueCounters state counters = (quota : Quota) → state.quota ≡ Some quota
    → (entry : ℕ × Group) → Contains quota.groups entry
    → counters entry.0 ≡ due_counters (layout_of state) quota entry.0

-- ---- a file command

-- the subvolume with these files, its root being that of the tree at hand
abbrev pub mine_after : Subvolume → List (ℕ × File) → FsTree → Subvolume
mine_after mine files fs = record mine { files = files; root = fs.tree.address }

-- the state with these files of the subvolume at hand, laid out as the trees are, and with one command more pending
abbrev pub state_after : State → List (ℕ × File) → FsTree → History → Accepted → State
state_after before files fs history last = record (with_tree before fs.tree.owner files fs.tree.address) {
  layout = nodes_in fs history;
  pending = last ∷ before.pending;
}

-- the state after a file command of a subvolume follows the one before by copy on write, and the trees are kept of it
pub record FollowsCommand (new : FsTree) (history : History) (before after : State) (mine : Subvolume)
    (files : List (ℕ × File)) (sub copies : ℕ) : Type 0 where
  pub copied : CopiesOnWrite before after sub copies
  pub keeps : KeepsState new history after mine files
