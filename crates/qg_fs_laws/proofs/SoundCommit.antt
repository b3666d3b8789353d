-- After a commit of trees that are kept of a state the image is sound, and stands for the state that the commit leaves.
use Rattle.std.proofs.Common.{◌≡◌, ℕ, ◌≤◌, true, List, [], map, Option, None, refl}
use Rattle.std.proofs.Common.{sym, ap, subst, ◌∙◌, arith}
use Rattle.std.specs.Prelude.{All, IsTrue}
use Rattle.std.specs.List.{Contains, flat_map}
use Rattle.std.specs.List.Sorted.{IsPermutation}
use Rattle.std.proofs.lemmas.List.Elements.{All-contains, All-weaker}
use Rattle.qg_device.specs.History.{Event, History, Recorded, content}
use Rattle.qg_num.specs.declared.counters.Counters.{Counters}
use Rattle.qg_num.specs.declared.piece.Piece.{Piece}
use Rattle.qg_node.specs.declared.item.Item.{Item}
use Rattle.qg_node.specs.declared.node.Node.{Node}
use Rattle.qg_node.specs.Fits.{ItemFits}
use Rattle.qg_items.specs.declared.root.RootItem.{RootItem}
use Rattle.qg_super.specs.declared.sizes.Sizes.{Sizes}
use Rattle.qg_image.specs.declared.file.File.{File}
use Rattle.qg_image.specs.declared.element.Element.{Element}
use Rattle.qg_image.specs.declared.quota.Quota.{Quota}
use Rattle.qg_image.specs.Reach.{extent_of}
use Rattle.qg_image.specs.Space.{present_extents}
use Rattle.qg_image.specs.Space as present
use Rattle.qg_image.specs.State.{Placed, State, Subvolume, layout_of, next_generation}
use Rattle.qg_image.specs.OtherTrees.{subvolume_items}
use Rattle.qg_image.specs.Verdict.{extent_set, longest_extent, space_failure}
use Rattle.qg_root_items.specs.Written.{items_of_file}
use Rattle.qg_machine.specs.Written.{new_nodes}
use Rattle.qg_machine.specs.Step.{Commits}
use Rattle.qg_extents.specs.Table.{book_of}
use Rattle.qg_space.specs.Holding.{is_free_slot}
use Rattle.qg_commit.specs.Calls.{IsReadBack}
use Rattle.qg_tree_read.specs.Tree.{Root}
use Rattle.qg_file_edits.specs.Named.{named}
use Rattle.qg_file_edits.specs.Types.{FsTree}
use Rattle.qg_file_edits.specs.Standing.{Stands, items_in, trees_of}
use Rattle.qg_file_edits.proofs.Lists.{from-flat, from-mapped}
use Rattle.qg_file_edits.specs.Laying.{AreFit}
use Rattle.qg_file_edits.proofs.SharedTreesExtents.{from-present}
use Rattle.qg_file_edits.proofs.SharedTreesFiles.{files-fit}
use Rattle.qg_file_edits.proofs.Fitting.{nodes-fit}
use Rattle.qg_file_edits.proofs.Trees.{nodes-laid, tree-subvolume}
use Rattle.qg_reach.specs.Sets.{HaveSame}
use Rattle.qg_commit.specs.Types.{OtherTrees}
use Rattle.qg_commit.specs.OtherTreesHolds.{HoldsLayout}
use Rattle.qg_commit.specs.Sound.{committed}
use Rattle.qg_commit.specs.Sound as sound
use Rattle.qg_commit.specs.Telling.{AreToldBy, IsStateOf, Knows}
use Rattle.qg_commit.specs.Trees.{AreTrees}
use Rattle.qg_commit.proofs.Sound.{is_committed}
use Rattle.qg_commit.specs.HoldsAfter.{IsOnDisk, with_tree_commit}
use Rattle.qg_commit.specs.Writing.{fresh_nodes, nodes_written}
use Rattle.qg_commit.proofs.NewNodes.{written-new}
use Rattle.qg_commit.proofs.OnDisk.{on-disk}
use Rattle.qg_commit.proofs.Subvolume.{fresh-read}
use Rattle.qg_fs_laws.specs.Keeping.{IsKept, KeepsState, quota_laid}
use Rattle.qg_fs_laws.proofs.Commit.{commit-of-machine}
use Rattle.qg_fs_laws.proofs.Free.{space-told}
use Rattle.qg_fs_laws.proofs.Kept.{counted, counts, draft, each-has, lies, stands, whole}
use Rattle.qg_fs_laws.proofs.Runs.{runs-told, state-held}
use Rattle.qg_fs_laws.specs.Committing.{AreShort, AreShortPieces, IsShort, IsSoundCommit, LaysTree}
use Rattle.qg_fs_laws.proofs.Counts.{counts-kept, stores}
use Rattle.qg_fs_laws.proofs.InOrder.{space-kept}
use Rattle.qg_fs_laws.proofs.Roots.{have-roots, roots-are}

-- ---- what is known of the trees

module _ (fs : FsTree) (history : History) (bytes : ℕ) (state : State) (mine : Subvolume)
    (files : List (ℕ × File)) (kept : IsKept fs history bytes) (keeps : KeepsState fs history state mine files) where
  stood : Stands fs history (flat_map items_of_file files) (named files)
  stood = stands fs history bytes state mine files kept keeps

  items_fit : (tree : Root) → Contains (trees_of fs) tree → All ItemFits (items_in fs history tree)
  items_fit tree among =
      let its = tree-subvolume fs history bytes (flat_map items_of_file files) (named files) kept.subvolume stood state
      keeps.laid tree among in
      let has = each-has fs history bytes state mine files kept keeps tree its.0 among its.1 in
      subst (λ (items : List Item). All ItemFits items) (sym has.items) (files-fit its.0.files has.writable)

  pub fits : AreFit fs history
  fits = nodes-fit fs history bytes (flat_map items_of_file files) (named files) kept.subvolume stood kept.near
      items_fit

  -- what the book knows
  knows : Knows (layout_of state) (book_of fs.refs.refs)
  knows =
      let all = counted fs history bytes state mine files kept keeps in
      record {
        owed = all.agrees;
        nodes = λ at placed is. record {
          bytes = fs.land.space.sizes.nodesize;
          known = all.nodes at placed is;
          full = all.marks at placed is;
        };
        extents = λ run has.
            let known = all.known run has in record { generation = known.generation; known = known.known };
        begins = (counts fs history bytes state mine files kept keeps).begins;
      }

  -- ---- extents

  no_longer : IsShort state → (run : Element) → Contains fs.land.space.runs run → run.bytes ≤ longest_extent
  no_longer short run has =
      let entry = from-present state run ((runs-told fs history bytes state mine files kept keeps run).0 has) in
      let file = from-flat (λ (file : ℕ × File). map extent_of file.1.pieces) entry.0.1.files run entry.2 in
      let piece = from-mapped extent_of file.0.1.pieces run file.2 in
      let of_entry = All-contains (λ (e : ℕ × Subvolume). AreShort e.1.files) state.subvolumes entry.0 short entry.1 in
      let of_file = All-contains (λ (f : ℕ × File). AreShortPieces f.1.pieces) entry.0.1.files file.0 of_entry file.1 in
      let of_piece = All-contains (λ (p : Piece). p.extent_bytes ≤ longest_extent) file.0.1.pieces piece.0 of_file
      piece.1 in
      let same : piece.0.extent_bytes ≡ run.bytes = ap (λ (e : Element). e.bytes) piece.2 in
      omega (arith, of_piece, same)

  same_extents : HaveSame (present_extents state) fs.land.space.runs
  same_extents = record {
    into = λ run has. (runs-told fs history bytes state mine files kept keeps run).1 has;
    back = λ run has. (runs-told fs history bytes state mine files kept keeps run).0 has;
  }

-- ---- the commit

module _ (fs : FsTree) (events : List Event) (bytes : ℕ) (state : State) (mine : Subvolume) (files : List (ℕ × File))
    (roots : List (ℕ × RootItem)) (counters : ℕ → Counters) (slots : List ℕ) (trees : OtherTrees)
    (lays : LaysTree fs events bytes state mine files roots counters slots trees) where
  abbrev history : History
  history = Recorded events

  abbrev sizes : Sizes
  sizes = fs.land.space.sizes

  abbrev image : List ℕ
  image = content (with_tree_commit fs trees events)

  -- quota as the commit stores it
  abbrev quota_now : Option Quota
  quota_now = quota_laid fs.tree.next counters state.quota

  next_is : fs.tree.next ≡ next_generation state
  next_is = sym lays.keeps.laid.generation

  standing : Stands fs history (flat_map items_of_file files) (named files)
  standing = stands fs history bytes state mine files lays.kept lays.keeps

  are : AreTrees sizes (next_generation state) roots fs.refs.refs quota_now slots trees
  are = subst (λ (n : ℕ). AreTrees sizes n roots fs.refs.refs quota_now slots trees) next_is lays.laid.laid

  -- the commit changes no subvolume
  items_then : subvolume_items (committed [] state quota_now) ≡ subvolume_items state
  unfolding subvolume_items
  items_then = refl

  is_state : IsStateOf sizes (next_generation state) roots fs.refs.refs quota_now (committed [] state quota_now)
  is_state = record {
    some = omega arith;
    same_sizes = sym lays.keeps.laid.sizes;
    same_generation = refl;
    there = have-roots fs history bytes state mine files lays.kept lays.keeps;
    roots_are = items_then ∙ roots-are fs history bytes state mine files lays.kept lays.keeps roots lays.roots_are;
    quota_is = refl;
    table = lays.kept.table;
    known = knows fs history bytes state mine files lays.kept lays.keeps;
  }

  read : All (IsReadBack sizes.nodesize) (fresh_nodes fs.land.blocks.draft)
  read = fresh-read fs history bytes (flat_map items_of_file files) (named files) roots fs.refs.refs quota_now
      fs.tree.next slots trees lays.kept.subvolume standing lays.kept.table
      (fits fs history bytes state mine files lays.kept lays.keeps) lays.laid

  held : IsOnDisk fs trees events
  held = on-disk fs roots fs.refs.refs quota_now fs.tree.next slots trees lays.laid
      (draft fs history bytes state mine files lays.kept lays.keeps) lays.free read events lays.long bytes
      lays.kept.subvolume (flat_map items_of_file files) (named files) standing

  held_layout : HoldsLayout trees.superblock image state.layout
  held_layout = subst (λ (table : List (ℕ × Placed)). HoldsLayout trees.superblock image table)
      (sym (nodes-laid fs history bytes (flat_map items_of_file files) (named files) lays.kept.subvolume standing state
      lays.keeps.laid))
      held.layout

  space : space_failure state.sizes (extent_set (present_extents state)) ≡ None
  space =
      ap (λ (s : Sizes). space_failure s (extent_set (present_extents state))) lays.keeps.laid.sizes
      ∙ space-kept sizes fs.land.space.runs (present_extents state) lays.order.runs
      (same_extents fs history bytes state mine files lays.kept lays.keeps)
      (no_longer fs history bytes state mine files lays.kept lays.keeps lays.short)

  is : sound.IsCommitted trees state quota_now slots image
  is = is_committed sizes roots fs.refs.refs quota_now slots trees state image
      (whole fs history bytes state mine files lays.kept lays.keeps) lays.free.apart are is_state held.commit
      held_layout (lies fs history bytes state mine files lays.kept lays.keeps) space
      (counts-kept state fs.tree.next counters lays.counted)
      (state-held fs history bytes state mine files lays.kept lays.keeps).home

  -- ---- it is one of the machine

  slots_free : All (λ slot. present.is_free_slot state slot ≡ true) slots
  slots_free =
      let told = space-told fs history bytes state mine files lays.kept lays.keeps in
      All-weaker (λ (slot : ℕ). IsTrue (is_free_slot fs.land.space slot))
      (λ (slot : ℕ). present.is_free_slot state slot ≡ true) (λ slot free. sym (told.slot slot) ∙ free) slots
      lays.free.free

  machine : (others : List Node) → AreToldBy (committed others state quota_now) slots trees others
      → Commits state (committed others state quota_now)
  machine others told =
      subst (λ (n : ℕ). Commits state (committed others state (quota_laid n counters state.quota))) (sym next_is)
      (commit-of-machine state counters slots trees others lays.counted slots_free
      (subst (λ (n : ℕ). AreToldBy (committed others state (quota_laid n counters state.quota)) slots trees others)
      next_is told))

  written : (others : List Node) → AreToldBy (committed others state quota_now) slots trees others
      → IsPermutation (nodes_written fs.land.blocks.draft trees)
      (new_nodes state.held (committed others state quota_now))
  written others told =
      written-new fs history bytes (flat_map items_of_file files) (named files) roots fs.refs.refs quota_now
      fs.tree.next slots trees state (committed others state quota_now) lays.kept.subvolume standing lays.kept.table
      lays.laid lays.free lays.keeps.held_slots
      (nodes-laid fs history bytes (flat_map items_of_file files) (named files) lays.kept.subvolume standing state
      lays.keeps.laid) told.moved

  pub sound-commit : IsSoundCommit fs events state quota_now slots trees
  sound-commit = record {
    is = is;
    machine = machine is.others is.told;
    written = written is.others is.told;
    counted = stores state fs.tree.next counters lays.counted;
  }
