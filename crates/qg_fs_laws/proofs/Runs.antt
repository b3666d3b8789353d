-- Trees that are kept of a state: the runs that are taken are the extents of the present files, and what is held of the
-- state.
use Rattle.std.proofs.Common.{◌≡◌, ℕ, true, false, List, Some, sym, ap, subst, ◌∙◌}
use Rattle.std.specs.Prelude.{◌↔◌}
use Rattle.std.specs.List.{Contains, flat_map}
use Rattle.qg_device.specs.History.{History}
use Rattle.qg_node.specs.Nodes.{header_of}
use Rattle.qg_super.specs.declared.sizes.Sizes.{Sizes}
use Rattle.qg_image.specs.declared.file.File.{File}
use Rattle.qg_image.specs.Table.{keys_of, value_at}
use Rattle.qg_image.specs.declared.element.Element.{Element}
use Rattle.qg_image.specs.Reach.{reaches}
use Rattle.qg_image.specs.Space.{present_extents}
use Rattle.qg_image.specs.State.{Placed, State, Subvolume, layout_of}
use Rattle.qg_owner_rule.proofs.Reaching.{entry_of_value}
use Rattle.qg_root_items.specs.Written.{items_of_file}
use Rattle.qg_space.specs.Agreement.{IsHoldingOf}
use Rattle.qg_extents.specs.Table.{book_of}
use Rattle.qg_tree_read.specs.Tree.{Root}
use Rattle.qg_file_edits.specs.ForestStanding.{HoldsNode, HoldsState, IsKnownRun}
use Rattle.qg_file_edits.proofs.Homes.{all-home}
use Rattle.qg_file_edits.specs.Types.{FsTree}
use Rattle.qg_file_edits.specs.Standing.{items_in, trees_of}
use Rattle.qg_file_edits.proofs.Trees.{items-at_hand, met-slot, subvolume-tree, tree-subvolume, value-subvolume}
use Rattle.qg_file_edits.proofs.SoundState.{owner-reaches, value-laid}
use Rattle.qg_file_edits.specs.Named.{named}
use Rattle.qg_fs_laws.specs.Keeping.{IsKept, KeepsState}
use Rattle.qg_fs_laws.proofs.Kept.{counted, have, stands, whole}
use Rattle.qg_fs_laws.proofs.Named.{HasSubvolume, HasTree, named-present}
use Rattle.qg_fs_laws.proofs.Numbers.{numbers-ascend}

module _ (fs : FsTree) (history : History) (bytes : ℕ) (state : State) (mine : Subvolume)
    (files : List (ℕ × File)) (kept : IsKept fs history bytes) (keeps : KeepsState fs history state mine files) where
  hand_items : items_in fs history fs.tree ≡ flat_map items_of_file files
  hand_items = items-at_hand fs history bytes (flat_map items_of_file files) (named files) kept.subvolume
      (stands fs history bytes state mine files kept keeps)

  its : (tree : Root) → Contains (trees_of fs) tree → HasSubvolume fs history state tree
  its tree among =
      let own = tree-subvolume fs history bytes (flat_map items_of_file files) (named files) kept.subvolume
      (stands fs history bytes state mine files kept keeps) state keeps.laid tree among in
      record {
        entry = (tree.owner, own.0);
        has = entry_of_value tree.owner own.0 state.subvolumes own.1;
        files = have fs history bytes state mine files kept keeps tree own.0 among own.1;
      }

  each : (entry : ℕ × Subvolume) → Contains state.subvolumes entry → HasTree fs history entry.1
  each entry has =
      let there = value-subvolume fs history bytes (flat_map items_of_file files) (named files) kept.subvolume
      (stands fs history bytes state mine files kept keeps) state keeps.laid entry has in
      let root = subvolume-tree fs history bytes (flat_map items_of_file files) (named files) kept.subvolume
      (stands fs history bytes state mine files kept keeps) state keeps.laid entry.0 entry.1 there in
      let own = subst (λ (n : ℕ). value_at n state.subvolumes ≡ Some entry.1) (sym root.number_is) there in
      record {
        tree = root.tree;
        among = root.among;
        files = have fs history bytes state mine files kept keeps root.tree entry.1 root.among own;
      }

  pub runs-told : (run : Element) → Contains fs.land.space.runs run ↔ Contains (present_extents state) run
  runs-told run =
      let named_so = named-present fs history state (flat_map items_of_file files) hand_items its each run in
      let own = (stands fs history bytes state mine files kept keeps).runs run in
      (λ has. named_so.0 (own.0 has), λ has. own.1 (named_so.1 has))

  -- ---- what is held

  -- the space, its present slots being those of the layout
  pub holding-told : IsHoldingOf (record fs.land.space { slots = keys_of state.layout }) state
  holding-told = record {
    sizes = sym keeps.laid.sizes;
    runs = runs-told;
    held_runs = keeps.held_runs;
    slots = λ slot. (λ has. has, λ has. has);
    held_slots = keeps.held_slots;
  }

  home_there : (at : ℕ) (placed : Placed) → value_at at state.layout ≡ Some placed → placed.full ≡ false
      → reaches (layout_of state) (header_of placed.node).owner at ≡ true
  home_there at placed there bare =
      let its = value-laid fs history bytes (flat_map items_of_file files) (named files) kept.subvolume
      (stands fs history bytes state mine files kept keeps) state keeps.laid at placed there in
      let own = (stands fs history bytes state mine files kept keeps).home its.met.tree at placed.node its.met.among
      its.met.reached its.told (sym its.full ∙ bare) in
      subst (λ (n : ℕ). reaches (layout_of state) n at ≡ true) own.number
      (owner-reaches fs history bytes (flat_map items_of_file files) (named files) kept.subvolume
      (stands fs history bytes state mine files kept keeps) state keeps.laid own.tree own.among at own.reached)

  node_held : (at : ℕ) (placed : Placed) → value_at at state.layout ≡ Some placed
      → HoldsNode fs.land history fs.refs at placed
  node_held at placed there =
      let its = value-laid fs history bytes (flat_map items_of_file files) (named files) kept.subvolume
      (stands fs history bytes state mine files kept keeps) state keeps.laid at placed there in
      record {
        slot = met-slot fs history bytes (flat_map items_of_file files) (named files) kept.subvolume
            (stands fs history bytes state mine files kept keeps) at its.met;
        told = its.told;
        mark = sym its.full;
      }

  extent_known : (run : Element) → Contains (present_extents state) run
      → IsKnownRun state.sizes (book_of fs.refs.refs) run
  extent_known run has =
      let all = counted fs history bytes state mine files kept keeps in
      let known = all.known run ((all.extents run).1 has) in
      subst (λ (sizes : Sizes). IsKnownRun sizes (book_of fs.refs.refs) run) (sym keeps.laid.sizes) known

  pub state-held : HoldsState fs.land history fs.refs state
  state-held =
      let standing = stands fs history bytes state mine files kept keeps in
      let sound = whole fs history bytes state mine files kept keeps in
      record {
        sizes = keeps.laid.sizes;
        nodesize = standing.book.nodesize ∙ sym (ap (λ (sizes : Sizes). sizes.nodesize) keeps.laid.sizes);
        next = standing.book.next ∙ sym keeps.laid.generation;
        fits = standing.fits;
        numbers = numbers-ascend fs history bytes state mine files kept keeps;
        whole = sound;
        home = all-home (layout_of state) sound.ascending home_there;
        nodes = node_held;
        agrees = (counted fs history bytes state mine files kept keeps).agrees;
        settled = standing.settled;
        extents = extent_known;
        runs = runs-told;
        held_slots = keeps.held_slots;
        held_runs = keeps.held_runs;
      }
