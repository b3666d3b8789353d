-- Where a node and a subvolume are added to a state, or a subvolume goes, the other trees are told as they were.
use Rattle.std.proofs.Common.{◌≡◌, ℕ, true, List, Option, Some, None, refl, sym, ap, subst, ◌∙◌}
use Rattle.std.specs.Prelude.{◌==◌, ◌&&◌, is_some, not}
use Rattle.std.specs.List.{All, Contains, flat_map, list_any}
use Rattle.std.specs.Option.{option_map}
use Rattle.std.proofs.lemmas.Bool.{and_parts, true≢false}
use Rattle.qg_device.specs.History.{History}
use Rattle.qg_node.specs.declared.node.Node.{Node}
use Rattle.qg_super.specs.Places.{is_slot}
use Rattle.qg_image.specs.Below.{items_below}
use Rattle.qg_image.specs.Table.{has_key, value_at, with_value}
use Rattle.qg_image.specs.Reach.{level_of}
use Rattle.qg_image.specs.Record.{Record}
use Rattle.qg_image.specs.Space.{is_free_slot}
use Rattle.qg_image.specs.State.{Placed, State, Subvolume, next_generation, node_at}
use Rattle.qg_tree_items.specs.Writable.{IsFileBy}
use Rattle.qg_root_items.specs.Written.{items_of_file}
use Rattle.qg_machine.specs.Refusals.{root_level}
use Rattle.qg_reach.proofs.Layouts.{value_at-with_other}
use Rattle.qg_tree_read.specs.Tree.{Root}
use Rattle.qg_tree_read.proofs.BranchFrames.{reach-same, reach-top}
use Rattle.qg_tree_read.proofs.Frames.{items-same}
use Rattle.qg_open_image.specs.ForestStanding.{HoldsState, root_of, tree_of}
use Rattle.qg_open_image.proofs.Meeting.{placed-there}
use Rattle.qg_open_image.proofs.ForestRoots.{root_level-value, root_of-value}
use Rattle.qg_blocks.specs.NodesInMemory.{nothing_fresh}
use Rattle.qg_blocks.specs.NodesFound.{fresh_at}
use Rattle.qg_extents.specs.Table.{IsTable}
use Rattle.qg_node_alloc.specs.Land.{IsDrafted}
use Rattle.qg_open_image.specs.FsLawsKeeping as step
use Rattle.qg_open_image.proofs.FsLawsKept.{taken-told}
use Rattle.qg_open_image.proofs.Runs.{state-held}
use Rattle.qg_open_image.specs.Types.{FsTree}
use Rattle.qg_open_image.specs.Standing.{IsReachedBy, items_in, nodes_of, trees_of}
use Rattle.qg_open_image.proofs.Nodes.{value-reached}
use Rattle.qg_open_image.proofs.Trees.{entry-there, met-slot, nodes-laid, sized}
use Rattle.qg_open_image.specs.Named.{named}
use Rattle.qg_open_image.specs.Files.{HasFiles}
use Rattle.qg_open_image.specs.declared.open_image.OpenImage.{OpenImage}
use Rattle.qg_open_image.specs.Keeping.{IsKept, IsKeptWith}
use Rattle.qg_open_image.proofs.Looked.{is-near, is-subvolume}
use Rattle.qg_open_image.proofs.Tables.{key-of-value}
use Rattle.qg_open_image.proofs.Turned.{tree-files, tree-sub}
use Rattle.qg_image_changes.proofs.Young.{old-not-fresh}

-- a free slot has no node
pub free-none : (state : State) (address : ℕ) → is_free_slot state address ≡ true → value_at address state.layout ≡ None
unfolding is_free_slot
free-none state address free =
    let outer = and_parts (is_slot state.sizes address && not (has_key address state.layout))
    (not (list_any (λ (node : ℕ). node == address) state.held.nodes)) free in
    let inner = and_parts (is_slot state.sizes address) (not (has_key address state.layout)) outer.0 in
    none_of (value_at address state.layout) inner.1
  where
    none_of : (o : Option Placed) → not (is_some o) ≡ true → o ≡ None
    none_of None is = refl
    none_of (Some placed) is = absurd (true≢false (sym is))

-- so a node that is put there leaves the others
pub layout-grown : (table : List (ℕ × Placed)) (address : ℕ) (placed : Placed) → value_at address table ≡ None
    → (q : ℕ) (other : Placed) → value_at q table ≡ Some other
    → value_at q (with_value address placed table) ≡ Some other
layout-grown table address placed none q other there =
    value_at-with_other address q placed table
    (λ same. let wrong : ◌≡◌ {A = Option Placed} None (Some other) =
    sym none ∙ ap (λ (at : ℕ). value_at at table) same ∙ there in absurd cc)
    ∙ there

items_by : (a b : FsTree) (history : History) (tree : Root)
    → items_below (nodes_of a history) tree.height tree.address ≡ items_below (nodes_of b history) tree.height
    tree.address
    → items_in a history tree ≡ items_in b history tree
items_by a b history tree same = rw same refl

-- What is kept of a state
module _ (old : OpenImage) (history : History) (bytes : ℕ) (state : State) (names : List Record)
    (fits : IsKept old history bytes) (keeps : IsKeptWith old state history names) where
  -- what a tree reaches is in the layout, and told so
  pub placed-old : (tree : Root) (q : ℕ) → Contains (trees_of old.fs) tree → IsReachedBy old.fs history tree q
      → (placed : Placed) × (value_at q state.layout ≡ Some placed)
      × (nodes_of old.fs history q ≡ Some placed.node)
  placed-old tree q among reached =
      let items = flat_map items_of_file keeps.files in
      let pieces = named keeps.files in
      let subvolume = is-subvolume old history bytes fits in
      let stands = keeps.keeps.holds.stands in
      let entry = entry-there old.fs history bytes items pieces subvolume stands q
      (record { tree = tree; among = among; reached = reached }) in (
        entry.0,
        ap (λ (table : List (ℕ × Placed)). value_at q table)
            (nodes-laid old.fs history bytes items pieces subvolume stands state keeps.keeps.laid)
            ∙ value-reached old.fs history (sized old.fs history bytes items pieces subvolume stands)
            (met-slot old.fs history bytes items pieces subvolume stands) q entry.0 entry.1,
        entry.1.told,
      )

  -- where each node of the layout is where it was, so is each that a tree reaches
  pub still-grown : (layout : List (ℕ × Placed))
      → ((q : ℕ) (placed : Placed) → value_at q state.layout ≡ Some placed → value_at q layout ≡ Some placed)
      → (tree : Root) → Contains (trees_of old.fs) tree → (q : ℕ) → IsReachedBy old.fs history tree q
      → node_at layout q ≡ node_at state.layout q
  still-grown layout grown tree among q reached =
      let is = placed-old tree q among reached in
      ap (λ (o : Option Placed). option_map (λ (placed : Placed). placed.node) o)
      (grown q is.0 is.1 ∙ sym is.1)

  -- Trees that hold another state, and one of those that there were, each of whose nodes is where it was
  module _ (after : State) (fs : FsTree) (held : HoldsState fs.land history fs.refs after)
      (come : next_generation after ≡ next_generation state) (next : fs.tree.next ≡ old.fs.tree.next) (tree : Root)
      (among : Contains (trees_of old.fs) tree)
      (still : (q : ℕ) → IsReachedBy old.fs history tree q → node_at after.layout q ≡ node_at state.layout q) where
    pub nodes-grown : (q : ℕ) → IsReachedBy old.fs history tree q → nodes_of fs history q ≡ nodes_of old.fs history q
    nodes-grown q reached =
        let is = placed-old tree q among reached in
        let found : node_at after.layout q ≡ Some is.0.node =
        still q reached
        ∙ ap (λ (o : Option Placed). option_map (λ (placed : Placed). placed.node) o) is.1 in
        let now = placed-there after.layout q (value_at q after.layout) refl is.0.node found in
        (held.nodes q now.0 now.1).told ∙ ap (λ (node : Node). Some node) now.2 ∙ sym is.2

    -- it has the items that it had
    pub items-grown : items_in fs history tree ≡ items_in old.fs history tree
    items-grown =
        items_by fs old.fs history tree
        (items-same (nodes_of old.fs history) (nodes_of fs history) tree.height tree.address nodes-grown)

    pub files-grown : (mine : Subvolume) → value_at tree.owner state.subvolumes ≡ Some mine
        → HasFiles fs history tree mine.files
    files-grown mine there =
        let has = tree-files old history bytes state names fits keeps tree mine among there in
        record {
          items = items-grown ∙ has.items;
          writable = has.writable;
          by = subst (λ (n : ℕ). All (IsFileBy n) mine.files) (sym next) has.by;
        }

    -- the root of the subvolume is where it was, and of the level that it had
    pub tree-grown : (mine : Subvolume) → value_at tree.owner after.subvolumes ≡ Some mine → mine.root ≡ tree.address
        → tree_of after tree.owner ≡ tree_of state tree.owner
    tree-grown mine there root =
        let its = tree-sub old history bytes state names fits keeps tree among in
        let place : root_of after tree.owner ≡ root_of state tree.owner =
        root_of-value after tree.owner mine there ∙ root
        ∙ sym (root_of-value state tree.owner its.0 its.1 ∙ its.2) in
        let level : root_level after tree.owner ≡ root_level state tree.owner =
        root_level-value after tree.owner mine there
        ∙ ap (λ (at : ℕ). level_of (node_at after.layout at)) root
        ∙ ap (λ (o : Option Node). level_of o)
        (still tree.address (reach-top (nodes_of old.fs history) tree.height tree.address))
        ∙ sym (root_level-value state tree.owner its.0 its.1
        ∙ ap (λ (at : ℕ). level_of (node_at state.layout at)) its.2) in
        λ i. let now : Root = record {
          address = place i;
          height = level i;
          owner = tree.owner;
          next = come i;
        } in now

    -- and it reaches what it reached
    pub reach-back : (q : ℕ) → IsReachedBy fs history tree q → IsReachedBy old.fs history tree q
    reach-back q reached =
        reach-same (nodes_of old.fs history) (nodes_of fs history) tree.height tree.address nodes-grown q reached

    -- which is no fresh node, where none was fresh
    pub old-none-fresh : IsTable old.fs.refs.refs
        → old.fs.land.blocks.draft ≡ nothing_fresh old.fs.land.blocks.draft.sizes → IsDrafted fs.land fs.tree.next
        → (q : ℕ) (node : Node) → IsReachedBy fs history tree q → fresh_at fs.land.blocks.draft q ≡ Some node → ⊥
    old-none-fresh table bare drafted q node reached fresh =
        let is = placed-old tree q among (reach-back q reached) in
        let kept : step.IsKept old.fs history bytes = record {
          subvolume = is-subvolume old history bytes fits;
          table = table;
          near = is-near old fits.fitted;
        } in
        let before = state-held old.fs history bytes state keeps.mine keeps.files kept keeps.keeps in
        old-not-fresh old.fs.land history old.fs.refs state before bare
        (λ at placed there.
        taken-told old.fs history bytes state keeps.mine keeps.files kept keeps.keeps at
        (before.nodes at placed there).slot
        ∙ key-of-value at state.layout placed there)
        fs.land history fs.tree.next drafted (next ∙ sym keeps.keeps.holds.stands.book.next) q is.0 is.1
        (nodes-grown q (reach-back q reached) ∙ is.2) node fresh
