-- What a state's layout owes is counted, and of each node and extent the book knows what it is.
use Rattle.std.proofs.Common.{◌≡◌, ℕ, List, ◌++◌, Option, Some, None, arith, refl, sym, ap, subst, ◌∙◌, ◌↔◌, inl, inr}
use Rattle.std.specs.List.{Contains, filter_map}
use Rattle.std.proofs.lemmas.List.Elements.{Contains-append_left, Contains-append_right}
use Rattle.qg_device.specs.History.{History}
use Rattle.qg_node.specs.declared.item.Item.{Item}
use Rattle.qg_node.specs.declared.node.Node.{Node}
use Rattle.qg_node.specs.Nodes.{header_of, own_items}
use Rattle.qg_items.specs.declared.extent.Reference.{Reference}
use Rattle.qg_image.specs.Table.{value_at}
use Rattle.qg_image.specs.declared.element.Element.{Element}
use Rattle.qg_image.specs.Owed.{layout_extents, owed_count}
use Rattle.qg_image.specs.Space.{present_extents}
use Rattle.qg_image.specs.State.{Layout, Placed, State, layout_of}
use Rattle.qg_image.proofs.Contained.{contains_cases}
use Rattle.qg_owner_rule.proofs.Reaching.{entry_of_value}
use Rattle.qg_image.specs.declared.tree.TreeKind.TheVariants.{Files}
use Rattle.qg_blocks.specs.NodesFound.{fresh_at}
use Rattle.qg_refs.specs.Book.{count_at, what_in}
use Rattle.qg_extents.specs.Table.{book_of}
use Rattle.qg_shared_trees.specs.Tree.{Root, super_of}
use Rattle.qg_shared_trees.specs.ForestStanding.{IsKnownRun}
use Rattle.qg_shared_trees.specs.Settled.{what_of}
use Rattle.qg_fs_tree.specs.declared.fs_tree.FsTree.{FsTree}
use Rattle.qg_fs_tree.specs.Standing.{IsSubvolume, Stands, items_in, layout_in, name_told, names_elsewhere, nodes_of}
use Rattle.qg_fs_tree.specs.Standing.{trees_of}
use Rattle.qg_fs_tree.proofs.Before.{known_of}
use Rattle.qg_shared_trees.proofs.BranchItems.{from-leaf, in-leaf}
use Rattle.qg_fs_tree.proofs.Lists.{has-flat}
use Rattle.qg_shared_trees.specs.Laying.{HaveFiles, IsCounted, IsLaidOut, IsMetAs, names_in, nodes_in}
use Rattle.qg_shared_trees.proofs.Extents.{TellsExtent, from-files, from-layout, from-present, in-files, in-layout}
use Rattle.qg_shared_trees.proofs.Extents.{in-names, in-present}
use Rattle.qg_shared_trees.proofs.FreshOrHeld.{met-referred}
use Rattle.qg_shared_trees.proofs.Moved.{fresh-told}
use Rattle.qg_shared_trees.proofs.Nodes.{value-reached}
use Rattle.qg_shared_trees.proofs.Trees.{branch, drafted, entry-there, items-at_hand, met-slot, nodes-laid, sized}
use Rattle.qg_shared_trees.proofs.Trees.{subvolume-tree, tree-subvolume, value-subvolume}
use Rattle.qg_shared_trees.proofs.SoundState.{entry-laid, value-laid}

-- an item of a tree tells an extent
record IsTold (fs : FsTree) (history : History) (run : Element) : Type 0 where
  tree : Root
  among : Contains (trees_of fs) tree
  item : Item
  has : Contains (items_in fs history tree) item
  tells : TellsExtent item run

module _ (fs : FsTree) (history : History) (bytes : ℕ) (items : List Item) (state : State)
    (subvolume : IsSubvolume fs history bytes) (stands : Stands fs history items (names_in items))
    (laid : IsLaidOut state fs history) where
  same_owed : (at : ℕ) (reference : Reference)
      → owed_count (layout_of state) at reference ≡ owed_count (layout_in fs history) at reference
  same_owed at reference = ap (λ (layout : Layout). owed_count layout at reference) laid.layout

  counted : (at : ℕ) (reference : Reference)
      → count_at (book_of fs.refs.refs) at reference ≡ owed_count (layout_of state) at reference
  counted at reference =
      let both = stands.counts at reference in
      let owed = same_owed at reference in
      omega (arith, both, owed)

  -- ---- nodes

  as_there : (q : ℕ) (placed : Placed) → value_at q state.layout ≡ Some placed → IsMetAs fs history q placed
  as_there q placed is = value-laid fs history bytes items (names_in items) subvolume stands state laid q placed is

  known_node : (q : ℕ) (placed : Placed) → IsMetAs fs history q placed
      → what_in (book_of fs.refs.refs q)
      ≡ Some (what_of fs.land.space.sizes.nodesize (header_of placed.node).generation placed.node)
  known_node q placed its = from (fresh_at fs.land.blocks.draft q) refl where
    sized_so : (generation : ℕ) → Some (what_of fs.refs.nodesize generation placed.node)
        ≡ Some (what_of fs.land.space.sizes.nodesize generation placed.node)
    sized_so generation = ap (λ (n : ℕ). Some (what_of n generation placed.node)) stands.book.nodesize

    from : (o : Option Node) → fresh_at fs.land.blocks.draft q ≡ o
        → what_in (book_of fs.refs.refs q)
        ≡ Some (what_of fs.land.space.sizes.nodesize (header_of placed.node).generation placed.node)
    from (Some node) is =
        let told_so = sym (fresh-told fs.land history q node is) ∙ its.told in
        let same : node ≡ placed.node = let e : Some node ≡ Some placed.node = told_so in cc in
        let dated = ((drafted fs history bytes items (names_in items) subvolume stands).each q node is).dated in
        stands.settled.fresh q node is
        ∙ ap (λ (n : Node). Some (what_of fs.refs.nodesize fs.refs.next n)) same
        ∙ ap (λ (n : ℕ). Some (what_of fs.refs.nodesize n placed.node))
        (stands.book.next ∙ sym dated ∙ ap (λ (n : Node). (header_of n).generation) same)
        ∙ sized_so (header_of placed.node).generation
    from None none =
        stands.settled.clean q placed.node none its.told
        (met-referred fs history bytes items (names_in items) subvolume stands q its.met)
        ∙ sized_so (header_of placed.node).generation

  -- ---- extents

  -- an item of a tree tells what a leaf of the layout names
  layout_item : (run : Element) → Contains (layout_extents (layout_of state)) run → IsTold fs history run
  layout_item run has =
      let found = from-layout (layout_of state) run has in
      let its = entry-laid fs history bytes items (names_in items) subvolume stands state laid found.0 found.1 in
      let tree = its.met.tree in
      record {
        tree = tree;
        among = its.met.among;
        item = found.2;
        has = from-leaf Files (super_of tree fs.land.blocks.draft) (nodes_of fs history) found.2 tree.height
            tree.address (items_in fs history tree)
            (branch fs history bytes items (names_in items) subvolume stands tree its.met.among) found.0.0
            its.met.reached found.0.1.node its.told found.3;
        tells = found.4;
      }

  -- and so it is the other way round
  item_layout : (run : Element) → IsTold fs history run → Contains (layout_extents (layout_of state)) run
  item_layout run told =
      let tree = told.tree in
      let found = in-leaf Files (super_of tree fs.land.blocks.draft) (nodes_of fs history) told.item tree.height
      tree.address (items_in fs history tree)
      (branch fs history bytes items (names_in items) subvolume stands tree told.among) told.has in
      let entry = entry-there fs history bytes items (names_in items) subvolume stands found.at
      (record { tree = tree; among = told.among; reached = found.reached }) in
      let same : found.node ≡ entry.0.node =
      let e : Some found.node ≡ Some entry.0.node = sym found.there ∙ entry.1.told in cc in
      let value = value-reached fs history (sized fs history bytes items (names_in items) subvolume stands)
      (met-slot fs history bytes items (names_in items) subvolume stands) found.at entry.0 entry.1 in
      let there = subst (λ (table : List (ℕ × Placed)). Contains table (found.at, entry.0))
      (sym (nodes-laid fs history bytes items (names_in items) subvolume stands state laid))
      (entry_of_value found.at entry.0 (nodes_in fs history) value) in
      in-layout (layout_of state) run (found.at, entry.0) there told.item
      (subst (λ (n : Node). Contains (own_items n) told.item) same found.has) told.tells

  -- what items tell is named
  told_named : (run : Element) (told : IsTold fs history run)
      → Contains (names_in items ++ names_elsewhere fs history) told.tells.name
  unfolding names_elsewhere
  told_named run told = elim (contains_cases fs.tree fs.others.items told.tree told.among) [
    | inl same ↦
        let here = subst (λ (t : Root). Contains (items_in fs history t) told.item) (sym same) told.has in
        let listed = subst (λ (xs : List Item). Contains xs told.item)
        (items-at_hand fs history bytes items (names_in items) subvolume stands) here in
        Contains-append_left (names_in items) (names_elsewhere fs history) told.tells.name
        (in-names items told.item run listed told.tells)
    | inr later ↦
        Contains-append_right (names_in items) (names_elsewhere fs history) told.tells.name
        (has-flat (λ (tree : Root). filter_map name_told (items_in fs history tree)) fs.others.items told.tree
        told.tells.name later (in-names (items_in fs history told.tree) told.item run told.has told.tells))
  ]

  known_run : (run : Element) → Contains (layout_extents (layout_of state)) run
      → IsKnownRun fs.land.space.sizes (book_of fs.refs.refs) run
  known_run run has =
      let told = layout_item run has in
      let known = known_of fs history items (names_in items) stands
      (drafted fs history bytes items (names_in items) subvolume stands) told.tells.name (told_named run told) in
      subst (λ (element : Element). IsKnownRun fs.land.space.sizes (book_of fs.refs.refs) element) told.tells.is
      (record { lies = known.lies; generation = known.generation; known = known.known })

  module _ (files : HaveFiles state fs history) where
    told_present : (run : Element) → IsTold fs history run → Contains (present_extents state) run
    told_present run told =
        let mine = tree-subvolume fs history bytes items (names_in items) subvolume stands state laid told.tree
        told.among in
        in-present state run (told.tree.owner, mine.0)
        (entry_of_value told.tree.owner mine.0 state.subvolumes mine.1)
        (in-files fs.tree.next (items_in fs history told.tree) mine.0.files
        (files told.tree mine.0 told.among mine.1) run told.item told.has told.tells)

    present_told : (run : Element) → Contains (present_extents state) run → IsTold fs history run
    present_told run has =
        let found = from-present state run has in
        let there = value-subvolume fs history bytes items (names_in items) subvolume stands state laid found.0
        found.1 in
        let root = subvolume-tree fs history bytes items (names_in items) subvolume stands state laid found.0.0
        found.0.1 there in
        let own = subst (λ (n : ℕ). value_at n state.subvolumes ≡ Some found.0.1) (sym root.number_is) there in
        let item = from-files fs.tree.next (items_in fs history root.tree) found.0.1.files
        (files root.tree found.0.1 root.among own) run found.2 in
        record { tree = root.tree; among = root.among; item = item.0; has = item.1; tells = item.2 }

    same_extents : (run : Element)
        → Contains (layout_extents (layout_of state)) run ↔ Contains (present_extents state) run
    same_extents run = (
      λ has. told_present run (layout_item run has),
      λ has. item_layout run (present_told run has),
    )

    pub IsCounted-laid : IsCounted state fs history
    IsCounted-laid = record {
      owed = same_owed;
      agrees = counted;
      nodes = λ q placed is. known_node q placed (as_there q placed is);
      marks = λ q placed is. sym (as_there q placed is).full;
      extents = same_extents;
      known = known_run;
    }

pub owed-counted : (fs : FsTree) (history : History) (bytes : ℕ) (items : List Item) (state : State)
    → IsSubvolume fs history bytes → Stands fs history items (names_in items)
    → IsLaidOut state fs history → HaveFiles state fs history → IsCounted state fs history
owed-counted fs history bytes items state subvolume stands laid files =
    IsCounted-laid fs history bytes items state subvolume stands laid files
