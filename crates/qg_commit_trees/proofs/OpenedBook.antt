-- An image that was just opened: the extents that its files name, the owners of its nodes, and where references lead.
use Rattle.std.proofs.Common.{◌≡◌, ℕ, ◌<◌, ◌≤◌, Bool, true, false, List, [], ◌∷◌, ◌++◌, map, Option, Some, None, arith}
use Rattle.std.proofs.Common.{refl, sym, ap, subst, ◌∙◌, ◌↔◌, inl, inr}
use Rattle.std.specs.Prelude.{IsTrue, ◌==◌, unwrap_or}
use Rattle.std.specs.List.{All, Contains, filter_map, find, flat_map}
use Rattle.std.proofs.lemmas.Bool.{cases_Bool, cond-false, cond-true, eq-eqb, eqb-true, or_cases, true≢false}
use Rattle.std.proofs.lemmas.List.Elements.{All-from_recursion, Contains-append_cases, Contains-append_left}
use Rattle.std.proofs.lemmas.List.Elements.{Contains-append_right}
use Rattle.qg_device.specs.History.{Event, Recorded, content}
use Rattle.qg_num.specs.declared.piece.Piece.{Piece}
use Rattle.qg_node.specs.declared.item.Item.{Item}
use Rattle.qg_node.specs.declared.node.Node.{Node}
use Rattle.qg_node.specs.Nodes.{header_of}
use Rattle.qg_items.specs.declared.extent.Reference.{Reference}
use Rattle.qg_items.specs.declared.root.RootItem.{RootItem}
use Rattle.qg_items.specs.declared.tree.TheConstants.{TOP_LEVEL}
use Rattle.qg_super.specs.declared.sizes.Sizes.{Sizes}
use Rattle.qg_super.specs.declared.superblock.Super.{Super}
use Rattle.qg_super.specs.Places.{is_run, is_slot}
use Rattle.qg_super.specs.SuperText.{sizes_of}
use Rattle.qg_super.proofs.Runs.{is_run-WholeRun}
use Rattle.qg_image.specs.Table.{value_at}
use Rattle.qg_image.specs.declared.file.File.{File}
use Rattle.qg_image.specs.declared.element.Element.{Element}
use Rattle.qg_image.specs.Owed.{layout_extents, owed_count}
use Rattle.qg_image.specs.Reach.{extent_of, is_among, level_of, pieces_of, reaches}
use Rattle.qg_image.specs.Space.{present_extents}
use Rattle.qg_image.specs.State.{Layout, Placed, Subvolume, layout_of, node_at}
use Rattle.qg_image.proofs.Contained.{contains_cases, contains_here, contains_later, none_contained}
use Rattle.qg_image.specs.declared.tree.TreeKind.TheVariants.{Files}
use Rattle.qg_image.specs.ImageState.{extent_parts, items_of_root, roots_in, state_in, subvolume_in, subvolume_roots}
use Rattle.qg_image.specs.ImageState.{subvolumes_in}
use Rattle.qg_image.specs.Verdict.{extent_set}
use Rattle.qg_reach.proofs.Distinct.{apart_same}
use Rattle.qg_reach.proofs.ExtentSets.{extent_set_same}
use Rattle.qg_reach.proofs.SlotRule.{slot_below}
use Rattle.qg_reach.proofs.SpaceRule.{AreApart-space, member_fits}
use Rattle.qg_owner_rule.proofs.Reaching.{entry_of_value}
use Rattle.qg_refs.specs.Book.{AgreesWithOwed, count_at, full_in, what_in}
use Rattle.qg_extents.specs.Table.{IsTable, book_of}
use Rattle.qg_extents.proofs.Agreeing.{book_agrees}
use Rattle.qg_space.proofs.Marks.{SlotsFit-is_served}
use Rattle.qg_tree_read.specs.Tree.{Root, super_of}
use Rattle.qg_tree_read.proofs.BranchFrames.{reach-same, reach-top}
use Rattle.qg_shared_trees.specs.Rooting.{IsRooted}
use Rattle.qg_shared_trees.proofs.Downward.{ways-closed}
use Rattle.qg_shared_trees.proofs.Ways.{ways-some}
use Rattle.qg_shared_trees.specs.Following.{references_to}
use Rattle.qg_shared_trees.proofs.ForestExtents.{among-one}
use Rattle.qg_shared_trees.proofs.Homes.{owner-reaches}
use Rattle.qg_shared_trees.proofs.Referring.{OwesChild, OwesRoot, child-counted, extents-named, owed-referred}
use Rattle.qg_shared_trees.proofs.Referring.{referred-owed}
use Rattle.qg_shared_trees.proofs.Referring.{root-counted}
use Rattle.qg_shared_trees.specs.Types.{FsTree}
use Rattle.qg_shared_trees.specs.Standing.{IsAtHome, IsKnownExtent, IsReachedBy, extents_named, items_in, layout_in}
use Rattle.qg_shared_trees.specs.Standing.{name_told, names_elsewhere, names_times, nodes_of, trees_of}
use Rattle.qg_shared_trees.proofs.Counts.{branch, single-way}
use Rattle.qg_shared_trees.proofs.FewNames.{names-few}
use Rattle.qg_tree_read.proofs.BranchItems.{from-leaf, in-leaf}
use Rattle.qg_shared_trees.proofs.Lists.{all-contained, from-flat, from-mapped, from-some, has-flat, has-mapped}
use Rattle.qg_shared_trees.proofs.Lists.{made-some}
use Rattle.qg_shared_trees.proofs.FsTreeNodes.{last-step}
use Rattle.qg_shared_trees.proofs.Places.{slot-once}
use Rattle.qg_shared_trees.proofs.Reached.{reached-some}
use Rattle.qg_shared_trees.proofs.Sound.{told-formed}
use Rattle.qg_shared_trees.specs.Laying.{IsMet, names_in}
use Rattle.qg_shared_trees.proofs.Extents.{TellsExtent, from-files, from-layout, from-present, in-files, in-layout}
use Rattle.qg_shared_trees.proofs.Extents.{in-present, own-extent}
use Rattle.qg_shared_trees.proofs.Nodes.{value-reached}
use Rattle.qg_shared_trees.proofs.Reach.{in-reaches, reaches-root}
use Rattle.qg_shared_trees.proofs.Roots.{root-tree}
use Rattle.qg_commit_trees.specs.Opening.{IsOpened, IsSoundImage, opened_tree}
use Rattle.qg_commit_trees.proofs.Dated.{told-low}
use Rattle.qg_commit_trees.proofs.Opened.{branch-opened, by-met, drafted-there, entry-tree, hand-opened, items-opened}
use Rattle.qg_commit_trees.proofs.Opened.{met-by, next-opened, other-number, others-ascend, own-opened, placed-opened}
use Rattle.qg_commit_trees.proofs.Opened.{root-opened, rooted-opened, same-entry, tree-entry}
use Rattle.qg_commit_trees.proofs.OpenedLayout.{entry-is, layout-opened, node-laid, nodes-opened, root_told_by}
use Rattle.qg_commit_trees.proofs.OpenedLayout.{roots-are}
use Rattle.qg_commit_trees.proofs.OpenedLayout.{roots-opened}
use Rattle.qg_commit_trees.proofs.Recorded.{extent-known, node-known}

-- ---- the first that passes a test

-- one passes it
record IsFound {X : Type 0} (test : X → Bool) (xs : List X) : Type 0 where
  x : X
  is : find test xs ≡ Some x
  has : Contains xs x
  passes : test x ≡ true

find_some : {X : Type 0} (test : X → Bool) (xs : List X) (x : X) → Contains xs x → test x ≡ true → IsFound test xs
find_some test [] x has passes = absurd (none_contained x has)
find_some {X} test (first ∷ xs) x has passes = elim (cases_Bool (test first)) [
  | inl here ↦ record {
    x = first;
    is = cond-true (test first) (Some first) (find test xs) here;
    has = contains_here first xs;
    passes = here;
  }
  | inr other ↦ elim (contains_cases first xs x has) [
    | inl same ↦ absurd (true≢false (sym (ap test same ∙ passes) ∙ other))
    | inr later ↦
        let found = find_some test xs x later passes in
        record {
          x = found.x;
          is = cond-false (test first) (Some first) (find test xs) other ∙ found.is;
          has = contains_later first xs found.x found.has;
          passes = found.passes;
        }
  ]
]

-- ---- the image

module _ (fs : FsTree) (super : Super) (events : List Event) (table : IsTable fs.refs.refs)
    (sound : IsSoundImage super (content events)) (opened : IsOpened fs super (content events)) where
  abbrev layout : Layout
  layout = layout_of (state_in super (content events))

  abbrev roots : List (ℕ × RootItem)
  roots = subvolume_roots (roots_in super (content events))

  abbrev items_by : ℕ × RootItem → List Item
  items_by entry = items_of_root Files super (content events) entry.1

  -- ---- a node that is reached

  some_bytes : 0 < fs.land.space.sizes.nodesize
  some_bytes = (SlotsFit-is_served fs.land.space.sizes
      (drafted-there fs super events sound opened).sizes.served).some

  -- it has its entry in the state's layout
  pub value-opened : (q : ℕ) → IsMet fs (Recorded events) q → (node : Node)
      → nodes_of fs (Recorded events) q ≡ Some node
      → value_at q (layout_of (state_in super (content events))).nodes
      ≡ Some (record { node = node; full = full_in (book_of fs.refs.refs q) })
  value-opened q met node is =
      ap (λ (table : List (ℕ × Placed)). value_at q table) (sym (nodes-opened fs super events sound opened))
      ∙ value-reached fs (Recorded events) some_bytes (placed-opened fs super events sound opened) q
      (record { node = node; full = full_in (book_of fs.refs.refs q) })
      (record { met = met; told = is; full = refl })

  pub known-opened : (q : ℕ) → IsMet fs (Recorded events) q → (node : Node)
      → nodes_of fs (Recorded events) q ≡ Some node
      → what_in (book_of fs.refs.refs q) ≡ Some (record {
        bytes = super.nodesize;
        level = Some (header_of node).level;
        generation = (header_of node).generation;
      })
  known-opened q met node is =
      node-known super.nodesize layout (extent_parts super (content events)) (book_of fs.refs.refs) sound.agrees
      opened.told q (record { node = node; full = full_in (book_of fs.refs.refs q) }) (value-opened q met node is)

  -- ---- extents

  abbrev subvolume_by : ℕ × RootItem → ℕ × Subvolume
  subvolume_by entry = (entry.0, subvolume_in super (content events) entry.1)

  subvolumes_are : (state_in super (content events)).subvolumes
      ≡ map subvolume_by (subvolume_roots (roots_in super (content events)))
  unfolding state_in subvolumes_in
  subvolumes_are = refl

  abbrev extents_by : List (ℕ × File) → List Element
  extents_by files = flat_map (λ (file : ℕ × File). map extent_of file.1.pieces) files

  -- an item of a subvolume tells an extent
  pub record IsToldBy (run : Element) : Type 0 where
    pub entry : ℕ × RootItem
    pub has : Contains (subvolume_roots (roots_in super (content events))) entry
    pub item : Item
    pub among : Contains (items_of_root Files super (content events) entry.1) item
    pub tells : TellsExtent item run

  -- it is one of the files then
  pub told-present : (run : Element) → IsToldBy run → Contains (present_extents (state_in super (content events))) run
  told-present run told =
      let own = own-opened fs super events sound opened told.entry told.has in
      in-present (state_in super (content events)) run (subvolume_by told.entry)
      (subst (λ (subvolumes : List (ℕ × Subvolume)). Contains subvolumes (subvolume_by told.entry))
      (sym subvolumes_are) (has-mapped subvolume_by roots told.entry told.has))
      (subst (λ (files : List (ℕ × File)). Contains (extents_by files) run)
      (sym (ap (λ (read : Option (List (ℕ × File))). unwrap_or read []) own.files_are))
      (in-files super.generation (items_by told.entry) own.files own.files_are run told.item told.among told.tells))

  pub present-told : (run : Element) → Contains (present_extents (state_in super (content events))) run → IsToldBy run
  present-told run has =
      let found = from-present (state_in super (content events)) run has in
      let entry = from-mapped subvolume_by roots found.0
      (subst (λ (subvolumes : List (ℕ × Subvolume)). Contains subvolumes found.0) subvolumes_are found.1) in
      let there = subst (λ (e : ℕ × Subvolume). Contains (extents_by e.1.files) run) (sym entry.2) found.2 in
      let own = own-opened fs super events sound opened entry.0 entry.1 in
      let item = from-files super.generation (items_by entry.0) own.files own.files_are run
      (subst (λ (files : List (ℕ × File)). Contains (extents_by files) run)
      (ap (λ (read : Option (List (ℕ × File))). unwrap_or read []) own.files_are) there) in
      record { entry = entry.0; has = entry.1; item = item.0; among = item.1; tells = item.2 }

  -- it is one that a leaf of the layout names, and the other way round
  told_named : (run : Element) → IsToldBy run → Contains (layout_extents layout) run
  told_named run told =
      let entry = told.entry in
      let leaf = in-leaf Files super (nodes_of fs (Recorded events)) told.item entry.1.level entry.1.bytenr
      (items_by entry)
      (branch-opened fs super events sound opened entry told.has) told.among in
      let met = by-met fs super events sound opened leaf.at
      (record { entry = entry; has = told.has; reached = leaf.reached }) in
      let placed_so : Placed = record { node = leaf.node; full = full_in (book_of fs.refs.refs leaf.at) } in
      in-layout layout run (leaf.at, placed_so)
      (entry_of_value leaf.at placed_so (layout_of (state_in super (content events))).nodes
      (value-opened leaf.at met leaf.node leaf.there)) told.item leaf.has told.tells

  named_told : (run : Element) → Contains (layout_extents layout) run → IsToldBy run
  named_told run has =
      let found = from-layout layout run has in
      let entry = entry-is fs super events sound opened found.0 found.1 in
      let by = met-by fs super events sound opened found.0.0 entry.met in
      record {
        entry = by.entry;
        has = by.has;
        item = found.2;
        among = from-leaf Files super (nodes_of fs (Recorded events)) found.2 by.entry.1.level by.entry.1.bytenr
            (items_by by.entry) (branch-opened fs super events sound opened by.entry by.has) found.0.0 by.reached
            found.0.1.node entry.is found.3;
        tells = found.4;
      }

  named_present : (run : Element) → Contains (layout_extents layout) run
      → Contains (present_extents (state_in super (content events))) run
  named_present run has = told-present run (named_told run has)

  abbrev extents : List Element
  extents = extent_set (present_extents (state_in super (content events)))

  in_set : (run : Element) → Contains (present_extents (state_in super (content events))) run → Contains extents run
  in_set run has = (extent_set_same (present_extents (state_in super (content events)))).back run has

  -- no extent begins in a slot
  run_apart : (run : Element) → Contains (present_extents (state_in super (content events))) run → (q : ℕ)
      → IsTrue (is_slot fs.land.space.sizes q) → run.address ≡ q → ⊥
  run_apart run has q slot same =
      let low = slot_below fs.land.space.sizes q (drafted-there fs super events sound opened).sizes.served slot in
      let high = (member_fits (sizes_of super) extents run sound.space (in_set run has)).begin in
      omega (arith, low, high, same)

  -- no node lies where an extent begins
  no_node : (run : Element) → Contains (present_extents (state_in super (content events))) run
      → value_at run.address (layout_of (state_in super (content events))).nodes ≡ None
  no_node run has = from (value_at run.address (layout_of (state_in super (content events))).nodes) refl where
    from : (o : Option Placed) → value_at run.address (layout_of (state_in super (content events))).nodes ≡ o → o ≡ None
    from None is = refl
    from (Some placed) is =
        let entry = entry-is fs super events sound opened (run.address, placed)
        (entry_of_value run.address placed (layout_of (state_in super (content events))).nodes is) in
        absurd (run_apart run has run.address (placed-opened fs super events sound opened run.address entry.met) refl)

  known_extent : (name : ℕ × Piece) → IsToldBy (extent_of name.1)
      → IsKnownExtent fs.land.space.sizes fs.tree.next (book_of fs.refs.refs) name.1
  known_extent name told =
      let run = extent_of name.1 in
      let present = told-present run told in
      let first = find_some (λ (extent : Element). extent.address == run.address) (layout_extents layout) run
      (told_named run told) (eq-eqb run.address run.address refl) in
      let same : first.x ≡ run = apart_same extents first.x run (AreApart-space (sizes_of super) extents sound.space)
      (in_set first.x (named_present first.x first.has)) (in_set run present)
      (eqb-true first.x.address run.address first.passes) in
      let known = extent-known super.nodesize layout (extent_parts super (content events)) (book_of fs.refs.refs)
      sound.agrees opened.told run.address run (no_node run present) (first.is ∙ ap Some same) in
      record {
        lies = subst (λ (sizes : Sizes). IsTrue (is_run sizes name.1.extent name.1.extent_bytes)) (sym opened.sizes)
            (is_run-WholeRun (sizes_of super) name.1.extent name.1.extent_bytes
            (member_fits (sizes_of super) extents run sound.space (in_set run present)));
        generation = known.0;
        known = known.1;
        dated =
            let low = told-low super.nodesize (extent_parts super (content events)) (book_of fs.refs.refs) opened.told
            super.generation sound.dated run.address _ known.1 in
            let next = next-opened fs super (content events) opened in
            omega (arith, low, next);
      }

  -- ---- owners

  -- what a subvolume reaches in a slot its tree reaches
  module _ (entry : ℕ × RootItem) (has : Contains (subvolume_roots (roots_in super (content events))) entry)
      (there : value_at entry.0 (layout_of (state_in super (content events))).roots ≡ Some entry.1.bytenr) where
    abbrev laid_nodes : ℕ → Option Node
    laid_nodes = node_at (layout_of (state_in super (content events))).nodes

    laid : (r : ℕ) → IsReachedBy fs (Recorded events) (opened_tree super entry) r
        → laid_nodes r ≡ nodes_of fs (Recorded events) r
    laid r reached = node-laid fs super events sound opened r (by-met fs super events sound opened r
        (record { entry = entry; has = has; reached = reached }))

    high : level_of (laid_nodes entry.1.bytenr) ≡ entry.1.level
    high =
        let top = root-opened fs super events sound opened entry has in
        let told : laid_nodes entry.1.bytenr ≡ Some top.0 =
        laid entry.1.bytenr (reach-top (nodes_of fs (Recorded events)) entry.1.level entry.1.bytenr) ∙ top.1 in
        ap level_of told ∙ top.2

    -- a node that it reaches, or an extent that such a node names
    own_slot : (at : ℕ) (node : Node) → IsReachedBy fs (Recorded events) (opened_tree super entry) at
        → nodes_of fs (Recorded events) at ≡ Some node → (q : ℕ) → IsTrue (is_slot fs.land.space.sizes q)
        → is_among q (map extent_of (pieces_of node)) ≡ true → ⊥
    own_slot at node reached told q slot names =
        let element = among-one q (map extent_of (pieces_of node)) names in
        let item = own-extent node element.0 element.1 in
        let member = from-leaf Files super (nodes_of fs (Recorded events)) item.0 entry.1.level entry.1.bytenr
        (items_by entry) (branch-opened fs super events sound opened entry has) at reached node told item.1 in
        run_apart element.0 (told-present element.0
        (record { entry = entry; has = has; item = item.0; among = member; tells = item.2 })) q slot element.2

    own_reached : (q : ℕ) → reaches layout entry.0 q ≡ true → IsTrue (is_slot fs.land.space.sizes q)
        → IsReachedBy fs (Recorded events) (opened_tree super entry) q
    own_reached q is slot =
        let found = in-reaches layout entry.0 entry.1.bytenr entry.1.level there high q is in
        let reached = reach-same (nodes_of fs (Recorded events)) laid_nodes entry.1.level entry.1.bytenr laid found.0
        found.2 in
        let told : nodes_of fs (Recorded events) found.0 ≡ Some found.1 = sym (laid found.0 reached) ∙ found.3 in
        elim (or_cases (found.0 == q) (is_among q (map extent_of (pieces_of found.1))) found.4) [
          | inl itself ↦
              subst (λ (a : ℕ). IsReachedBy fs (Recorded events) (opened_tree super entry) a)
              (eqb-true found.0 q itself) reached
          | inr names ↦ absurd (own_slot found.0 found.1 reached told q slot names)
        ]

  owner_home : (number q : ℕ) → reaches layout number q ≡ true → IsTrue (is_slot fs.land.space.sizes q)
      → IsAtHome fs (Recorded events) q number
  owner_home number q is slot =
      let root = reaches-root layout number q is in
      let own = root-tree fs (others-ascend fs super events sound opened) (other-number fs super events sound opened)
      number root.0 (ap (λ (table : List (ℕ × ℕ)). value_at number table)
      (roots-opened fs super events sound opened) ∙ root.1) in
      let entry = tree-entry fs super events sound opened own.tree own.among in
      let number_is : entry.0.0 ≡ number = ap (λ (t : Root). t.owner) entry.2 ∙ own.number_is in
      let root_is : entry.0.1.bytenr ≡ root.0 = ap (λ (t : Root). t.address) entry.2 ∙ own.root_is in
      let there = subst
      (λ (a : ℕ). value_at number (layout_of (state_in super (content events))).roots ≡ Some a) (sym root_is)
      root.1 in
      record {
        tree = opened_tree super entry.0;
        among = entry-tree fs super events sound opened entry.0 entry.1;
        number = number_is;
        reached = own_reached entry.0 entry.1
            (subst (λ (n : ℕ). value_at n (layout_of (state_in super (content events))).roots
            ≡ Some entry.0.1.bytenr) (sym number_is) there)
            q (subst (λ (n : ℕ). reaches layout n q ≡ true) (sym number_is) is) slot;
      }

  pub home-opened : (tree : Root) (q : ℕ) (node : Node) → Contains (trees_of fs) tree
      → IsReachedBy fs (Recorded events) tree q → nodes_of fs (Recorded events) q ≡ Some node
      → full_in (book_of fs.refs.refs q) ≡ false → IsAtHome fs (Recorded events) q (header_of node).owner
  home-opened tree q node has reached is bare =
      let met : IsMet fs (Recorded events) q = record { tree = tree; among = has; reached = reached } in
      let placed_so : Placed = record { node = node; full = full_in (book_of fs.refs.refs q) } in
      owner_home (header_of node).owner q
      (owner-reaches layout sound.home q placed_so (value-opened q met node is) bare)
      (placed-opened fs super events sound opened q met)

  -- ---- references

  agrees : AgreesWithOwed layout (book_of fs.refs.refs)
  agrees = book_agrees super.nodesize layout (extent_parts super (content events)) (book_of fs.refs.refs) sound.agrees
      opened.told

  pub owed-opened : (at : ℕ) (reference : Reference) → count_at (book_of fs.refs.refs) at reference
      ≡ owed_count (layout_in fs (Recorded events)) at reference
  owed-opened at reference =
      agrees at reference
      ∙ ap (λ (l : Layout). owed_count l at reference) (sym (layout-opened fs super events sound opened))

  -- where a reference leads to a slot, some tree reaches it
  root_met : (at : ℕ) → OwesRoot layout at → IsMet fs (Recorded events) at
  root_met at owes =
      let entry = from-mapped root_told_by roots owes.entry
      (subst (λ (table : List (ℕ × ℕ)). Contains table owes.entry) (roots-are fs super events sound opened) owes.has) in
      let tree = opened_tree super entry.0 in
      by-met fs super events sound opened at (record {
        entry = entry.0;
        has = entry.1;
        reached = subst (λ (a : ℕ). IsReachedBy fs (Recorded events) (opened_tree super entry.0) a)
            (ap (λ (e : ℕ × ℕ). e.1) entry.2 ∙ owes.here)
            (reach-top (nodes_of fs (Recorded events)) tree.height tree.address);
      })

  child_met : (at : ℕ) → OwesChild layout at → IsMet fs (Recorded events) at
  child_met at owes =
      let its = entry-is fs super events sound opened owes.entry owes.has in
      let by = met-by fs super events sound opened owes.entry.0 its.met in
      let nodes = nodes_of fs (Recorded events) in
      let level = by.entry.1.level in
      let top = by.entry.1.bytenr in
      by-met fs super events sound opened at (record {
        entry = by.entry;
        has = by.has;
        reached = reached-some nodes level top at
            (ways-closed Files super nodes nodes (λ s node there. there) level top (items_by by.entry)
            (branch-opened fs super events sound opened by.entry by.has) owes.entry.0 owes.entry.1.node at its.is
            (ways-some nodes level top owes.entry.0 by.reached) owes.leads);
      })

  pub referred-met : (at : ℕ) → IsTrue (is_slot fs.land.space.sizes at) → 0 < references_to (book_of fs.refs.refs) at
      → IsMet fs (Recorded events) at
  referred-met at slot some = elim (referred-owed layout (book_of fs.refs.refs) agrees at table.book some) [
    | inl root ↦ root_met at root
    | inr (inl child) ↦ child_met at child
    | inr (inr run) ↦
        absurd (run_apart run.run
        (named_present run.run (extents-named layout run.entry run.run run.has run.names)) at slot run.here)
  ]

  -- and the other way round
  pub met-referred : (q : ℕ) → IsMet fs (Recorded events) q → 0 < references_to (book_of fs.refs.refs) q
  met-referred q met =
      let by = met-by fs super events sound opened q met in
      let entry = by.entry in
      elim (last-step (nodes_of fs (Recorded events)) entry.1.level entry.1.bytenr q by.reached) [
        | inl root ↦
            let owes : OwesRoot layout entry.1.bytenr = record {
              entry = root_told_by entry;
              has = subst (λ (table : List (ℕ × ℕ)). Contains table (root_told_by entry))
                  (sym (roots-are fs super events sound opened)) (has-mapped root_told_by roots entry by.has);
              here = refl;
            } in
            let counted = root-counted layout entry.1.bytenr owes in
            subst (λ (a : ℕ). 0 < references_to (book_of fs.refs.refs) a) (sym root)
            (owed-referred layout (book_of fs.refs.refs) agrees entry.1.bytenr counted.0 counted.1)
        | inr step ↦
            let placed_so : Placed = record { node = step.node; full = full_in (book_of fs.refs.refs step.by) } in
            let owes : OwesChild layout q = record {
              entry = (step.by, placed_so);
              has = entry_of_value step.by placed_so (layout_of (state_in super (content events))).nodes
                  (value-opened step.by (by-met fs super events sound opened step.by
                  (record { entry = entry; has = by.has; reached = step.reached })) step.node step.there);
              leads = step.leads;
            } in
            let counted = child-counted layout q owes in
            owed-referred layout (book_of fs.refs.refs) agrees q counted.0 counted.1
      ]

  -- ---- names

  module _ (root : RootItem) (top : Contains (subvolume_roots (roots_in super (content events))) (TOP_LEVEL, root))
    where
      abbrev items : List Item
      items = items_of_root Files super (content events) root

      abbrev all_names : List (ℕ × Piece)
      all_names = names_in (items_of_root Files super (content events) root) ++ names_elsewhere fs (Recorded events)

      pub rooted-hand : IsRooted Files fs.tree fs.land (Recorded events)
          (items_of_root Files super (content events) root)
      rooted-hand = subst (λ (t : Root). IsRooted Files t fs.land (Recorded events)
          (items_of_root Files super (content events) root))
          (hand-opened fs super events sound opened (TOP_LEVEL, root) top refl)
          (rooted-opened fs super events sound opened (TOP_LEVEL, root) top)

      -- a piece that another tree tells
      elsewhere_named : (entry : ℕ × RootItem)
          (has : Contains (subvolume_roots (roots_in super (content events))) entry)
          → Contains fs.others.items (opened_tree super entry) → (item : Item) → Contains (items_by entry) item
          → (name : ℕ × Piece) → name_told item ≡ Some name → Contains (names_elsewhere fs (Recorded events)) name
      unfolding names_elsewhere
      elsewhere_named entry has later item member name told =
          has-flat (λ (tree : Root). filter_map name_told (items_in fs (Recorded events) tree)) fs.others.items
          (opened_tree super entry) name later
          (made-some name_told (items_in fs (Recorded events) (opened_tree super entry)) item name
          (subst (λ (xs : List Item). Contains xs item) (sym (items-opened fs super events sound opened entry has))
          member) told)

      item_named : (entry : ℕ × RootItem) → Contains (subvolume_roots (roots_in super (content events))) entry
          → (item : Item) → Contains (items_by entry) item → (name : ℕ × Piece) → name_told item ≡ Some name
          → Contains all_names name
      item_named entry has item member name told =
          elim (contains_cases fs.tree fs.others.items (opened_tree super entry)
          (entry-tree fs super events sound opened entry has)) [
            | inl same ↦
                let number : entry.0 ≡ TOP_LEVEL = sym (ap (λ (t : Root). t.owner) same) ∙ opened.number in
                let is = same-entry fs super events sound opened entry (TOP_LEVEL, root) has top number in
                Contains-append_left (names_in items) (names_elsewhere fs (Recorded events)) name
                (made-some name_told items item name
                (subst (λ (e : ℕ × RootItem). Contains (items_by e) item) is member) told)
            | inr later ↦
                Contains-append_right (names_in items) (names_elsewhere fs (Recorded events)) name
                (elsewhere_named entry has later item member name told)
          ]

      -- each piece is told by an item
      from_elsewhere : (name : ℕ × Piece) → Contains (names_elsewhere fs (Recorded events)) name
          → IsToldBy (extent_of name.1)
      unfolding names_elsewhere
      from_elsewhere name has =
          let found = from-flat (λ (tree : Root). filter_map name_told (items_in fs (Recorded events) tree))
          fs.others.items
          name has in
          let entry = tree-entry fs super events sound opened found.0
          (contains_later fs.tree fs.others.items found.0 found.1) in
          let there = subst (λ (t : Root). Contains (filter_map name_told (items_in fs (Recorded events) t)) name)
          (sym entry.2) found.2 in
          let item = from-some name_told (items_by entry.0) name
          (subst (λ (xs : List Item). Contains (filter_map name_told xs) name)
          (items-opened fs super events sound opened entry.0 entry.1) there) in
          record {
            entry = entry.0;
            has = entry.1;
            item = item.0;
            among = item.1;
            tells = record { name = name; told = item.2; is = refl };
          }

      named_item : (name : ℕ × Piece) → Contains all_names name → IsToldBy (extent_of name.1)
      named_item name has = elim (Contains-append_cases (names_in items) (names_elsewhere fs (Recorded events)) name
          has) [
            | inl own ↦
                let item = from-some name_told items name own in
                record {
                  entry = (TOP_LEVEL, root);
                  has = top;
                  item = item.0;
                  among = item.1;
                  tells = record { name = name; told = item.2; is = refl };
                }
            | inr elsewhere ↦ from_elsewhere name elsewhere
          ]

      pub extents-opened : All (λ name. IsKnownExtent fs.land.space.sizes fs.tree.next (book_of fs.refs.refs) name.1)
          all_names
      extents-opened = All-from_recursion
          (λ (name : ℕ × Piece). IsKnownExtent fs.land.space.sizes fs.tree.next (book_of fs.refs.refs) name.1) all_names
          (all-contained
          (λ (name : ℕ × Piece). IsKnownExtent fs.land.space.sizes fs.tree.next (book_of fs.refs.refs) name.1) all_names
          (λ name has. known_extent name (named_item name has)))

      run_into : (run : Element) → Contains fs.land.space.runs run
          → Contains (map (λ name. extent_of name.1) all_names) run
      run_into run has =
          let told = present-told run ((opened.runs run).0 has) in
          subst (λ (element : Element). Contains (map (λ (name : ℕ × Piece). extent_of name.1) all_names) element)
          told.tells.is
          (has-mapped (λ (name : ℕ × Piece). extent_of name.1) all_names told.tells.name
          (item_named told.entry told.has told.item told.among told.tells.name told.tells.told))

      run_back : (run : Element) → Contains (map (λ name. extent_of name.1) all_names) run
          → Contains fs.land.space.runs run
      run_back run has =
          let name = from-mapped (λ (name : ℕ × Piece). extent_of name.1) all_names run has in
          subst (λ (element : Element). Contains fs.land.space.runs element) name.2
          ((opened.runs (extent_of name.0.1)).1 (told-present (extent_of name.0.1) (named_item name.0 name.1)))

      pub runs-opened : (run : Element) → Contains fs.land.space.runs run
          ↔ Contains (extents_named fs (Recorded events) (names_in (items_of_root Files super (content events) root)))
          run
      runs-opened run = (run_into run, run_back run)

      pub few-opened : (at : ℕ) (reference : Reference)
          → names_times fs.tree.owner (names_in (items_of_root Files super (content events) root)) at reference
          ≤ 4294967295
      few-opened at reference =
          let drafted = drafted-there fs super events sound opened in
          names-few Files (super_of fs.tree fs.land.blocks.draft) (nodes_of fs (Recorded events)) fs.land.space.sizes
          fs.tree.height fs.tree.address items (branch fs (Recorded events) fs.tree items rooted-hand drafted)
          drafted.sizes.served
          (λ q reached. slot-once fs.land.space.sizes q some_bytes
          (placed-opened fs super events sound opened q
          (record { tree = fs.tree; among = contains_here fs.tree fs.others.items; reached = reached })))
          (single-way fs (Recorded events) fs.tree items rooted-hand drafted)
          (told-formed fs.land (Recorded events) fs.tree.next drafted) fs.tree.owner at reference
