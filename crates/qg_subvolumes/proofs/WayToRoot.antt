-- Where a state is held its nodes are told, the way to a subvolume's root leads to a branch, and the nodes are few.
use Rattle.std.proofs.Common.{◌≡◌, ℕ, ◌≤◌, true, List, Option, Some, None, refl, sym, ap, subst, ◌∙◌}
use Rattle.std.specs.Option.{option_map}
use Rattle.qg_device.specs.History.{History}
use Rattle.qg_node.specs.declared.node.Node.{Node}
use Rattle.qg_node.specs.Nodes.{is_ascending, own_keys}
use Rattle.qg_super.specs.declared.sizes.Sizes.{Sizes}
use Rattle.qg_super.specs.Places.{data_begin}
use Rattle.qg_image.specs.Table.{has_key, value_at}
use Rattle.qg_image.specs.declared.element.Element.{Element}
use Rattle.qg_image.specs.Reach.{level_of, reach, reach_of, reach_of_root, reach_under}
use Rattle.qg_image.specs.State.{State, Subvolume, has_subvolume, layout_of, node_at}
use Rattle.qg_image.specs.declared.expected.Expected.{Expected}
use Rattle.qg_image.specs.declared.tree.TreeKind.TheVariants.{Files}
use Rattle.qg_image.specs.Walk.{root_expected}
use Rattle.qg_machine.specs.Layout.{IsReached, IsTreeOf, super_to_come}
use Rattle.qg_machine.specs.Refusals.{nodes_reached, root_level}
use Rattle.qg_node_alloc.specs.declared.ground.Ground.{Ground}
use Rattle.qg_node_alloc.specs.Land.{IsGround}
use Rattle.qg_reach.proofs.SlotRule.{slot_below}
use Rattle.qg_tree_read.specs.declared.way.Way.{Way}
use Rattle.qg_tree_read.proofs.BranchOrder.{ascends-under}
use Rattle.qg_owner_rule.proofs.Reaching.{entry_of_value}
use Rattle.qg_tree_backrefs.specs.declared.tree_refs.TreeRefs.{TreeRefs}
use Rattle.qg_shared_trees.specs.ForestStanding.{HoldsState, root_of}
use Rattle.qg_shared_trees.proofs.ForestExtents.{among-one, apart-held, extents-held, some-of, tree-whole}
use Rattle.qg_shared_trees.proofs.Meeting.{each-there, placed-there, root-valued}
use Rattle.qg_shared_trees.proofs.Referring.{extents-named, named_by}
use Rattle.qg_shared_trees.proofs.ForestRoots.{root_level-value, root_of-value}
use Rattle.qg_subvolumes.specs.Counting.{LeadsToBranch, TellsNodes, node_count_below}
use Rattle.qg_subvolumes.proofs.Among.{nodes_among}
use Rattle.qg_subvolumes.proofs.Few.{nodes-few}

-- ---- a subvolume's root

abbrev way_to : ℕ → Expected → Way
way_to at expected = record { address = at; expected = expected }

reach_value : (state : State) (sub : ℕ) (mine : Subvolume) → value_at sub state.subvolumes ≡ Some mine
    → reach (layout_of state) sub ≡ reach_under (node_at state.layout) state.sizes.nodesize
    (level_of (node_at state.layout mine.root)) mine.root
unfolding reach reach_of_root
reach_value state sub mine there =
    ap (λ (o : Option ℕ). reach_of (layout_of state) o) (root-valued sub state.subvolumes
    ∙ ap (λ (o : Option Subvolume). option_map (λ (s : Subvolume). s.root) o) there)

module _ (land : Ground) (history : History) (book : TreeRefs) (state : State)
    (holds : HoldsState land history book state) (ground : IsGround land) where
  -- the nodes are told, and no extent lies where one does
  pub tells-held : TellsNodes land.blocks.draft history state
  tells-held = record {
    nodesize = ground.nodesize ∙ ap (λ (s : Sizes). s.nodesize) (sym holds.sizes);
    tells = λ at placed there. (holds.nodes at placed there).told;
    apart = λ p at placed there among key.
        let one = among-one at (named_by placed.node) among in
        let has = extents-named (layout_of state) (p, placed) one.0 (entry_of_value p placed state.layout there)
        one.1 in
        let present = (extents-held land history book state holds ground.served one.0).0 has in
        apart-held land history book state holds ground.served one.0 present
        (subst (λ (a : ℕ). has_key a state.layout ≡ true) (sym one.2) key);
  }

  -- what a subvolume reaches is few: a node lies in a slot
  pub few-held : (sub : ℕ) → nodes_reached state sub ≤ data_begin
  few-held sub =
      nodes-few state.layout data_begin (λ q key.
      let placed = some-of (value_at q state.layout) key in
      slot_below land.space.sizes q ground.served (holds.nodes q placed.0 placed.1).slot) (reach (layout_of state) sub)

  ascends : (q : ℕ) (node : Node) → node_at state.layout q ≡ Some node → is_ascending (own_keys node) ≡ true
  ascends q node there =
      let placed = placed-there state.layout q (value_at q state.layout) refl node there in
      let its = each-there (IsReached state) q placed.0 state.layout holds.whole.reached placed.1 in
      subst (λ (n : Node). is_ascending (own_keys n) ≡ true) placed.2 its.node_of_format.ascending

  module _ (sub : ℕ) (has : has_subvolume state sub ≡ true) where
    mine : (subvolume : Subvolume) × (value_at sub state.subvolumes ≡ Some subvolume)
    mine = some-of (value_at sub state.subvolumes) has

    abbrev root : ℕ
    root = mine.0.root

    abbrev level : ℕ
    level = level_of (node_at state.layout root)

    tree : IsTreeOf state mine.0
    tree =
        each-there (λ (entry : ℕ × Subvolume). IsTreeOf state entry.1) sub mine.0 state.subvolumes holds.whole.trees
        mine.1

    plain_leads : LeadsToBranch state level (way_to root (root_expected (Some level) None))
    plain_leads =
        let whole = tree-whole state holds.whole mine.0 tree in
        record {
          items = tree.items;
          walked = whole.walked;
          items_are = whole.items_are;
          ascending = ascends-under Files (super_to_come state) (node_at state.layout) ascends level
              (root_expected (Some level) None) root tree.items
              (record { levelled = refl; walked = whole.walked; items_are = whole.items_are });
        }

    -- the way to the root leads to a branch
    pub root-leads : (height : ℕ) (way : Way) → height ≡ root_level state sub → way.address ≡ root_of state sub
        → way.expected ≡ root_expected (Some height) None → LeadsToBranch state height way
    root-leads height way high address expected =
        let level_is = high ∙ root_level-value state sub mine.0 mine.1 in
        let same : way ≡ way_to root (root_expected (Some level) None) =
        ap (λ (a : ℕ). way_to a way.expected) (address ∙ root_of-value state sub mine.0 mine.1)
        ∙ ap (λ (e : Expected). way_to root e) (expected ∙ ap (λ (n : ℕ). root_expected (Some n) None) level_is) in
        subst (λ (n : ℕ). LeadsToBranch state n way) (sym level_is)
        (subst (λ (w : Way). LeadsToBranch state level w) (sym same) plain_leads)

    -- and below it lies what the subvolume reaches
    pub root-count : (height at : ℕ) → height ≡ root_level state sub → at ≡ root_of state sub
        → node_count_below state height at ≡ nodes_reached state sub
    root-count height at high address =
        let level_is = high ∙ root_level-value state sub mine.0 mine.1 in
        let root_is = address ∙ root_of-value state sub mine.0 mine.1 in
        ap (λ (n : ℕ). node_count_below state n at) level_is ∙ ap (λ (a : ℕ). node_count_below state level a) root_is
        ∙ sym (ap (λ (elements : List Element). nodes_among state.layout elements)
        (reach_value state sub mine.0 mine.1))
