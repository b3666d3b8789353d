-- A subvolume's tree in the layout of a state, where each node of the layout stands at its address in an image.
use Rattle.std.proofs.Common.{◌≡◌, ℕ, zero, suc, ◌-◌, Bool, true, false, List, [], refl, sym, ap, subst, ◌∙◌}
use Rattle.std.specs.Prelude.{nat_le, nat_lt, is_none, unwrap_or, Option, Some, None, Result, Ok, Err}
use Rattle.std.specs.List.{AllByRecursion, list_all}
use Rattle.std.specs.Result.{result_ok}
use Rattle.std.proofs.lemmas.Bool.{and_parts, eq-eqb}
use Rattle.std.proofs.lemmas.List.Sorted.{IsPermutation-refl}
use Rattle.qg_num.specs.declared.rule.Rule.TheVariants as rule
use Rattle.qg_node.specs.declared.item.Item.{Item}
use Rattle.qg_node.specs.declared.node.Node.{Node}
use Rattle.qg_node.specs.declared.fault.NodeFault.{NodeFault}
use Rattle.qg_node.specs.Nodes.{header_of, own_items, own_pointers}
use Rattle.qg_super.specs.declared.sizes.Sizes.{Sizes}
use Rattle.qg_super.specs.declared.superblock.Super.{Super}
use Rattle.qg_super.specs.Places.{is_slot}
use Rattle.qg_super.specs.SuperText.{sizes_of}
use Rattle.qg_image.specs.Below.{items_below, nodes_below}
use Rattle.qg_image.specs.FilesOf.{AreItemsOfFiles}
use Rattle.qg_image.specs.Table.{value_at}
use Rattle.qg_image.specs.State.{Placed, State, Subvolume, node_at}
use Rattle.qg_image.specs.declared.failure.Failure.{Failure}
use Rattle.qg_image.specs.declared.tree.TreeKind.{TreeKind}
use Rattle.qg_image.specs.declared.tree.TreeKind.TheVariants.{Files}
use Rattle.qg_image.specs.declared.expected.Expected.{Expected}
use Rattle.qg_image.specs.Failure.{unless}
use Rattle.qg_image.specs.ImageState.{level_in, tree_items, tree_nodes}
use Rattle.qg_image.specs.ItemsUnder.{is_way, items_under, nodes_of, nodes_under}
use Rattle.qg_image.specs.Walk.{deepest, found_failure, in_slot, is_generation, is_item_of, is_owner, node_failure}
use Rattle.qg_image.specs.Walk.{node_found, pointers_failure, root_expected, shape_failure, tree_failure, walk_failure}
use Rattle.qg_image.specs.Walk.{way_failure}
use Rattle.qg_machine.specs.Layout.{IsTreeOf, IsWhole, found_in, super_to_come}
use Rattle.qg_tree_layout.proofs.Frame.{AllByRecursion-weaker, Judge, Keeps, neither, none_of_two, under_kept}
use Rattle.qg_tree_layout.proofs.Frame.{walk_kept}
use Rattle.qg_tree_layout.proofs.Reached.{nodes_kept}
use Rattle.qg_other_trees.specs.Holds.{HoldsLayout, IsToCome, IsTreeIn, IsWalkedIn}
use Rattle.qg_reach.proofs.Members.{each_contained}
use Rattle.qg_other_trees.proofs.Slots.{value_contained}
use Rattle.qg_other_trees.proofs.TreesIn.{four_kept, given_so, none_of_three, three_none, way_walked}
use Rattle.qg_other_trees.proofs.SubvolumeTree.{items_there, level, node_placed, nodes, nodes_there, root_node}
use Rattle.qg_other_trees.proofs.SubvolumeTree.{root_there}
use Rattle.qg_other_trees.proofs.SubvolumeTree.{there_is, way_passes}

-- ---- what a judge sees of a superblock: the generation and the bytes of a node

same_way : (tree : TreeKind) (a b : Super) (expected : Expected) (address : ℕ) (node : Node)
    → a.generation ≡ b.generation
    → way_failure tree a expected address node ≡ way_failure tree b expected address node
unfolding way_failure
same_way tree a b expected address node made = rw made refl

same_node : (tree : TreeKind) (a b : Super) (expected : Expected) (address : ℕ) (node : Node)
    → a.generation ≡ b.generation
    → a.nodesize ≡ b.nodesize → node_failure tree a expected address node ≡ node_failure tree b expected address node
unfolding node_failure
same_node tree a b expected address node made sized =
    rw (same_way tree a b expected address node made, made, sized) refl

same_judges : (a b : Judge) (found : ℕ → Result Node Failure) (depth : ℕ) (expected : Expected) (address : ℕ)
    → ((expected : Expected) (address : ℕ) (node : Node) → a expected address node ≡ b expected address node)
    → walk_failure a found depth expected address ≡ None → walk_failure b found depth expected address ≡ None
same_judges a b found depth expected address same none =
    let are : a ≡ b = λ i. λ e x n. same e x n i in
    subst (λ (judge : Judge). walk_failure judge found depth expected address ≡ None) are none

-- ---- what is expected of a root may be told, where its node is that

made_told : (last generation : ℕ) → is_generation last None generation ≡ true
    → is_generation last (Some generation) generation ≡ true
made_told last generation h =
    let parts = and_parts (nat_lt 0 generation) (nat_le generation last) h in
    rw (eq-eqb generation generation refl, parts.0, parts.1) refl

-- what a ROOT_ITEM tells of a node
abbrev told_of : Node → Expected
told_of node = root_expected (Some (header_of node).level) (Some (header_of node).generation)

way_closed : (tree : TreeKind) (super : Super) (address : ℕ) (node : Node)
    → way_failure tree super (root_expected None None) address node ≡ None
    → way_failure tree super (told_of node) address node ≡ None
unfolding way_failure
way_closed tree super address node none =
    let header = header_of node in
    let parts = four_kept true (is_owner tree header.owner) (is_generation super.generation None header.generation) true
    rule.Depth rule.Owner rule.Gen rule.Range address none in
    rw (eq-eqb header.level header.level refl, parts.1, made_told super.generation header.generation parts.2) refl

node_closed : (tree : TreeKind) (super : Super) (address : ℕ) (node : Node)
    → node_failure tree super (root_expected None None) address node ≡ None
    → node_failure tree super (told_of node) address node ≡ None
unfolding node_failure
node_closed tree super address node none =
    let way = way_failure tree super (root_expected None None) address node in
    let shape = shape_failure super.nodesize (root_expected None None) address node in
    let items = unless (list_all (is_item_of tree super.generation) (own_items node)) rule.Item address in
    let parts = three_none way shape items none in
    none_of_three (way_failure tree super (told_of node) address node) shape items
    (way_closed tree super address node parts.0) parts.1 parts.2

found_closed : (judge : Judge) (below : Expected → ℕ → Option Failure) (address : ℕ) (here : Result Node Failure)
    (node : Node) → here ≡ Ok node
    → (judge (root_expected None None) address node ≡ None → judge (told_of node) address node ≡ None)
    → found_failure judge below (root_expected None None) address here ≡ None
    → found_failure judge below (told_of node) address here ≡ None
found_closed judge below address (Err failure) node is closes none = absurd cc
found_closed judge below address (Ok other) node is closes none =
    let same : other ≡ node = cc in
    let later = pointers_failure below ((header_of other).level - 1) None (own_pointers other) in
    let parts = neither (judge (root_expected None None) address other) later none in
    none_of_two (judge (told_of node) address other) later
    (subst (λ (n : Node). judge (told_of node) address n ≡ None) (sym same)
    (closes (subst (λ (n : Node). judge (root_expected None None) address n ≡ None) same parts.0))) parts.1

walk_closed : (judge : Judge) (found : ℕ → Result Node Failure) (depth root : ℕ) (node : Node) → found root ≡ Ok node
    → (judge (root_expected None None) root node ≡ None → judge (told_of node) root node ≡ None)
    → walk_failure judge found depth (root_expected None None) root ≡ None
    → walk_failure judge found depth (told_of node) root ≡ None
unfolding walk_failure
walk_closed judge found zero root node is closes none =
    found_closed judge (λ expected address. None) root (found root) node is closes none
walk_closed judge found (suc depth) root node is closes none =
    found_closed judge (walk_failure judge found depth) root (found root) node is closes none

-- ---- the image

in_slot_so : (slot : Bool) (address : ℕ) (read : Result Node NodeFault) (node : Node)
    → in_slot slot address read ≡ Ok node → slot ≡ true
in_slot_so true address read node h = refl
in_slot_so false address read node h = absurd cc

-- what is found lies in a slot
found_slot : (super : Super) (image : List ℕ) (address : ℕ) (node : Node) → node_found super image address ≡ Ok node
    → is_slot (sizes_of super) address ≡ true
unfolding node_found
found_slot super image address node found = in_slot_so (is_slot (sizes_of super) address) address _ node found

module _ (state : State) (super : Super) (image : List ℕ) (whole : IsWhole state) (comes : IsToCome state super)
    (holds : HoldsLayout super image state.layout) where
  abbrev to_come : Super
  to_come = super_to_come state

  sized : to_come.nodesize ≡ super.nodesize
  sized = ap (λ (s : Sizes). s.nodesize) (sym comes.same_sizes)

  placed_too : (address : ℕ) (placed : Placed) → value_at address state.layout ≡ Some placed
      → node_found super image address ≡ Ok placed.node
  placed_too address placed there =
      each_contained (λ (entry : ℕ × Placed). node_found super image entry.0 ≡ Ok entry.1.node) state.layout
      (address, placed) holds (value_contained address state.layout placed there)

  -- each node lies in a slot
  pub in_slots : (address : ℕ) (placed : Placed) → value_at address state.layout ≡ Some placed
      → is_slot state.sizes address ≡ true
  in_slots address placed there =
      subst (λ (s : Sizes). is_slot s address ≡ true) comes.same_sizes
      (found_slot super image address placed.node (placed_too address placed there))

  found_too : (address : ℕ) (node : Node) → node_at state.layout address ≡ Some node
      → node_found super image address ≡ Ok node
  found_too address node is =
      let placed = node_placed state.layout address node is in
      placed_too address placed.placed placed.there ∙ ap (λ (n : Node). Ok n) placed.is

  keeps_walk : (address : ℕ) (node : Node) → found_in state.layout address ≡ Ok node
      → node_found super image address ≡ Ok node
  keeps_walk address node is = found_too address node (there_is (node_at state.layout address) address node is)

  keeps_nodes : Keeps (node_at state.layout) (nodes_of (node_found super image))
  keeps_nodes = record {
    each = λ address node is. ap (λ (r : Result Node Failure). result_ok r) (found_too address node is);
  }

  -- ---- one subvolume's tree

  module _ (subvolume : Subvolume) (tree : IsTreeOf state subvolume) where
    abbrev untold : Expected
    untold = root_expected None None

    abbrev at_root : Node
    at_root = root_node state whole subvolume tree

    abbrev high : ℕ
    high = level state whole subvolume tree

    abbrev those : List Node
    those = nodes state whole subvolume tree

    root_image : node_found super image subvolume.root ≡ Ok at_root
    root_image = found_too subvolume.root at_root (root_there state whole subvolume tree)

    walked_told : walk_failure (node_failure Files super) (node_found super image) deepest
        (told_of at_root) subvolume.root
        ≡ None
    walked_told =
        let judge = node_failure Files super in
        let kept = walk_kept (node_failure Files to_come) (found_in state.layout) (node_found super image) keeps_walk
        deepest
        untold subvolume.root tree.walked in
        let mine = same_judges (node_failure Files to_come) judge (node_found super image) deepest untold subvolume.root
        (λ expected address node. same_node Files to_come super expected address node (sym comes.generation) sized)
        kept in
        walk_closed judge (node_found super image) deepest subvolume.root at_root root_image
        (node_closed Files super subvolume.root at_root) mine

    way_told : walk_failure (way_failure Files super) (node_found super image) deepest (told_of at_root) subvolume.root
        ≡ None
    way_told =
        let judge = way_failure Files super in
        let none = way_walked Files to_come (found_in state.layout) untold subvolume.root
        (way_passes state whole subvolume tree) in
        let kept = walk_kept (way_failure Files to_come) (found_in state.layout) (node_found super image) keeps_walk
        deepest
        untold subvolume.root none in
        let mine = same_judges (way_failure Files to_come) judge (node_found super image) deepest untold subvolume.root
        (λ expected address node. same_way Files to_come super expected address node (sym comes.generation)) kept in
        walk_closed judge (node_found super image) deepest subvolume.root at_root root_image
        (way_closed Files super subvolume.root at_root) mine

    way_image : is_way Files super (node_found super image) (told_of at_root) subvolume.root ≡ true
    unfolding is_way
    way_image = ap (λ (failure : Option Failure). is_none failure) way_told

    level_same : high ≡ level_in super image subvolume.root
    level_same = rw (root_there state whole subvolume tree, root_image) refl

    items_image : items_under Files super (node_found super image) (level_in super image subvolume.root)
        (told_of at_root)
        subvolume.root ≡ Some tree.items
    items_image =
        let found = nodes_of (node_found super image) in
        let kept = under_kept (node_at state.layout) found keeps_nodes high subvolume.root tree.items
        (items_there state whole subvolume tree) in
        let here = subst (λ (n : ℕ). items_below found n subvolume.root ≡ Some tree.items) level_same kept in
        given_so (is_way Files super (node_found super image) (told_of at_root) subvolume.root)
        (items_below found (level_in super image subvolume.root) subvolume.root) tree.items way_image here

    nodes_image : nodes_under Files super (node_found super image) (level_in super image subvolume.root)
        (told_of at_root)
        subvolume.root ≡ Some those
    nodes_image =
        let found = nodes_of (node_found super image) in
        let kept = nodes_kept (node_at state.layout) found keeps_nodes high subvolume.root those
        (nodes_there state whole subvolume tree) in
        let here = subst (λ (n : ℕ). nodes_below found n subvolume.root ≡ Some those) level_same kept in
        given_so (is_way Files super (node_found super image) (told_of at_root) subvolume.root)
        (nodes_below found (level_in super image subvolume.root) subvolume.root) those way_image here

    -- the nodes found in the image are those
    pub nodes_found : tree_nodes Files super image (told_of at_root) subvolume.root ≡ those
    unfolding tree_nodes
    nodes_found = ap (λ (given : Option (List Node)). unwrap_or given []) nodes_image

    pub tree_in : IsTreeIn Files super image (told_of at_root) subvolume.root tree.items those
    unfolding tree_failure tree_items tree_nodes
    tree_in = record {
      walked = walked_told;
      items_are = ap (λ (given : Option (List Item)). unwrap_or given []) items_image;
      those = those;
      nodes_are = ap (λ (given : Option (List Node)). unwrap_or given []) nodes_image;
      same = IsPermutation-refl those;
      own = items_image;
      under = nodes_image;
    }

    pub walked_in : IsWalkedIn state subvolume super image
    walked_in = record {
      node = at_root;
      there = root_there state whole subvolume tree;
      items = tree.items;
      held = items_there state whole subvolume tree;
      files = subst (λ (g : ℕ). AreItemsOfFiles g tree.items subvolume.files) (sym comes.generation) tree.files;
      nodes = those;
      below = nodes_there state whole subvolume tree;
      walked = tree_in;
    }

-- so of each subvolume
pub all_walked : (state : State) (super : Super) (image : List ℕ) → IsWhole state → IsToCome state super
    → HoldsLayout super image state.layout
    → AllByRecursion (λ entry. IsWalkedIn state entry.1 super image) state.subvolumes
all_walked state super image whole comes holds =
    AllByRecursion-weaker (λ (entry : ℕ × Subvolume). IsTreeOf state entry.1)
    (λ (entry : ℕ × Subvolume). IsWalkedIn state entry.1 super image)
    (λ entry tree. walked_in state super image whole comes holds entry.1 tree) state.subvolumes whole.trees
