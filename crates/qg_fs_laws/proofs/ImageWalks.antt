-- What stands below the root of a tree whose walk over an image meets no failure: its nodes are found, and its items
-- are some that the tree may hold, and ascend.
use Rattle.std.proofs.Common.{◌≡◌, ℕ, zero, suc, ◌+◌, ◌-◌, ◌≤◌, Bool, true, false, List, [], ◌∷◌, ◌++◌, map, Option}
use Rattle.std.proofs.Common.{Some, None, refl, sym, ap, subst, ◌∙◌, arith}
use Rattle.std.specs.Prelude.{Result, Ok, Err, ◌==◌, slice_range}
use Rattle.std.specs.List.{flat_map, list_all}
use Rattle.std.proofs.lemmas.Bool.{and_from, eqb-true}
use Rattle.std.proofs.lemmas.List.{append-nil}
use Rattle.std.proofs.lemmas.List.Concat.{flat_map-append}
use Rattle.std.proofs.lemmas.List.Folds.{list_all-append}
use Rattle.qg_num.specs.declared.key.Key.{Key}
use Rattle.qg_num.specs.declared.rule.Rule.TheVariants as rule
use Rattle.qg_node.specs.declared.fault.NodeFault.{NodeFault}
use Rattle.qg_node.specs.declared.item.Item.{Item}
use Rattle.qg_node.specs.declared.pointer.Pointer.{Pointer}
use Rattle.qg_node.specs.declared.node.Node.{Node}
use Rattle.qg_node.specs.declared.node.Node.TheVariants.{Leaf, Inner}
use Rattle.qg_node.specs.Nodes.{header_of, is_ascending, own_items, own_keys, own_pointers}
use Rattle.qg_node.specs.NodeText.{IsLevelled}
use Rattle.qg_node.specs.Reading.{node_read}
use Rattle.qg_super.specs.declared.superblock.Super.{Super}
use Rattle.qg_super.specs.Places.{is_slot}
use Rattle.qg_super.specs.SuperText.{sizes_of}
use Rattle.qg_image.specs.Below.{items_below, joined, nodes_below}
use Rattle.qg_image.specs.declared.expected.Expected.{Expected}
use Rattle.qg_image.specs.declared.failure.Failure.{Failure}
use Rattle.qg_image.specs.declared.tree.TreeKind.{TreeKind}
use Rattle.qg_image.specs.Failure.{first_failure, unless}
use Rattle.qg_image.specs.ImageState.{level_in, tree_items, tree_nodes}
use Rattle.qg_image.specs.ItemsUnder.{is_way, items_under, nodes_of, nodes_under}
use Rattle.qg_image.specs.Walk.{deepest, found_failure, in_slot, is_item_of, is_told, node_failure, node_found}
use Rattle.qg_image.specs.Walk.{pointers_failure, root_expected, shape_failure, tree_failure, walk_failure}
use Rattle.qg_image.specs.Walk.{way_failure}
use Rattle.qg_walk.specs.Standing.{expected_below}
use Rattle.qg_walk.proofs.Failures.{first_none, neither, walk-passed}
use Rattle.qg_tree_read.specs.Tree.{IsTree}
use Rattle.qg_tree_read.proofs.BranchOrder.{ascends-under}
use Rattle.qg_tree_read.proofs.Walked.{IsTree-walked}
use Rattle.qg_file_edits.proofs.Formed.{read-formed}
use Rattle.qg_file_edits.proofs.Walks.{walk-weaker}
use Rattle.qg_fs_laws.specs.Opening.{AreItemsOf}

-- ---- one node

slot_ok : (slot : Bool) (at : ℕ) (read : Result Node NodeFault) (node : Node) → in_slot slot at read ≡ Ok node
    → read ≡ Ok node
slot_ok true at (Ok other) node is = let same : other ≡ node = cc in rw same refl
slot_ok true at (Err fault) node is = absurd cc
slot_ok false at read node is = absurd cc

-- a node that is found is a leaf exactly at level 0, and its keys ascend
found_formed : (super : Super) (image : List ℕ) (at : ℕ) (node : Node) → node_found super image at ≡ Ok node
    → IsLevelled node × (is_ascending (own_keys node) ≡ true)
unfolding node_found
found_formed super image at node is =
    let bytes = slice_range image at (at + super.nodesize) in
    let formed = read-formed at bytes node (slot_ok (is_slot (sizes_of super) at) at (node_read at bytes) node is) in
    (formed.levelled, formed.ascending)

found_levelled : (super : Super) (image : List ℕ) (at : ℕ) (node : Node) → node_found super image at ≡ Ok node
    → IsLevelled node
found_levelled super image at node is = (found_formed super image at node is).0

-- so do those of a node that is told
some_ok : (found : Result Node Failure) (node : Node) → nodes_of (λ at. found) 0 ≡ Some node → found ≡ Ok node
some_ok (Ok other) node is = let same : other ≡ node = cc in ap (λ (n : Node). Ok n) same
some_ok (Err failure) node is = absurd cc

low_level : (node : Node) → IsLevelled node → (header_of node).level ≤ deepest
low_level (Leaf header items) levelled = omega (arith, levelled)
low_level (Inner header pointers) levelled = levelled.1

items_kept : (a b : Option Failure) (test : Bool) (at : ℕ)
    → first_failure (a ∷ b ∷ unless test rule.Item at ∷ []) ≡ None → test ≡ true
items_kept None None true at none = refl
items_kept None None false at none = absurd cc
items_kept None (Some failure) test at none = absurd cc
items_kept (Some failure) b test at none = absurd cc

one_ok : (found : Result Node Failure) (a b : Node) → found ≡ Ok a → found ≡ Ok b → a ≡ b
one_ok found a b first second = let same : ◌≡◌ {A = Result Node Failure} (Ok a) (Ok b) = sym first ∙ second in cc

-- ---- the walk

module _ (tree : TreeKind) (super : Super) (image : List ℕ) where
  abbrev judge : Expected → ℕ → Node → Option Failure
  judge = node_failure tree super

  abbrev walk : ℕ → Expected → ℕ → Option Failure
  walk = walk_failure (node_failure tree super) (node_found super image)

  abbrev there : ℕ → Option Node
  there = nodes_of (node_found super image)

  abbrev may : Item → Bool
  may = is_item_of tree super.generation

  -- a node was found that breaks no rule, and neither does the walk below it
  record HasPassed (less : Expected → ℕ → Option Failure) (expected : Expected) (at : ℕ) : Type 0 where
    node : Node
    is : node_found super image at ≡ Ok node
    judged : node_failure tree super expected at node ≡ None
    below : pointers_failure less ((header_of node).level - 1) expected.to (own_pointers node) ≡ None

  has_passed : (less : Expected → ℕ → Option Failure) (expected : Expected) (at : ℕ) (found : Result Node Failure)
      → node_found super image at ≡ found → found_failure (node_failure tree super) less expected at found ≡ None
      → HasPassed less expected at
  has_passed less expected at (Err failure) is none = absurd cc
  has_passed less expected at (Ok node) is none =
      let parts = neither (node_failure tree super expected at node)
      (pointers_failure less ((header_of node).level - 1) expected.to (own_pointers node)) none in
      record { node = node; is = is; judged = parts.0; below = parts.1 }

  last_passed : (expected : Expected) (at : ℕ) → walk zero expected at ≡ None
      → HasPassed (λ expected at. None) expected at
  unfolding walk_failure
  last_passed expected at none =
      has_passed (λ expected at. None) expected at (node_found super image at) refl none

  more_passed : (depth : ℕ) (expected : Expected) (at : ℕ) → walk (suc depth) expected at ≡ None
      → HasPassed (walk depth) expected at
  unfolding walk_failure
  more_passed depth expected at none = has_passed (walk depth) expected at (node_found super image at) refl none

  held_there : (expected : Expected) (at : ℕ) (node : Node) → node_failure tree super expected at node ≡ None
      → list_all (is_item_of tree super.generation) (own_items node) ≡ true
  unfolding node_failure
  held_there expected at node none =
      items_kept (way_failure tree super expected at node) (shape_failure super.nodesize expected at node)
      (list_all (is_item_of tree super.generation) (own_items node)) at none

  -- ---- what stands below

  record IsBelow (level at : ℕ) : Type 0 where
    nodes : List Node
    nodes_are : nodes_below (nodes_of (node_found super image)) level at ≡ Some nodes
    items : List Item
    items_are : items_below (nodes_of (node_found super image)) level at ≡ Some items
    stand : items ≡ flat_map own_items nodes
    held : list_all (is_item_of tree super.generation) items ≡ true

  record AreBelow (level : ℕ) (pointers : List Pointer) : Type 0 where
    nodes : List Node
    nodes_are : joined (λ pointer. nodes_below (nodes_of (node_found super image)) level pointer.child) pointers
        ≡ Some nodes
    items : List Item
    items_are : joined (λ pointer. items_below (nodes_of (node_found super image)) level pointer.child) pointers
        ≡ Some items
    stand : items ≡ flat_map own_items nodes
    held : list_all (is_item_of tree super.generation) items ≡ true

  leaf_below : (at : ℕ) (node : Node) → node_found super image at ≡ Ok node → (header_of node).level ≡ 0
      → IsLevelled node → list_all (is_item_of tree super.generation) (own_items node) ≡ true → IsBelow zero at
  leaf_below at (Leaf header items) is low levelled held = record {
    nodes = Leaf header items ∷ [];
    nodes_are = rw is refl;
    items = items;
    items_are = rw is refl;
    stand = sym (append-nil items);
    held = held;
  }
  leaf_below at (Inner header pointers) is low levelled held =
      let high = levelled.0 in absurd (omega (arith, low, high))

  inner_below : (level at : ℕ) (node : Node) → node_found super image at ≡ Ok node
      → (header_of node).level ≡ suc level → IsLevelled node → AreBelow level (own_pointers node)
      → IsBelow (suc level) at
  inner_below level at (Leaf header items) is high levelled below = absurd (omega (arith, high, levelled))
  inner_below level at (Inner header pointers) is high levelled below = record {
    nodes = Inner header pointers ∷ below.nodes;
    nodes_are = rw (is, below.nodes_are) refl;
    items = below.items;
    items_are = rw (is, below.items_are) refl;
    stand = below.stand;
    held = below.held;
  }

  each_below : (level depth : ℕ)
      → ((expected : Expected) (at : ℕ) → expected.level ≡ Some level → walk depth expected at ≡ None
      → IsBelow level at)
      → (to : Option Key) (pointers : List Pointer) → pointers_failure (walk depth) level to pointers ≡ None
      → AreBelow level pointers
  each_below level depth each to [] none = record {
    nodes = [];
    nodes_are = refl;
    items = [];
    items_are = refl;
    stand = refl;
    held = refl;
  }
  each_below level depth each to (pointer ∷ pointers) none =
      let expected = expected_below level to pointer pointers in
      let parts = neither (walk depth expected pointer.child) (pointers_failure (walk depth) level to pointers) none in
      let here = each expected pointer.child refl parts.0 in
      let later = each_below level depth each to pointers parts.1 in
      record {
        nodes = here.nodes ++ later.nodes;
        nodes_are = rw (here.nodes_are, later.nodes_are) refl;
        items = here.items ++ later.items;
        items_are = rw (here.items_are, later.items_are) refl;
        stand = rw (here.stand, later.stand) (sym (flat_map-append own_items here.nodes later.nodes));
        held = list_all-append (is_item_of tree super.generation) here.items later.items
            ∙ and_from (list_all (is_item_of tree super.generation) here.items)
            (list_all (is_item_of tree super.generation) later.items) here.held later.held;
      }

  told_level : (depth level : ℕ) (expected : Expected) (at : ℕ) → expected.level ≡ Some level
      → walk depth expected at ≡ None → (node : Node) → node_found super image at ≡ Ok node
      → (header_of node).level ≡ level
  told_level depth level expected at told none node is =
      let passed = walk-passed tree super (node_found super image) depth expected at none in
      let same = one_ok (node_found super image at) passed.node node passed.is is in
      let tells : (level == (header_of passed.node).level) ≡ true =
      subst (λ (o : Option ℕ). is_told o (header_of passed.node).level ≡ true) told passed.level in
      ap (λ (n : Node). (header_of n).level) (sym same) ∙ sym (eqb-true level (header_of passed.node).level tells)

  below-walked : (level depth : ℕ) → level ≤ depth → (expected : Expected) (at : ℕ)
      → ((node : Node) → node_found super image at ≡ Ok node → (header_of node).level ≡ level)
      → walk depth expected at ≡ None → IsBelow level at
  below-walked zero zero deep expected at high none =
      let top = last_passed expected at none in
      leaf_below at top.node top.is (high top.node top.is) (found_levelled super image at top.node top.is)
      (held_there expected at top.node top.judged)
  below-walked zero (suc depth) deep expected at high none =
      let top = more_passed depth expected at none in
      leaf_below at top.node top.is (high top.node top.is) (found_levelled super image at top.node top.is)
      (held_there expected at top.node top.judged)
  below-walked (suc level) zero deep expected at high none = absurd (omega (arith, deep))
  below-walked (suc level) (suc depth) deep expected at high none =
      let top = more_passed depth expected at none in
      let is_high = high top.node top.is in
      let low : (header_of top.node).level - 1 ≡ level = omega (arith, is_high) in
      let under = each_below level depth
      (λ here q told walked. below-walked level depth (omega (arith, deep)) here q
      (told_level depth level here q told walked) walked)
      expected.to (own_pointers top.node)
      (subst (λ (n : ℕ). pointers_failure (walk depth) n expected.to (own_pointers top.node) ≡ None) low top.below) in
      inner_below level at top.node top.is is_high (found_levelled super image at top.node top.is) under

  -- ---- a whole tree

  module _ (expected : Expected) (root : ℕ) (none : tree_failure tree super image expected root ≡ None) where
    whole_walk : walk deepest expected root ≡ None
    unfolding tree_failure
    whole_walk = none

    at_root : HasPassed (walk 6) expected root
    at_root = more_passed 6 expected root whole_walk

    root_level : (node : Node) → node_found super image root ≡ Ok node
        → (header_of node).level ≡ level_in super image root
    root_level node is = rw is refl

    level_low : level_in super image root ≤ deepest
    level_low =
        let low = low_level at_root.node (found_levelled super image root at_root.node at_root.is) in
        let same = root_level at_root.node at_root.is in
        omega (arith, low, same)

    under : IsBelow (level_in super image root) root
    under = below-walked (level_in super image root) deepest level_low expected root root_level whole_walk

    way_there : is_way tree super (node_found super image) expected root ≡ true
    unfolding is_way node_failure
    way_there = rw (walk-weaker (node_failure tree super) (way_failure tree super) (node_found super image)
        (λ expected at node judged. first_none (way_failure tree super expected at node)
        (shape_failure super.nodesize expected at node) _ judged) deepest expected root whole_walk) refl

    items_there : items_under tree super (node_found super image) (level_in super image root) expected root
        ≡ Some under.items
    items_there = rw way_there under.items_are

    nodes_there : nodes_under tree super (node_found super image) (level_in super image root) expected root
        ≡ Some under.nodes
    nodes_there = rw way_there under.nodes_are

    items_same : tree_items tree super image expected root ≡ under.items
    unfolding tree_items
    items_same = rw items_there refl

    nodes_same : tree_nodes tree super image expected root ≡ under.nodes
    unfolding tree_nodes
    nodes_same = rw nodes_there refl

    pub items-walked : items_under tree super (node_found super image) (level_in super image root) expected root
        ≡ Some (tree_items tree super image expected root)
    items-walked = items_there ∙ ap (λ (items : List Item). Some items) (sym items_same)

    pub nodes-walked : nodes_under tree super (node_found super image) (level_in super image root) expected root
        ≡ Some (tree_nodes tree super image expected root)
    nodes-walked = nodes_there ∙ ap (λ (nodes : List Node). Some nodes) (sym nodes_same)

    pub items-held : AreItemsOf tree super.generation (tree_nodes tree super image expected root)
        (tree_items tree super image expected root)
    items-held = record {
      stand = items_same ∙ under.stand ∙ ap (flat_map own_items) (sym nodes_same);
      held = ap (list_all (is_item_of tree super.generation)) items_same ∙ under.held;
    }

    -- the keys of its items ascend
    pub items-ascend : expected.from ≡ None → expected.to ≡ None
        → is_ascending (map (λ item. item.key) (tree_items tree super image expected root)) ≡ true
    items-ascend from to =
        let level = level_in super image root in
        let items = tree_items tree super image expected root in
        let is : IsTree tree super (nodes_of (node_found super image)) level root items =
        IsTree-walked tree super super (node_found super image) (nodes_of (node_found super image)) expected level root
        items (λ at. refl) refl (omega arith) from to level_low root_level whole_walk items-walked in
        ascends-under tree super (nodes_of (node_found super image))
        (λ q node told. (found_formed super image q node (some_ok (node_found super image q) node told)).1)
        level (root_expected (Some level) None) root items
        (record { levelled = refl; walked = is.walked; items_are = is.items_are })
