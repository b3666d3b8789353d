-- Where the walk of a tree in an image meets no failure, the list of its nodes is defined.
use Rattle.std.proofs.Common.{◌≡◌, ◌∙◌, ℕ, zero, suc, ◌+◌, ◌-◌, ◌≤◌, Bool, true, false, List, [], ◌∷◌, ◌++◌, refl, sym}
use Rattle.std.proofs.Common.{ap, subst, arith}
use Rattle.std.specs.Prelude.{◌&&◌, ◌==◌, is_none, nat_lt, unwrap_or, Option, Some, None, Result, Ok, Err}
use Rattle.std.specs.List.{list_all}
use Rattle.std.proofs.lemmas.Bool.{eqb-true}
use Rattle.qg_num.specs.declared.key.Key.{Key}
use Rattle.qg_num.specs.declared.rule.Rule.{Rule}
use Rattle.qg_num.specs.declared.rule.Rule.TheVariants as rule
use Rattle.qg_node.specs.declared.pointer.Pointer.{Pointer}
use Rattle.qg_node.specs.declared.node.Node.{Node}
use Rattle.qg_node.specs.declared.node.Node.TheVariants.{Leaf, Inner}
use Rattle.qg_node.specs.Nodes.{header_of, own_items, own_keys, own_pointers}
use Rattle.qg_super.specs.declared.superblock.Super.{Super}
use Rattle.qg_image.specs.Below.{joined, nodes_below}
use Rattle.qg_image.specs.declared.expected.Expected.{Expected}
use Rattle.qg_image.specs.declared.failure.Failure.{Failure}
use Rattle.qg_image.specs.declared.tree.TreeKind.{TreeKind}
use Rattle.qg_image.specs.Failure.{first_failure, unless}
use Rattle.qg_image.specs.ItemsUnder.{is_way, nodes_of, nodes_under}
use Rattle.qg_image.specs.ImageState.{level_in, tree_nodes}
use Rattle.qg_image.specs.Walk.{begins_at, deepest, ends_before, found_failure, is_generation, is_item_of, is_owner}
use Rattle.qg_image.specs.Walk.{is_told, next_key, node_failure, node_found, pointers_failure, shape_failure}
use Rattle.qg_image.specs.Walk.{tree_failure, walk_failure, way_failure}
use Rattle.qg_crashes.proofs.Placed.{HasLevel, IsThere, found_there}

-- ---- the first of several failures

pub neither : (a b : Option Failure) → first_failure (a ∷ b ∷ []) ≡ None → (a ≡ None) × (b ≡ None)
neither None None none = (refl, refl)
neither None (Some failure) none = absurd cc
neither (Some failure) b none = absurd cc

none_of_two : (a b : Option Failure) → a ≡ None → b ≡ None → first_failure (a ∷ b ∷ []) ≡ None
none_of_two a b first second = rw (first, second) refl

first_none : (a b c : Option Failure) → first_failure (a ∷ b ∷ c ∷ []) ≡ None → a ≡ None
first_none None b c none = refl
first_none (Some failure) b c none = absurd cc

first_kept : (a b c d : Bool) (p q r s : Rule) (address : ℕ)
    → first_failure (unless a p address ∷ unless b q address ∷ unless c r address ∷ unless d s address ∷ []) ≡ None
    → a ≡ true
first_kept true b c d p q r s address none = refl
first_kept false b c d p q r s address none = absurd cc

-- ---- one node

way_node : (tree : TreeKind) (super : Super) (expected : Expected) (address : ℕ) (node : Node)
    → node_failure tree super expected address node ≡ None
    → way_failure tree super expected address node ≡ None
unfolding node_failure
way_node tree super expected address node none =
    first_none (way_failure tree super expected address node) (shape_failure super.nodesize expected address node)
    (unless (list_all (is_item_of tree super.generation) (own_items node)) rule.Item address) none

told_level : (tree : TreeKind) (super : Super) (expected : Expected) (address : ℕ) (node : Node)
    → way_failure tree super expected address node ≡ None
    → is_told expected.level (header_of node).level ≡ true
unfolding way_failure
told_level tree super expected address node none =
    first_kept (is_told expected.level (header_of node).level) (is_owner tree (header_of node).owner)
    (is_generation super.generation expected.generation (header_of node).generation)
    (begins_at expected.from (own_keys node) && ends_before expected.to (own_keys node)) rule.Depth rule.Owner rule.Gen
    rule.Range address none

level_is : (told : Option ℕ) (level here : ℕ) → told ≡ Some level → is_told told here ≡ true → here ≡ level
level_is None level here is tells = absurd cc
level_is (Some other) level here is tells =
    let same : other ≡ level = cc in sym (eqb-true other here tells) ∙ same

-- ---- a walk that keeps all rules keeps those on the way

way_pointers : (all way : Expected → ℕ → Option Failure)
    → ((expected : Expected) (address : ℕ) → all expected address ≡ None → way expected address ≡ None)
    → (level : ℕ) (to : Option Key) (pointers : List Pointer) → pointers_failure all level to pointers ≡ None
    → pointers_failure way level to pointers ≡ None
way_pointers all way each level to [] none = refl
way_pointers all way each level to (pointer ∷ pointers) none =
    let expected : Expected = record {
      level = Some level;
      generation = Some pointer.generation;
      from = Some pointer.key;
      to = next_key to pointers;
    } in
    let parts = neither (all expected pointer.child) (pointers_failure all level to pointers) none in
    none_of_two (way expected pointer.child) (pointers_failure way level to pointers)
    (each expected pointer.child parts.0)
    (way_pointers all way each level to pointers parts.1)

way_found : (tree : TreeKind) (super : Super) (all way : Expected → ℕ → Option Failure)
    → ((expected : Expected) (address : ℕ) → all expected address ≡ None → way expected address ≡ None)
    → (expected : Expected) (address : ℕ) (found : Result Node Failure)
    → found_failure (node_failure tree super) all expected address found ≡ None
    → found_failure (way_failure tree super) way expected address found ≡ None
way_found tree super all way each expected address (Err failure) none = absurd cc
way_found tree super all way each expected address (Ok node) none =
    let level = (header_of node).level - 1 in
    let parts = neither (node_failure tree super expected address node)
    (pointers_failure all level expected.to (own_pointers node)) none in
    none_of_two (way_failure tree super expected address node)
    (pointers_failure way level expected.to (own_pointers node))
    (way_node tree super expected address node parts.0)
    (way_pointers all way each level expected.to (own_pointers node) parts.1)

way_walk : (tree : TreeKind) (super : Super) (found : ℕ → Result Node Failure) (depth : ℕ) (expected : Expected)
    (address : ℕ)
    → walk_failure (node_failure tree super) found depth expected address ≡ None
    → walk_failure (way_failure tree super) found depth expected address ≡ None
unfolding walk_failure
way_walk tree super found zero expected address none =
    way_found tree super (λ expected address. None) (λ expected address. None) (λ expected address same. same) expected
    address (found address) none
way_walk tree super found (suc depth) expected address none =
    way_found tree super (walk_failure (node_failure tree super) found depth)
    (walk_failure (way_failure tree super) found depth)
    (way_walk tree super found depth) expected address (found address) none

-- ---- the nodes below

module _ (tree : TreeKind) (super : Super) (image : List ℕ) where
  abbrev walk : ℕ → Expected → ℕ → Option Failure
  walk = walk_failure (node_failure tree super) (node_found super image)

  -- a node was found that breaks no rule, and neither does the walk below it
  record HasPassed (less : Expected → ℕ → Option Failure) (expected : Expected) (at : ℕ) : Type 0 where
    node : Node
    is : node_found super image at ≡ Ok node
    levelled : HasLevel node
    told : is_told expected.level (header_of node).level ≡ true
    below : pointers_failure less ((header_of node).level - 1) expected.to (own_pointers node) ≡ None

  has_passed : (less : Expected → ℕ → Option Failure) (expected : Expected) (at : ℕ) (found : Result Node Failure)
      → node_found super image at ≡ found
      → found_failure (node_failure tree super) less expected at found ≡ None → HasPassed less expected at
  has_passed less expected at (Err failure) is none = absurd cc
  has_passed less expected at (Ok node) is none =
      let parts = neither (node_failure tree super expected at node)
      (pointers_failure less ((header_of node).level - 1) expected.to (own_pointers node)) none in
      record {
        node = node;
        is = is;
        levelled = (found_there super image at node is).levelled;
        told = told_level tree super expected at node (way_node tree super expected at node parts.0);
        below = parts.1;
      }

  last_passed : (expected : Expected) (at : ℕ) → walk zero expected at ≡ None
      → HasPassed (λ expected at. None) expected at
  unfolding walk_failure
  last_passed expected at none = has_passed (λ expected at. None) expected at (node_found super image at) refl none

  more_passed : (depth : ℕ) (expected : Expected) (at : ℕ) → walk (suc depth) expected at ≡ None
      → HasPassed (walk depth) expected at
  unfolding walk_failure
  more_passed depth expected at none = has_passed (walk depth) expected at (node_found super image at) refl none

  record IsBelow (level at : ℕ) : Type 0 where
    nodes : List Node
    are : nodes_below (nodes_of (node_found super image)) level at ≡ Some nodes

  record AreBelow (level : ℕ) (pointers : List Pointer) : Type 0 where
    nodes : List Node
    are : joined (λ pointer. nodes_below (nodes_of (node_found super image)) level pointer.child) pointers ≡ Some nodes

  leaf_below : (at : ℕ) (node : Node) → node_found super image at ≡ Ok node → (header_of node).level ≡ 0 → HasLevel node
      → IsBelow zero at
  leaf_below at (Leaf header items) is low levelled = record { nodes = Leaf header items ∷ []; are = rw is refl }
  leaf_below at (Inner header pointers) is low levelled = let high = levelled.0 in absurd (omega (arith, low, high))

  inner_below : (level at : ℕ) (node : Node) → node_found super image at ≡ Ok node → (header_of node).level ≡ suc level
      → HasLevel node
      → AreBelow level (own_pointers node) → IsBelow (suc level) at
  inner_below level at (Leaf header items) is high levelled below = absurd (omega (arith, high, levelled))
  inner_below level at (Inner header pointers) is high levelled below =
      record { nodes = Inner header pointers ∷ below.nodes; are = rw (is, below.are) refl }

  each_below : (level depth : ℕ) → ((expected : Expected) (at : ℕ) → expected.level ≡ Some level
      → walk depth expected at ≡ None → IsBelow level at)
      → (to : Option Key) (pointers : List Pointer) → pointers_failure (walk depth) level to pointers ≡ None
      → AreBelow level pointers
  each_below level depth each to [] none = record { nodes = []; are = refl }
  each_below level depth each to (pointer ∷ pointers) none =
      let expected : Expected = record {
        level = Some level;
        generation = Some pointer.generation;
        from = Some pointer.key;
        to = next_key to pointers;
      } in
      let parts = neither (walk depth expected pointer.child) (pointers_failure (walk depth) level to pointers) none in
      let here = each expected pointer.child refl parts.0 in
      let later = each_below level depth each to pointers parts.1 in
      record { nodes = here.nodes ++ later.nodes; are = rw (here.are, later.are) refl }

  low_level : (node : Node) → HasLevel node → (header_of node).level ≤ deepest
  low_level (Leaf header items) levelled = omega (arith, levelled)
  low_level (Inner header pointers) levelled = levelled.1

  -- under a node whose level is this one, where that is told
  below_walked : (level depth : ℕ) → level ≤ depth → (expected : Expected) (at : ℕ)
      → ((node : Node) → node_found super image at ≡ Ok node → is_told expected.level (header_of node).level ≡ true
      → (header_of node).level ≡ level)
      → walk depth expected at ≡ None → IsBelow level at
  below_walked zero zero deep expected at high none =
      let top = last_passed expected at none in
      leaf_below at top.node top.is (high top.node top.is top.told) top.levelled
  below_walked zero (suc depth) deep expected at high none =
      let top = more_passed depth expected at none in
      leaf_below at top.node top.is (high top.node top.is top.told) top.levelled
  below_walked (suc level) zero deep expected at high none = absurd (omega (arith, deep))
  below_walked (suc level) (suc depth) deep expected at high none =
      let top = more_passed depth expected at none in
      let is_high = high top.node top.is top.told in
      let low : (header_of top.node).level - 1 ≡ level = omega (arith, is_high) in
      let under = each_below level depth
      (λ here q told walked.
      below_walked level depth (omega (arith, deep)) here q
      (λ node is tells. level_is here.level level (header_of node).level told tells) walked)
      expected.to (own_pointers top.node)
      (subst (λ (n : ℕ). pointers_failure (walk depth) n expected.to (own_pointers top.node) ≡ None) low
      top.below) in
      inner_below level at top.node top.is is_high top.levelled under

  -- ---- a whole tree

  module _ (expected : Expected) (root : ℕ) (none : tree_failure tree super image expected root ≡ None) where
    whole_walk : walk deepest expected root ≡ None
    unfolding tree_failure
    whole_walk = none

    at_root : HasPassed (walk 6) expected root
    at_root = more_passed 6 expected root whole_walk

    root_level : (node : Node) → node_found super image root ≡ Ok node
        → (header_of node).level ≡ level_in super image root
    root_level node is = rw is refl

    level_low : level_in super image root ≤ deepest
    level_low =
        let low = low_level at_root.node at_root.levelled in
        let same = root_level at_root.node at_root.is in
        omega (arith, low, same)

    under : IsBelow (level_in super image root) root
    under = below_walked (level_in super image root) deepest level_low expected root
        (λ node is tells. root_level node is) whole_walk

    way_there : is_way tree super (node_found super image) expected root ≡ true
    unfolding is_way
    way_there = ap is_none (way_walk tree super (node_found super image) deepest expected root whole_walk)

    nodes_there : nodes_under tree super (node_found super image) (level_in super image root) expected root
        ≡ Some under.nodes
    nodes_there = rw way_there under.are

    nodes_are : tree_nodes tree super image expected root ≡ under.nodes
    unfolding tree_nodes
    nodes_are = rw nodes_there refl

    -- the nodes of the tree are those below its root
    pub whole_nodes : nodes_below (nodes_of (node_found super image)) (level_in super image root) root
        ≡ Some (tree_nodes tree super image expected root)
    whole_nodes = under.are ∙ ap (λ (nodes : List Node). Some nodes) (sym nodes_are)
