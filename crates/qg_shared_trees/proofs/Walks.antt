-- A tree that stands is walked in a state without a failure.
use Rattle.std.proofs.Common.{◌≡◌, ℕ, zero, suc, ◌-◌, ◌≤◌, true, false, List, [], ◌∷◌, Option, Some, None, arith, refl}
use Rattle.std.proofs.Common.{sym, ap, ◌∙◌}
use Rattle.std.specs.Prelude.{Bool, ◌&&◌, ◌==◌, Result, Ok, Err}
use Rattle.std.specs.List.{list_all}
use Rattle.std.proofs.lemmas.Bool.{and_parts}
use Rattle.std.proofs.lemmas.List.Folds.{list_all-append}
use Rattle.qg_num.specs.declared.key.Key.{Key}
use Rattle.qg_num.specs.declared.rule.Rule.{Rule}
use Rattle.qg_num.specs.declared.rule.Rule.TheVariants as rule
use Rattle.qg_node.specs.declared.item.Item.{Item}
use Rattle.qg_node.specs.declared.pointer.Pointer.{Pointer}
use Rattle.qg_node.specs.declared.node.Node.{Node}
use Rattle.qg_node.specs.declared.node.Node.TheVariants.{Leaf, Inner}
use Rattle.qg_node.specs.Nodes.{header_of, own_keys, own_pointers}
use Rattle.qg_super.specs.declared.superblock.Super.{Super}
use Rattle.qg_image.specs.Below.{items_below}
use Rattle.qg_image.specs.ItemMeaning.{when}
use Rattle.qg_image.specs.declared.expected.Expected.{Expected}
use Rattle.qg_image.specs.declared.failure.Failure.{Failure}
use Rattle.qg_image.specs.declared.tree.TreeKind.{TreeKind}
use Rattle.qg_image.specs.Among.{found_there}
use Rattle.qg_image.specs.Failure.{first_failure, unless}
use Rattle.qg_image.specs.ItemsUnder.{is_way, items_under, nodes_of}
use Rattle.qg_image.specs.Walk.{begins_at, deepest, ends_before, found_failure, is_generation, is_item_of, is_owner}
use Rattle.qg_image.specs.Walk.{node_failure, pointers_failure, root_expected, shape_failure, walk_failure, way_failure}
use Rattle.qg_walk.specs.Standing.{expected_below, form_failure}
use Rattle.qg_walk.proofs.Failures.{neither, none_of_two, pointers-passed, walk-inner, walk-leaf}
use Rattle.qg_shared_trees.specs.Tree.{IsTree, found_in}
use Rattle.qg_shared_trees.proofs.Frames.{items-same}
use Rattle.qg_shared_trees.proofs.Under.{AreUnder, IsUnder, both-under, under-inner, under-leaf}

-- ---- a walk by fewer rules

module _ (judge less : Expected → ℕ → Node → Option Failure) (found : ℕ → Result Node Failure)
    (weaker : (expected : Expected) (address : ℕ) (node : Node) → judge expected address node ≡ None
    → less expected address node ≡ None) where
  pointers_weaker : (walk other : Expected → ℕ → Option Failure)
      → ((expected : Expected) (address : ℕ) → walk expected address ≡ None → other expected address ≡ None)
      → (level : ℕ) (to : Option Key) (pointers : List Pointer) → pointers_failure walk level to pointers ≡ None
      → pointers_failure other level to pointers ≡ None
  pointers_weaker walk other each level to [] none = refl
  pointers_weaker walk other each level to (pointer ∷ pointers) none =
      let below = expected_below level to pointer pointers in
      let parts = neither (walk below pointer.child) (pointers_failure walk level to pointers) none in
      none_of_two (other below pointer.child) (pointers_failure other level to pointers)
      (each below pointer.child parts.0) (pointers_weaker walk other each level to pointers parts.1)

  found_weaker : (walk other : Expected → ℕ → Option Failure)
      → ((expected : Expected) (address : ℕ) → walk expected address ≡ None → other expected address ≡ None)
      → (expected : Expected) (address : ℕ) (there : Result Node Failure)
      → found_failure judge walk expected address there ≡ None → found_failure less other expected address there ≡ None
  found_weaker walk other each expected address (Err failure) none = none
  found_weaker walk other each expected address (Ok node) none =
      let level = (header_of node).level - 1 in
      let parts = neither (judge expected address node) (pointers_failure walk level expected.to (own_pointers node))
      none in
      none_of_two (less expected address node) (pointers_failure other level expected.to (own_pointers node))
      (weaker expected address node parts.0)
      (pointers_weaker walk other each level expected.to (own_pointers node) parts.1)

  pub walk-weaker : (depth : ℕ) (expected : Expected) (address : ℕ)
      → walk_failure judge found depth expected address ≡ None
      → walk_failure less found depth expected address ≡ None
  unfolding walk_failure
  walk-weaker zero expected address none =
      found_weaker (λ expected address. None) (λ expected address. None) (λ expected address is. refl) expected address
      (found address) none
  walk-weaker (suc depth) expected address none =
      found_weaker (walk_failure judge found depth) (walk_failure less found depth) (walk-weaker depth) expected address
      (found address) none

first_of_three : (a b c : Option Failure) → first_failure (a ∷ b ∷ c ∷ []) ≡ None → a ≡ None
first_of_three None b c none = refl
first_of_three (Some failure) b c none = absurd cc

way_of_node : (tree : TreeKind) (super : Super) (expected : Expected) (address : ℕ) (node : Node)
    → node_failure tree super expected address node ≡ None → way_failure tree super expected address node ≡ None
unfolding node_failure
way_of_node tree super expected address node none =
    first_of_three (way_failure tree super expected address node) (shape_failure super.nodesize expected address node) _
    none

-- ---- a root of which no level was told

head_dropped : (test : Bool) (broken : Rule) (address : ℕ) (rest : List (Option Failure))
    → first_failure (unless test broken address ∷ rest) ≡ None
    → first_failure (unless true broken address ∷ rest) ≡ None
head_dropped true broken address rest none = none
head_dropped false broken address rest none = absurd cc

root_way : (tree : TreeKind) (super : Super) (height address : ℕ) (node : Node)
    → way_failure tree super (root_expected (Some height) None) address node ≡ None
    → way_failure tree super (root_expected None None) address node ≡ None
unfolding way_failure
root_way tree super height address node none =
    head_dropped (height == (header_of node).level) rule.Depth address
    (unless (is_owner tree (header_of node).owner) rule.Owner address
    ∷ unless (is_generation super.generation None (header_of node).generation) rule.Gen address
    ∷ unless (begins_at None (own_keys node) && ends_before None (own_keys node)) rule.Range address
    ∷ [])
    none

root_formed : (tree : TreeKind) (super : Super) (height address : ℕ) (node : Node)
    → form_failure tree super (root_expected (Some height) None) address node ≡ None
    → form_failure tree super (root_expected None None) address node ≡ None
root_formed tree super height address node none =
    let told = root_expected (Some height) None in
    let parts = neither (way_failure tree super told address node) (shape_failure super.nodesize told address node)
    none in
    none_of_two (way_failure tree super (root_expected None None) address node)
    (shape_failure super.nodesize (root_expected None None) address node)
    (root_way tree super height address node parts.0) parts.1

-- ---- the same rules by another superblock

module _ (tree : TreeKind) (super other : Super) (generation : other.generation ≡ super.generation)
    (size : other.nodesize ≡ super.nodesize) where
  way_alike : (expected : Expected) (address : ℕ) (node : Node)
      → way_failure tree other expected address node ≡ way_failure tree super expected address node
  unfolding way_failure
  way_alike expected address node = rw generation refl

  form_alike : (expected : Expected) (address : ℕ) (node : Node) → form_failure tree super expected address node ≡ None
      → form_failure tree other expected address node ≡ None
  form_alike expected address node none =
      let parts = neither (way_failure tree super expected address node)
      (shape_failure super.nodesize expected address node) none in
      none_of_two (way_failure tree other expected address node) (shape_failure other.nodesize expected address node)
      (way_alike expected address node ∙ parts.0)
      (ap (λ (n : ℕ). shape_failure n expected address node) size ∙ parts.1)

  -- ---- the walk by all rules

  module _ (nodes : ℕ → Option Node) where
    -- all items may stand in the tree
    abbrev AreItems : List Item → Type 0
    AreItems items = list_all (is_item_of tree other.generation) items ≡ true

    abbrev whole_walk : ℕ → Expected → ℕ → Option Failure
    whole_walk depth = walk_failure (node_failure tree other) (found_in nodes) depth

    found_told : (address : ℕ) (node : Node) → nodes address ≡ Some node → found_in nodes address ≡ Ok node
    found_told address node is = ap (λ (o : Option Node). found_there o address) is

    leaf_none : (items : List Item) (address : ℕ) → AreItems items
        → unless (list_all (is_item_of tree other.generation) items) rule.Item address ≡ None
    leaf_none items address are = ap (λ (b : Bool). unless b rule.Item address) are

    pointers_none : (level depth : ℕ)
        → ((expected : Expected) (address : ℕ) (items : List Item)
        → IsUnder tree super nodes level expected address items → AreItems items
        → whole_walk depth expected address ≡ None)
        → (to : Option Key) (pointers : List Pointer) (items : List Item)
        → AreUnder tree super nodes level to pointers items → AreItems items
        → pointers_failure (whole_walk depth) level to pointers ≡ None
    pointers_none level depth each to [] items under are = refl
    pointers_none level depth each to (pointer ∷ pointers) items under are =
        let both = both-under tree super nodes level to pointer pointers items under in
        let parts = and_parts (list_all (is_item_of tree other.generation) both.first)
        (list_all (is_item_of tree other.generation) both.others)
        (sym (list_all-append (is_item_of tree other.generation) both.first both.others)
        ∙ ap (list_all (is_item_of tree other.generation)) (sym both.items_are) ∙ are) in
        let here = each (expected_below level to pointer pointers) pointer.child both.first both.here parts.0 in
        pointers-passed (whole_walk depth) level to pointer pointers here
        ∙ pointers_none level depth each to pointers both.others both.behind parts.1

    -- from a node on, by what the way to it leads to expect, or by less
    pub walk-less : (level depth : ℕ) → level ≤ depth → (expected weak : Expected) (address : ℕ) (items : List Item)
        → weak.to ≡ expected.to
        → ((node : Node) → form_failure tree other expected address node ≡ None
        → form_failure tree other weak address node ≡ None)
        → IsUnder tree super nodes level expected address items → AreItems items
        → whole_walk depth weak address ≡ None
    walk-less zero depth deep expected weak address items to less under are =
        let leaf = under-leaf tree super nodes expected address items under in
        let node = Leaf leaf.header items in
        walk-leaf tree other (found_in nodes) depth weak address leaf.header items (found_told address node leaf.here)
        (less node (form_alike expected address node leaf.formed))
        ∙ leaf_none items address are
    walk-less (suc level) zero deep expected weak address items to less under are = absurd (omega (arith, deep))
    walk-less (suc level) (suc depth) deep expected weak address items to less under are =
        let inner = under-inner tree super nodes level expected address items under in
        let node = Inner inner.header inner.pointers in
        let low : inner.header.level - 1 ≡ level = let high = inner.level_is in omega (arith, high) in
        let below = pointers_none level depth
        (λ here q own its. walk-less level depth (omega (arith, deep)) here here q own refl (λ node is. is) its)
        expected.to inner.pointers items inner.below are in
        walk-inner tree other (found_in nodes) depth weak address inner.header inner.pointers
        (found_told address node inner.here) (less node (form_alike expected address node inner.formed))
        ∙ ap (λ (n : ℕ). pointers_failure (whole_walk depth) n weak.to inner.pointers) low
        ∙ ap (λ (k : Option Key). pointers_failure (whole_walk depth) level k inner.pointers) to
        ∙ below

    -- ---- the tree

    module _ (height address : ℕ) (items : List Item) (low : height ≤ 7)
        (stands : IsTree tree super nodes height address items) (are : AreItems items) where
      pub tree-walked : whole_walk deepest (root_expected None None) address ≡ None
      tree-walked = walk-less height deepest low (root_expected (Some height) None) (root_expected None None) address
          items refl (λ node is. root_formed tree other height address node is)
          (record { levelled = refl; walked = stands.walked; items_are = stands.items_are }) are

      is_way_there : is_way tree other (found_in nodes) (root_expected None None) address ≡ true
      unfolding is_way
      is_way_there = rw (walk-weaker (node_failure tree other) (way_failure tree other) (found_in nodes)
          (way_of_node tree other) deepest (root_expected None None) address tree-walked) refl

      found_same : (o : Option Node) (q : ℕ) → o ≡ nodes q → nodes_of (found_in nodes) q ≡ nodes q
      found_same None q is = rw (← is) refl
      found_same (Some node) q is = rw (← is) refl

      pub tree-items : items_under tree other (found_in nodes) height (root_expected None None) address ≡ Some items
      tree-items =
          ap (λ (b : Bool). when b (items_below (nodes_of (found_in nodes)) height address)) is_way_there
          ∙ items-same nodes (nodes_of (found_in nodes)) height address (λ q reaches. found_same (nodes q) q refl)
          ∙ stands.items_are
