-- A tree that was built, where each of its nodes is found at its address, also in an image.
use Rattle.std.proofs.Common.{◌≡◌, ℕ, zero, suc, ◌-◌, Bool, true, false, cond, List, [], ◌∷◌, refl, sym, ap, subst}
use Rattle.std.specs.Prelude.{◌&&◌, ◌==◌, nat_le, nat_lt, is_none, unwrap_or, Option, Some, None, Result, Ok, Err}
use Rattle.std.specs.Prelude.{IsTrue}
use Rattle.std.specs.List.{All, AllByRecursion, list_all}
use Rattle.std.specs.Result.{result_ok}
use Rattle.std.proofs.lemmas.Bool.{and_parts, and_from, eqb-true}
use Rattle.std.proofs.lemmas.List.Elements.{recursion_from_All}
use Rattle.std.proofs.lemmas.Option.{same_Some}
use Rattle.qg_num.specs.declared.rule.Rule.{Rule}
use Rattle.qg_num.specs.declared.rule.Rule.TheVariants as rule
use Rattle.qg_node.specs.declared.item.Item.{Item}
use Rattle.qg_node.specs.declared.node.Node.{Node}
use Rattle.qg_node.specs.Nodes.{header_of, own_items, own_pointers}
use Rattle.qg_super.specs.declared.superblock.Super.{Super}
use Rattle.qg_image.specs.Below.{items_below, nodes_below}
use Rattle.qg_image.specs.ItemMeaning.{when}
use Rattle.qg_image.specs.declared.failure.Failure.{Failure}
use Rattle.qg_image.specs.declared.tree.TreeKind.{TreeKind}
use Rattle.qg_image.specs.declared.expected.Expected.{Expected}
use Rattle.qg_image.specs.Failure.{first_failure, unless}
use Rattle.qg_image.specs.Walk.{is_generation, is_item_of, is_owner, is_told, way_failure, shape_failure, node_failure}
use Rattle.qg_image.specs.Walk.{node_found, pointers_failure, found_failure, walk_failure, deepest, root_expected}
use Rattle.qg_image.specs.Walk.{tree_failure}
use Rattle.qg_image.specs.ItemsUnder.{is_way, items_under, nodes_under, nodes_of}
use Rattle.qg_image.specs.ImageState.{level_in, tree_items, tree_nodes}
use Rattle.qg_tree_layout.specs.Build.{Allows, IsBuilt}
use Rattle.qg_image.specs.Among.{node_among, found_among, found_there}
use Rattle.qg_tree_layout.specs.Row.{address_of}
use Rattle.qg_tree_layout.proofs.Frame.{Judge, Keeps, neither, none_of_two, under_kept, walk_kept}
use Rattle.qg_tree_layout.proofs.Reached.{nodes_kept}
use Rattle.qg_other_trees.specs.Holds.{IsTreeIn}

-- ---- what is among the nodes is found

-- each node is found at its address
abbrev pub AreThere : (ℕ → Result Node Failure) → List Node → Type 0
AreThere found nodes = AllByRecursion (λ node. found (address_of node) ≡ Ok node) nodes

there_among : (found : ℕ → Result Node Failure) (nodes : List Node) (address : ℕ) (node : Node) → AreThere found nodes
    → node_among nodes address ≡ Some node → found address ≡ Ok node
there_among found [] address node there h = absurd cc
there_among found (first ∷ nodes) address node there h =
    cases (address_of first == address) refl (there_among found nodes address node there.1) h
  where
    cases : (here : Bool) → (address_of first == address) ≡ here
        → (node_among nodes address ≡ Some node → found address ≡ Ok node)
        → cond here (Some first) (node_among nodes address) ≡ Some node
        → found address ≡ Ok node
    cases true is later h =
        let at : found address ≡ Ok first =
        subst (λ (a : ℕ). found a ≡ Ok first) (eqb-true (address_of first) address is) there.0 in
        subst (λ (n : Node). found address ≡ Ok n) (same_Some first node h) at
    cases false is later h = later h

pub among : (here : Option Node) (address : ℕ) (node : Node) → found_there here address ≡ Ok node → here ≡ Some node
among None address node h = absurd cc
among (Some other) address node h = let same : other ≡ node = cc in ap (λ (n : Node). Some n) same

Keeps-there : (found : ℕ → Result Node Failure) (nodes : List Node) → AreThere found nodes
    → Keeps (node_among nodes) (nodes_of found)
Keeps-there found nodes there =
    record {
      each = λ address node h.
          ap (λ (r : Result Node Failure). result_ok r) (there_among found nodes address node there h);
    }

-- so a walk that meets no failure among them meets none
walk_there : (judge : Judge) (found : ℕ → Result Node Failure) (nodes : List Node) → AreThere found nodes
    → (depth : ℕ) (expected : Expected) (address : ℕ)
    → walk_failure judge (found_among nodes) depth expected address ≡ None
    → walk_failure judge found depth expected address ≡ None
walk_there judge found nodes there depth expected address none =
    walk_kept judge (found_among nodes) found
    (λ a node h. there_among found nodes a node there (among (node_among nodes a) a node h)) depth expected address none

-- ---- what is expected of a root may be left open

pub four_kept : (a b c d : Bool) (p q r s : Rule) (address : ℕ)
    → first_failure (unless a p address ∷ unless b q address ∷ unless c r address ∷ unless d s address ∷ []) ≡ None
    → (a ≡ true) × (b ≡ true) × (c ≡ true) × (d ≡ true)
four_kept true true true true p q r s address h = (refl, refl, refl, refl)
four_kept false b c d p q r s address h = absurd cc
four_kept true false c d p q r s address h = absurd cc
four_kept true true false d p q r s address h = absurd cc
four_kept true true true false p q r s address h = absurd cc

three_kept : (b c : Bool) (p q r s : Rule) (address : ℕ) → b ≡ true → c ≡ true
    → first_failure (unless true p address ∷ unless b q address ∷ unless c r address ∷ unless true s address ∷ [])
    ≡ None
three_kept b c p q r s address hb hc = rw (hb, hc) refl

pub three_none : (a b c : Option Failure) → first_failure (a ∷ b ∷ c ∷ []) ≡ None → (a ≡ None) × (b ≡ None) × (c ≡ None)
three_none None None None h = (refl, refl, refl)
three_none (Some failure) b c h = absurd cc
three_none None (Some failure) c h = absurd cc
three_none None None (Some failure) h = absurd cc

pub none_of_three : (a b c : Option Failure) → a ≡ None → b ≡ None → c ≡ None → first_failure (a ∷ b ∷ c ∷ []) ≡ None
none_of_three a b c ha hb hc = rw (ha, hb, hc) refl

-- the rules that the way to a root keeps
record KeepsWay (tree : TreeKind) (super : Super) (level generation : ℕ) (node : Node) : Type 0 where
  stands : level ≡ (header_of node).level
  owned : is_owner tree (header_of node).owner ≡ true
  made : is_generation super.generation None (header_of node).generation ≡ true

made_opened : (last told generation : ℕ) → is_generation last (Some told) generation ≡ true
    → is_generation last None generation ≡ true
made_opened last told generation h =
    let split = and_parts (is_told (Some told) generation && nat_lt 0 generation) (nat_le generation last) h in
    let first = and_parts (is_told (Some told) generation) (nat_lt 0 generation) split.0 in
    and_from (nat_lt 0 generation) (nat_le generation last) first.1 split.1

way_kept : (tree : TreeKind) (super : Super) (level generation address : ℕ) (node : Node)
    → way_failure tree super (root_expected (Some level) (Some generation)) address node ≡ None
    → KeepsWay tree super level generation node
unfolding way_failure
way_kept tree super level generation address node none =
    let parts =
    four_kept (is_told (Some level) (header_of node).level) (is_owner tree (header_of node).owner)
    (is_generation super.generation (Some generation) (header_of node).generation) true
    rule.Depth rule.Owner rule.Gen rule.Range address none in
    record {
      stands = eqb-true level (header_of node).level parts.0;
      owned = parts.1;
      made = made_opened super.generation generation (header_of node).generation parts.2;
    }

way_opened : (tree : TreeKind) (super : Super) (level generation address : ℕ) (node : Node)
    → way_failure tree super (root_expected (Some level) (Some generation)) address node ≡ None
    → way_failure tree super (root_expected None None) address node ≡ None
unfolding way_failure
way_opened tree super level generation address node none =
    let keeps = way_kept tree super level generation address node none in
    three_kept (is_owner tree (header_of node).owner) (is_generation super.generation None (header_of node).generation)
    rule.Depth rule.Owner rule.Gen rule.Range address keeps.owned keeps.made

node_way : (tree : TreeKind) (super : Super) (expected : Expected) (address : ℕ) (node : Node)
    → node_failure tree super expected address node ≡ None → way_failure tree super expected address node ≡ None
unfolding node_failure
node_way tree super expected address node none =
    let items = unless (list_all (is_item_of tree super.generation) (own_items node)) rule.Item address in
    (three_none (way_failure tree super expected address node) (shape_failure super.nodesize expected address node)
    items
    none).0

node_opened : (tree : TreeKind) (super : Super) (level generation address : ℕ) (node : Node)
    → node_failure tree super (root_expected (Some level) (Some generation)) address node ≡ None
    → node_failure tree super (root_expected None None) address node ≡ None
unfolding node_failure
node_opened tree super level generation address node none =
    let told = root_expected (Some level) (Some generation) in
    let items = unless (list_all (is_item_of tree super.generation) (own_items node)) rule.Item address in
    let parts =
    three_none (way_failure tree super told address node) (shape_failure super.nodesize told address node) items
    none in
    none_of_three (way_failure tree super (root_expected None None) address node)
    (shape_failure super.nodesize told address node) items
    (way_opened tree super level generation address node parts.0) parts.1 parts.2

-- a judge of nodes that accepts a root also where nothing is expected of it
abbrev Opens : Judge → ℕ → ℕ → Type 0
Opens judge level generation =
    (address : ℕ) (node : Node) → judge (root_expected (Some level) (Some generation)) address node ≡ None → judge
    (root_expected None None) address node ≡ None

found_opened : (judge : Judge) (below : Expected → ℕ → Option Failure) (level generation address : ℕ)
    → Opens judge level generation → (here : Result Node Failure)
    → found_failure judge below (root_expected (Some level) (Some generation)) address here ≡ None
    → found_failure judge below (root_expected None None) address here ≡ None
found_opened judge below level generation address opens (Err failure) none = absurd cc
found_opened judge below level generation address opens (Ok node) none =
    let later = pointers_failure below ((header_of node).level - 1) None (own_pointers node) in
    let parts = neither (judge (root_expected (Some level) (Some generation)) address node) later none in
    none_of_two (judge (root_expected None None) address node) later (opens address node parts.0) parts.1

walk_opened : (judge : Judge) (found : ℕ → Result Node Failure) (depth level generation root : ℕ)
    → Opens judge level generation
    → walk_failure judge found depth (root_expected (Some level) (Some generation)) root ≡ None
    → walk_failure judge found depth (root_expected None None) root ≡ None
unfolding walk_failure
walk_opened judge found zero level generation root opens none =
    found_opened judge (λ expected address. None) level generation root opens (found root) none
walk_opened judge found (suc depth) level generation root opens none =
    found_opened judge (walk_failure judge found depth) level generation root opens (found root) none

pub node_walk_opened : (tree : TreeKind) (super : Super) (found : ℕ → Result Node Failure) (level generation root : ℕ)
    → walk_failure (node_failure tree super) found deepest (root_expected (Some level) (Some generation)) root ≡ None
    → walk_failure (node_failure tree super) found deepest (root_expected None None) root ≡ None
node_walk_opened tree super found level generation root none =
    walk_opened (node_failure tree super) found deepest level generation root (node_opened tree super level generation)
    none

pub way_walk_opened : (tree : TreeKind) (super : Super) (found : ℕ → Result Node Failure) (level generation root : ℕ)
    → walk_failure (way_failure tree super) found deepest (root_expected (Some level) (Some generation)) root ≡ None
    → walk_failure (way_failure tree super) found deepest (root_expected None None) root ≡ None
way_walk_opened tree super found level generation root none =
    walk_opened (way_failure tree super) found deepest level generation root (way_opened tree super level generation)
    none

-- ---- the root

-- a node of this level is found at the root's address
pub record IsRootAt (found : ℕ → Result Node Failure) (level root : ℕ) : Type 0 where
  pub node : Node
  pub is : found root ≡ Ok node
  pub stands : (header_of node).level ≡ level

root_found : (tree : TreeKind) (super : Super) (below : Expected → ℕ → Option Failure) (found : ℕ → Result Node Failure)
    (level generation root : ℕ) (here : Result Node Failure)
    → found root ≡ here
    → found_failure (node_failure tree super) below (root_expected (Some level) (Some generation)) root here ≡ None
    → IsRootAt found level root
root_found tree super below found level generation root (Err failure) is none = absurd cc
root_found tree super below found level generation root (Ok node) is none =
    let told = root_expected (Some level) (Some generation) in
    let parts =
    neither (node_failure tree super told root node)
    (pointers_failure below ((header_of node).level - 1) None (own_pointers node)) none in
    let keeps = way_kept tree super level generation root node (node_way tree super told root node parts.0) in
    record { node = node; is = is; stands = sym keeps.stands }

root_there : (tree : TreeKind) (super : Super) (found : ℕ → Result Node Failure) (depth level generation root : ℕ)
    → walk_failure (node_failure tree super) found depth (root_expected (Some level) (Some generation)) root ≡ None
    → IsRootAt found level root
unfolding walk_failure
root_there tree super found zero level generation root none =
    root_found tree super (λ expected address. None) found level generation root (found root) refl none
root_there tree super found (suc depth) level generation root none =
    root_found tree super (walk_failure (node_failure tree super) found depth) found level generation root (found root)
    refl none

-- ---- no rule is broken on the way

is_nothing : {A : Type 0} (given : Option A) → is_none given ≡ true → given ≡ None
is_nothing None h = refl
is_nothing (Some x) h = absurd cc

pub passed : {A : Type 0} (test : Bool) (given : Option A) (x : A) → when test given ≡ Some x → test ≡ true
passed true given x h = refl
passed false given x h = absurd cc

pub given_so : {A : Type 0} (test : Bool) (given : Option A) (x : A) → test ≡ true → given ≡ Some x
    → when test given ≡ Some x
given_so test given x h k = rw (h, k) refl

pub way_walked : (tree : TreeKind) (super : Super) (found : ℕ → Result Node Failure) (expected : Expected) (root : ℕ)
    → is_way tree super found expected root ≡ true
    → walk_failure (way_failure tree super) found deepest expected root ≡ None
unfolding is_way
way_walked tree super found expected root way =
    is_nothing (walk_failure (way_failure tree super) found deepest expected root) way

walked_way : (tree : TreeKind) (super : Super) (found : ℕ → Result Node Failure) (expected : Expected) (root : ℕ)
    → walk_failure (way_failure tree super) found deepest expected root ≡ None
    → is_way tree super found expected root ≡ true
unfolding is_way
walked_way tree super found expected root none = ap (λ (failure : Option Failure). is_none failure) none

-- ---- a tree that was built

-- the walk of a tree meets no failure where its nodes are found, and its items and nodes are these
pub record Stands (tree : TreeKind) (super : Super) (found : ℕ → Result Node Failure) (expected : Expected)
    (level root : ℕ)
    (items : List Item) (those : List Node) : Type 0 where
  pub walked : walk_failure (node_failure tree super) found deepest expected root ≡ None
  pub items_are : items_under tree super found level expected root ≡ Some items
  pub nodes_are : nodes_under tree super found level expected root ≡ Some those

-- a tree was built of items that it may hold, in nodes that the superblock allows
pub record IsBuiltFor (tree : TreeKind) (super : Super) (nodesize owner generation : ℕ) (items : List Item)
    (slots : List ℕ)
    (nodes : List Node) (root level : ℕ) : Type 0 where
  pub built : IsBuilt nodesize owner generation items slots nodes root level
  pub allows : Allows tree super nodesize owner generation
  pub hold : IsTrue (list_all (is_item_of tree super.generation) items)

module _ (tree : TreeKind) (super : Super) (nodesize owner generation : ℕ) (items : List Item) (slots : List ℕ)
    (nodes : List Node) (root level : ℕ)
    (is : IsBuiltFor tree super nodesize owner generation items slots nodes root level)
    (found : ℕ → Result Node Failure) (there : AreThere found nodes) where
  stands_by : (expected : Expected) → walk_failure (node_failure tree super) found deepest expected root ≡ None
      → walk_failure (way_failure tree super) found deepest expected root ≡ None
      → Stands tree super found expected level root items is.built.reached.those
  stands_by expected walked way =
      let keeps = Keeps-there found nodes there in
      let passes = walked_way tree super found expected root way in
      let reached = is.built.reached in
      record {
        walked = walked;
        items_are =
            given_so (is_way tree super found expected root) (items_below (nodes_of found) level root) items passes
            (under_kept (node_among nodes) (nodes_of found) keeps level root items is.built.held);
        nodes_are =
            given_so (is_way tree super found expected root) (nodes_below (nodes_of found) level root) reached.those
            passes
            (nodes_kept (node_among nodes) (nodes_of found) keeps level root reached.those reached.under);
      }

  walked_told : walk_failure (node_failure tree super) found deepest (root_expected (Some level) (Some generation)) root
      ≡ None
  walked_told =
      walk_there (node_failure tree super) found nodes there deepest (root_expected (Some level) (Some generation)) root
      (is.built.walked tree super is.allows is.hold)

  way_told : walk_failure (way_failure tree super) found deepest (root_expected (Some level) (Some generation)) root
      ≡ None
  way_told =
      let told = root_expected (Some level) (Some generation) in
      let way =
      passed (is_way tree super (found_among nodes) told root)
      (items_below (nodes_of (found_among nodes)) level root) items (is.built.under tree super is.allows) in
      walk_there (way_failure tree super) found nodes there deepest told root
      (way_walked tree super (found_among nodes) told root way)

  pub stands_told : Stands tree super found (root_expected (Some level) (Some generation)) level root items
      is.built.reached.those
  stands_told = stands_by (root_expected (Some level) (Some generation)) walked_told way_told

  pub stands_open : Stands tree super found (root_expected None None) level root items is.built.reached.those
  stands_open =
      stands_by (root_expected None None) (node_walk_opened tree super found level generation root walked_told)
      (way_walk_opened tree super found level generation root way_told)

  pub root_stands : IsRootAt found level root
  root_stands = root_there tree super found deepest level generation root walked_told

-- ---- in an image

module _ (tree : TreeKind) (super : Super) (nodesize owner generation : ℕ) (items : List Item) (slots : List ℕ)
    (nodes : List Node) (root level : ℕ)
    (is : IsBuiltFor tree super nodesize owner generation items slots nodes root level) (image : List ℕ)
    (there : All (λ node. node_found super image (header_of node).address ≡ Ok node) nodes) where
  found_each : AreThere (node_found super image) nodes
  found_each = recursion_from_All (λ node. node_found super image (header_of node).address ≡ Ok node) nodes there

  -- the root's level is the one that was told
  pub level_built : level_in super image root ≡ level
  level_built =
      let at =
      root_stands tree super nodesize owner generation items slots nodes root level is (node_found super image)
      found_each in
      rw at.is at.stands

  in_image : (expected : Expected)
      → Stands tree super (node_found super image) expected level root items is.built.reached.those
      → IsTreeIn tree super image expected root items nodes
  unfolding tree_failure tree_items tree_nodes
  in_image expected stands =
      let found = node_found super image in
      let those = is.built.reached.those in
      let own : items_under tree super found (level_in super image root) expected root ≡ Some items =
      subst (λ (n : ℕ). items_under tree super found n expected root ≡ Some items) (sym level_built) stands.items_are in
      let under : nodes_under tree super found (level_in super image root) expected root ≡ Some those =
      subst (λ (n : ℕ). nodes_under tree super found n expected root ≡ Some those) (sym level_built) stands.nodes_are in
      record {
        walked = stands.walked;
        items_are = ap (λ (given : Option (List Item)). unwrap_or given []) own;
        those = those;
        nodes_are = ap (λ (given : Option (List Node)). unwrap_or given []) under;
        same = is.built.reached.same;
        own = own;
        under = under;
      }

  pub IsTreeIn-told : IsTreeIn tree super image (root_expected (Some level) (Some generation)) root items nodes
  IsTreeIn-told =
      in_image (root_expected (Some level) (Some generation))
      (stands_told tree super nodesize owner generation items slots nodes root level is
      (node_found super image) found_each)

  -- its nodes are in the order of the tree that was built
  pub those_told : IsTreeIn-told.those ≡ is.built.reached.those
  unfolding in_image IsTreeIn-told
  those_told = refl

  pub IsTreeIn-open : IsTreeIn tree super image (root_expected None None) root items nodes
  IsTreeIn-open =
      in_image (root_expected None None)
      (stands_open tree super nodesize owner generation items slots nodes root level is
      (node_found super image) found_each)

  pub those_open : IsTreeIn-open.those ≡ is.built.reached.those
  unfolding in_image IsTreeIn-open
  those_open = refl
