-- A subvolume's tree in the layout of a whole state.
use Rattle.std.proofs.Common.{◌≡◌, ℕ, zero, suc, Bool, true, false, List, [], ◌∷◌, ◌++◌, refl, sym, ap, subst, ◌∙◌}
use Rattle.std.specs.Prelude.{Option, Some, None, Result, Ok, Err}
use Rattle.std.specs.List.{flat_map}
use Rattle.std.specs.Option.{option_and_then, option_map}
use Rattle.std.specs.Result.{result_ok}
use Rattle.std.proofs.lemmas.List.{append-nil}
use Rattle.std.proofs.lemmas.List.Concat.{flat_map-append}
use Rattle.std.proofs.lemmas.Option.{same_Some}
use Rattle.qg_node.specs.declared.item.Item.{Item}
use Rattle.qg_node.specs.declared.pointer.Pointer.{Pointer}
use Rattle.qg_node.specs.declared.node.Node.{Node}
use Rattle.qg_node.specs.declared.node.Node.TheVariants.{Leaf, Inner}
use Rattle.qg_node.specs.Nodes.{header_of, own_items}
use Rattle.qg_super.specs.declared.superblock.Super.{Super}
use Rattle.qg_image.specs.Below.{inner_pointers, items_below, joined, leaf_items, nodes_below}
use Rattle.qg_image.specs.ItemMeaning.{when}
use Rattle.qg_image.specs.Table.{value_at}
use Rattle.qg_image.specs.State.{Placed, State, Subvolume, node_at}
use Rattle.qg_image.specs.Reach.{level_of}
use Rattle.qg_image.specs.declared.failure.Failure.{Failure}
use Rattle.qg_image.specs.declared.tree.TreeKind.TheVariants.{Files}
use Rattle.qg_image.specs.declared.expected.Expected.{Expected}
use Rattle.qg_image.specs.Among.{found_there}
use Rattle.qg_image.specs.ItemsUnder.{is_way, nodes_of}
use Rattle.qg_image.specs.Walk.{deepest, found_failure, node_failure, root_expected, walk_failure}
use Rattle.qg_machine.specs.Layout.{IsReached, IsTreeOf, IsWhole, found_in, super_to_come}
use Rattle.qg_reach.proofs.Reached.{LieWhereFound}
use Rattle.qg_tree_layout.proofs.Frame.{Judge}
use Rattle.qg_reach.proofs.Members.{each_contained}
use Rattle.qg_other_trees.proofs.Slots.{value_contained}
use Rattle.qg_other_trees.proofs.TreesIn.{passed}

-- ---- a node is found at a root that is walked

-- this node is found
pub record IsFound (here : Result Node Failure) : Type 0 where
  pub node : Node
  pub is : here ≡ Ok node

root_found : (judge : Judge) (below : Expected → ℕ → Option Failure) (expected : Expected) (address : ℕ)
    (here : Result Node Failure) → found_failure judge below expected address here ≡ None → IsFound here
root_found judge below expected address (Err failure) none = absurd cc
root_found judge below expected address (Ok node) none = record { node = node; is = refl }

root_walked : (judge : Judge) (found : ℕ → Result Node Failure) (depth : ℕ) (expected : Expected) (root : ℕ)
    → walk_failure judge found depth expected root ≡ None → IsFound (found root)
unfolding walk_failure
root_walked judge found zero expected root none =
    root_found judge (λ expected address. None) expected root (found root) none
root_walked judge found (suc depth) expected root none =
    root_found judge (walk_failure judge found depth) expected root (found root) none

-- ---- what a layout finds

there_found : (here : Option Node) (address : ℕ) → result_ok (found_there here address) ≡ here
there_found None address = refl
there_found (Some node) address = refl

pub there_is : (here : Option Node) (address : ℕ) (node : Node) → found_there here address ≡ Ok node → here ≡ Some node
there_is None address node is = absurd cc
there_is (Some other) address node is = let same : other ≡ node = cc in ap (λ (n : Node). Some n) same

-- a node of a layout, with its mark
pub record IsPlaced (layout : List (ℕ × Placed)) (q : ℕ) (node : Node) : Type 0 where
  pub placed : Placed
  pub there : value_at q layout ≡ Some placed
  pub is : placed.node ≡ node

mapped_back : (here : Option Placed) (node : Node) → option_map (λ (placed : Placed). placed.node) here ≡ Some node
    → (placed : Placed) × (here ≡ Some placed) × (placed.node ≡ node)
mapped_back None node is = absurd cc
mapped_back (Some placed) node is = (placed, refl, same_Some placed.node node is)

pub node_placed : (layout : List (ℕ × Placed)) (q : ℕ) (node : Node) → node_at layout q ≡ Some node
    → IsPlaced layout q node
node_placed layout q node is =
    let back = mapped_back (value_at q layout) node is in record { placed = back.0; there = back.1; is = back.2 }

-- ---- the nodes below a node, where the items below it are told

joined_items : (items : Pointer → Option (List Item)) (nodes : Pointer → Option (List Node))
    → ((pointer : Pointer) → items pointer ≡ option_map (flat_map own_items) (nodes pointer))
    → (pointers : List Pointer) → joined items pointers ≡ option_map (flat_map own_items) (joined nodes pointers)
joined_items items nodes same [] = refl
joined_items items nodes same (pointer ∷ pointers) =
    rw (same pointer, joined_items items nodes same pointers) (both (nodes pointer) (joined nodes pointers))
  where
    both : (first rest : Option (List Node))
        → option_and_then (λ xs. option_and_then (λ ys. Some (xs ++ ys)) (option_map (flat_map own_items) rest))
        (option_map (flat_map own_items) first)
        ≡ option_map (flat_map own_items) (option_and_then (λ xs. option_and_then (λ ys. Some (xs ++ ys)) rest) first)
    both None rest = refl
    both (Some xs) None = refl
    both (Some xs) (Some ys) = ap Some (sym (flat_map-append own_items xs ys))

leaf_owns : (here : Option Node)
    → option_and_then leaf_items here ≡ option_map (flat_map own_items)
    (option_and_then (λ node. option_and_then (λ items. Some (node ∷ [])) (leaf_items node)) here)
leaf_owns None = refl
leaf_owns (Some (Leaf header items)) = ap Some (sym (append-nil items))
leaf_owns (Some (Inner header pointers)) = refl

inner_owns : (items : Pointer → Option (List Item)) (nodes : Pointer → Option (List Node))
    → ((pointer : Pointer) → items pointer ≡ option_map (flat_map own_items) (nodes pointer))
    → (here : Option Node) → option_and_then (joined items) (option_and_then inner_pointers here)
    ≡ option_map (flat_map own_items) (option_and_then
    (λ node. option_and_then (λ below. Some (node ∷ below)) (option_and_then (joined nodes) (inner_pointers node)))
    here)
inner_owns items nodes same None = refl
inner_owns items nodes same (Some (Leaf header own)) = refl
inner_owns items nodes same (Some (Inner header pointers)) =
    joined_items items nodes same pointers ∙ itself (joined nodes pointers)
  where
    itself : (below : Option (List Node)) → option_map (flat_map own_items) below
        ≡ option_map (flat_map own_items) (option_and_then (λ below. Some (Inner header pointers ∷ below)) below)
    itself None = refl
    itself (Some below) = refl

items_owned : (found : ℕ → Option Node) (level address : ℕ)
    → items_below found level address ≡ option_map (flat_map own_items) (nodes_below found level address)
items_owned found zero address = leaf_owns (found address)
items_owned found (suc level) address =
    inner_owns (λ pointer. items_below found level pointer.child) (λ pointer. nodes_below found level pointer.child)
    (λ pointer. items_owned found level pointer.child) (found address)

-- there are nodes
pub record AreSome (here : Option (List Node)) : Type 0 where
  pub nodes : List Node
  pub are : here ≡ Some nodes

some_mapped : (here : Option (List Node)) (items : List Item) → option_map (flat_map own_items) here ≡ Some items
    → AreSome here
some_mapped None items is = absurd cc
some_mapped (Some nodes) items is = record { nodes = nodes; are = refl }

pub nodes_some : (found : ℕ → Option Node) (level address : ℕ) (items : List Item)
    → items_below found level address ≡ Some items → AreSome (nodes_below found level address)
nodes_some found level address items are =
    some_mapped (nodes_below found level address) items (sym (items_owned found level address) ∙ are)

when_given : {A : Type 0} (test : Bool) (given : Option A) (x : A) → when test given ≡ Some x → given ≡ Some x
when_given true given x h = h
when_given false given x h = absurd cc

-- ---- the layout

module _ (state : State) (whole : IsWhole state) where
  pub lie : LieWhereFound (node_at state.layout)
  lie = record {
    found = λ address node is.
        let placed = node_placed state.layout address node is in
        let has = value_contained address state.layout placed.placed placed.there in
        let reached = each_contained (IsReached state) state.layout (address, placed.placed) whole.reached has in
        ap (λ (n : Node). (header_of n).address) (sym placed.is) ∙ reached.placed;
  }

  nodes_same : nodes_of (found_in state.layout) ≡ node_at state.layout
  nodes_same = λ i. λ address. there_found (node_at state.layout address) address i

  -- ---- one subvolume's tree

  module _ (subvolume : Subvolume) (tree : IsTreeOf state subvolume) where
    abbrev to_come : Super
    to_come = super_to_come state

    abbrev untold : Expected
    untold = root_expected None None

    pub at_root : IsFound (found_in state.layout subvolume.root)
    at_root = root_walked (node_failure Files to_come) (found_in state.layout) deepest untold subvolume.root tree.walked

    abbrev pub root_node : Node
    root_node = at_root.node

    pub root_there : node_at state.layout subvolume.root ≡ Some root_node
    root_there = there_is (node_at state.layout subvolume.root) subvolume.root root_node at_root.is

    abbrev pub level : ℕ
    level = level_of (node_at state.layout subvolume.root)

    pub way_passes : is_way Files to_come (found_in state.layout) untold subvolume.root ≡ true
    way_passes =
        passed (is_way Files to_come (found_in state.layout) untold subvolume.root)
        (items_below (nodes_of (found_in state.layout)) level subvolume.root) tree.items tree.under

    pub items_there : items_below (node_at state.layout) level subvolume.root ≡ Some tree.items
    items_there =
        subst (λ (found : ℕ → Option Node). items_below found level subvolume.root ≡ Some tree.items) nodes_same
        (when_given (is_way Files to_come (found_in state.layout) untold subvolume.root)
        (items_below (nodes_of (found_in state.layout)) level subvolume.root) tree.items tree.under)

    pub below : AreSome (nodes_below (node_at state.layout) level subvolume.root)
    below = nodes_some (node_at state.layout) level subvolume.root tree.items items_there

    -- the nodes of the layout that are found from the root down
    abbrev pub nodes : List Node
    nodes = below.nodes

    pub nodes_there : nodes_below (node_at state.layout) level subvolume.root ≡ Some nodes
    nodes_there = below.are
