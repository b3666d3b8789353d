-- What was found of a whole tree.
use Rattle.std.proofs.Common.{◌≡◌, ℕ, zero, suc, ◌-◌, true, List, [], ◌∷◌, ◌++◌, refl, sym, ap, ◌∙◌, Option, Some, None}
use Rattle.std.specs.Prelude.{Result, Ok, Err, is_none}
use Rattle.std.specs.List.{list_all}
use Rattle.qg_device.specs.History.{Event, History, Recorded, content}
use Rattle.qg_num.specs.declared.key.Key.{Key}
use Rattle.qg_num.specs.declared.rule.Rule.TheVariants as rule
use Rattle.qg_node.specs.declared.item.Item.{Item}
use Rattle.qg_node.specs.declared.pointer.Pointer.{Pointer}
use Rattle.qg_node.specs.declared.node.Node.{Node}
use Rattle.qg_node.specs.Nodes.{header_of, own_items, own_pointers}
use Rattle.qg_super.specs.declared.superblock.Super.{Super}
use Rattle.qg_super.specs.SuperText.{sizes_of}
use Rattle.qg_image.specs.declared.failure.Failure.{Failure}
use Rattle.qg_image.specs.declared.tree.TreeKind.{TreeKind}
use Rattle.qg_image.specs.declared.expected.Expected.{Expected}
use Rattle.qg_image.specs.Failure.{unless}
use Rattle.qg_image.specs.Walk.{deepest, found_failure, is_item_of, node_failure, node_found, pointers_failure}
use Rattle.qg_image.specs.Walk.{shape_failure, tree_failure, walk_failure, way_failure}
use Rattle.qg_image.specs.ItemsUnder.{is_way, items_under, nodes_under}
use Rattle.qg_image.specs.ImageState.{level_in, tree_items, tree_nodes}
use Rattle.qg_walk.specs.IsWalk.{IsWalk}
use Rattle.qg_walk.specs.Added.{below_node, Found, HasAdded}
use Rattle.qg_walk.specs.WalkKeeps.{AreHeld, AreInSlots}
use Rattle.qg_walk.specs.Standing.{expected_below}
use Rattle.qg_walk.proofs.Failures.{first_none, neither, none_of_two}

-- ---- a walk that keeps all rules keeps those on the way

way-node : (tree : TreeKind) (super : Super) (expected : Expected) (address : ℕ) (node : Node)
    → node_failure tree super expected address node ≡ None → way_failure tree super expected address node ≡ None
unfolding node_failure
way-node tree super expected address node none =
    first_none (way_failure tree super expected address node) (shape_failure super.nodesize expected address node)
    (unless (list_all (is_item_of tree super.generation) (own_items node)) rule.Item address) none

way-pointers : (all way : Expected → ℕ → Option Failure)
    → ((expected : Expected) (address : ℕ) → all expected address ≡ None → way expected address ≡ None)
    → (level : ℕ) (to : Option Key) (pointers : List Pointer) → pointers_failure all level to pointers ≡ None
    → pointers_failure way level to pointers ≡ None
way-pointers all way each level to [] none = refl
way-pointers all way each level to (pointer ∷ pointers) none =
    let expected = expected_below level to pointer pointers in
    let parts = neither (all expected pointer.child) (pointers_failure all level to pointers) none in
    none_of_two (way expected pointer.child) (pointers_failure way level to pointers)
    (each expected pointer.child parts.0) (way-pointers all way each level to pointers parts.1)

way-found : (tree : TreeKind) (super : Super) (all way : Expected → ℕ → Option Failure)
    → ((expected : Expected) (address : ℕ) → all expected address ≡ None → way expected address ≡ None)
    → (expected : Expected) (address : ℕ) (found : Result Node Failure)
    → found_failure (node_failure tree super) all expected address found ≡ None
    → found_failure (way_failure tree super) way expected address found ≡ None
way-found tree super all way each expected address (Err failure) none = absurd cc
way-found tree super all way each expected address (Ok node) none =
    let level = (header_of node).level - 1 in
    let parts = neither (node_failure tree super expected address node)
    (pointers_failure all level expected.to (own_pointers node)) none in
    none_of_two (way_failure tree super expected address node)
    (pointers_failure way level expected.to (own_pointers node))
    (way-node tree super expected address node parts.0)
    (way-pointers all way each level expected.to (own_pointers node) parts.1)

way-walk : (tree : TreeKind) (super : Super) (found : ℕ → Result Node Failure) (depth : ℕ) (expected : Expected)
    (address : ℕ)
    → walk_failure (node_failure tree super) found depth expected address ≡ None
    → walk_failure (way_failure tree super) found depth expected address ≡ None
unfolding walk_failure
way-walk tree super found zero expected address none =
    way-found tree super (λ expected address. None) (λ expected address. None) (λ expected address same. same) expected
    address (found address) none
way-walk tree super found (suc depth) expected address none =
    way-found tree super (walk_failure (node_failure tree super) found depth)
    (walk_failure (way_failure tree super) found depth) (way-walk tree super found depth) expected address
    (found address) none

way-tree : (tree : TreeKind) (super : Super) (image : List ℕ) (expected : Expected) (root : ℕ)
    → tree_failure tree super image expected root ≡ None
    → is_way tree super (node_found super image) expected root ≡ true
unfolding tree_failure is_way
way-tree tree super image expected root none =
    ap is_none (way-walk tree super (node_found super image) deepest expected root none)

-- ---- a whole tree

items_under-below : (tree : TreeKind) (super : Super) (image : List ℕ) (expected : Expected) (root : ℕ)
    (items : List Item)
    → tree_failure tree super image expected root ≡ None
    → (below_node super root image).items ≡ Some items
    → items_under tree super (node_found super image) (level_in super image root) expected root ≡ Some items
items_under-below tree super image expected root items none is = rw (way-tree tree super image expected root none) is

nodes_under-below : (tree : TreeKind) (super : Super) (image : List ℕ) (expected : Expected) (root : ℕ)
    (nodes : List Node)
    → tree_failure tree super image expected root ≡ None
    → (below_node super root image).nodes ≡ Some nodes
    → nodes_under tree super (node_found super image) (level_in super image root) expected root ≡ Some nodes
nodes_under-below tree super image expected root nodes none is = rw (way-tree tree super image expected root none) is

tree_items-is : (tree : TreeKind) (super : Super) (image : List ℕ) (expected : Expected) (root : ℕ) (items : List Item)
    → items_under tree super (node_found super image) (level_in super image root) expected root ≡ Some items
    → tree_items tree super image expected root ≡ items
unfolding tree_items
tree_items-is tree super image expected root items is = rw is refl

tree_nodes-is : (tree : TreeKind) (super : Super) (image : List ℕ) (expected : Expected) (root : ℕ) (nodes : List Node)
    → nodes_under tree super (node_found super image) (level_in super image root) expected root ≡ Some nodes
    → tree_nodes tree super image expected root ≡ nodes
unfolding tree_nodes
tree_nodes-is tree super image expected root nodes is = rw is refl

pub IsWalk-added : {P N : Type 0} (tree : TreeKind) (meaning : Item → Option P) (keeps : N → List Node
    → Type 0) (super : Super) (history : History) (events : List Event) (from to : Option Key)
    (expected : Expected) (root : ℕ)
    (old new : Found P N) → history ≡ Recorded events → old.parts ≡ [] → keeps old.nodes []
    → tree_failure tree super (content events) expected root ≡ None
    → HasAdded tree meaning keeps super history from to (below_node super root) old new
    → IsWalk tree meaning keeps super (content events) expected root new.parts new.nodes
IsWalk-added tree meaning keeps super history events from to expected root old new told no_parts no_nodes sound added =
    let image = content events in
    let items = items_under-below tree super image expected root added.items sound (added.items_stand events told) in
    let nodes = nodes_under-below tree super image expected root added.nodes sound (added.nodes_stand events told) in
    let all_items = tree_items-is tree super image expected root added.items items in
    let all_nodes = tree_nodes-is tree super image expected root added.nodes nodes in
    let parts : new.parts ≡ added.parts = added.more_parts ∙ ap (λ front. front ++ added.parts) no_parts in
    record {
      sound = sound;
      items = items ∙ ap Some (sym all_items);
      reached = nodes ∙ ap Some (sym all_nodes);
      held = rw all_items added.held;
      bytes = rw all_items added.bytes;
      said = rw (all_items, parts) added.said;
      kept = rw all_nodes (added.more_nodes [] no_nodes);
    }

pub slots-added : {P N : Type 0} (tree : TreeKind) (meaning : Item → Option P) (keeps : N → List Node
    → Type 0) (super : Super) (history : History) (from to : Option Key) (root : ℕ)
    (old new : Found P N) → keeps old.nodes []
    → HasAdded tree meaning keeps super history from to (below_node super root) old new
    → AreInSlots (sizes_of super) keeps new.nodes
slots-added tree meaning keeps super history from to root old new no_nodes added =
    record { nodes = added.nodes; kept = added.more_nodes [] no_nodes; slots = added.slots }

pub held-added : {P N : Type 0} (tree : TreeKind) (meaning : Item → Option P) (keeps : N → List Node
    → Type 0) (super : Super) (history : History) (from to : Option Key) (root : ℕ) (old new : Found P N)
    → old.parts ≡ [] → HasAdded tree meaning keeps super history from to (below_node super root) old new
    → AreHeld tree meaning super.generation new.parts
held-added tree meaning keeps super history from to root old new no_parts added =
    let parts : new.parts ≡ added.parts = added.more_parts ∙ ap (λ front. front ++ added.parts) no_parts in
    record { items = added.items; held = added.held; said = rw parts added.said }
