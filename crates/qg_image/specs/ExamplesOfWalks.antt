-- Small trees of 4096 bytes a node, and the first rule that a walk finds broken in them. All were worked out by hand.
--
-- The trees are extent trees whose items are keyed references to nodes: these have no body, and take 25 bytes of a leaf
-- each.
use Rattle.std.specs.Prelude.{◌≡◌, ℕ, ◌+◌, ◌*◌, List, [], ◌∷◌, ◌++◌, map, Option, Some, None, refl}
use Rattle.std.specs.List.{range_with_len}
use Rattle.qg_num.specs.declared.key.Key.{Key}
use Rattle.qg_num.specs.declared.rule.Rule.TheVariants as rule
use Rattle.qg_node.specs.declared.item.Item.{Item}
use Rattle.qg_node.specs.declared.pointer.Pointer.{Pointer}
use Rattle.qg_node.specs.declared.node.Node.{Node}
use Rattle.qg_node.specs.declared.node.Node.TheVariants.{Leaf, Inner}
use Rattle.qg_super.specs.declared.superblock.Super.{Super}
use Rattle.qg_image.specs.IsShaped.{is_shaped}
use Rattle.qg_image.specs.ItemMeaning.{extent_part, is_subvolume_number}
use Rattle.qg_image.specs.declared.failure.Failure.{Failure}
use Rattle.qg_image.specs.declared.failure.Failure.TheVariants.{Broken}
use Rattle.qg_image.specs.declared.tree.TreeKind.TheVariants.{Extents, Files}
use Rattle.qg_image.specs.declared.expected.Expected.{Expected}
use Rattle.qg_image.specs.Walk.{root_expected, way_failure, node_failure, is_item_of, walk_failure, deepest}
use Rattle.qg_image.specs.ItemsUnder.{is_way, items_under, nodes_under}
use Rattle.qg_image.specs.Among.{found_among}

abbrev pub super : Super
super = record { generation = 2; root = 1048576; nodesize = 4096; slots = 64; sectors = 16; format = 1 }

-- ---- making trees

-- the key of a keyed reference of a tree to a node
abbrev pub reference_key : ℕ → ℕ → Key
reference_key address tree = record { objectid = address; kind = 176; offset = tree }

-- so many references of subvolume 5, to nodes that lie 4096 bytes apart from an address on
abbrev pub references : ℕ → ℕ → List Item
references address count = map (λ k. record { key = reference_key (address + k * 4096) 5; body = [] })
    (range_with_len 0 count)

-- nodes of the extent tree: a leaf, and one of a level above
abbrev pub leaf : ℕ → ℕ → List Item → Node
leaf address generation items = Leaf (record { address = address; generation = generation; owner = 2; level = 0 }) items

abbrev pub inner : ℕ → ℕ → ℕ → List Pointer → Node
inner address generation level pointers =
    Inner (record { address = address; generation = generation; owner = 2; level = level }) pointers

-- a pointer whose key is that of a reference of subvolume 5 to a node
abbrev pub pointer : ℕ → ℕ → ℕ → Pointer
pointer to child generation = record { key = reference_key to 5; child = child; generation = generation }

-- ---- the range of keys of a child

-- a leaf of two items, the second being a reference of this tree to the node at 1056768
abbrev pub up_to : ℕ → Node
up_to tree = leaf 1052672 2 (record { key = reference_key 1048576 5; body = [] }
    ∷ record { key = reference_key 1056768 tree; body = [] } ∷ [])

-- what is expected of it, where its pointer has this key, and the next pointer on the way this one
abbrev pub between : Key → Option Key → Expected
between from to = record { level = Some 0; generation = Some 2; from = Some from; to = to }

last_key_below_the_next : way_failure Extents super
    (between (reference_key 1048576 5) (Some (reference_key 1056768 257))) 1052672 (up_to 256) ≡ None
unfolding way_failure
last_key_below_the_next = refl

-- the last key is the next pointer's
last_key_is_the_next : way_failure Extents super (between (reference_key 1048576 5) (Some (reference_key 1056768 257)))
    1052672 (up_to 257) ≡ Some (Broken rule.Range 1052672)
unfolding way_failure
last_key_is_the_next = refl

-- and that is found before the leaf is found too empty
range_before_shape : node_failure Extents super (between (reference_key 1048576 5) (Some (reference_key 1056768 257)))
    1052672 (up_to 257) ≡ Some (Broken rule.Range 1052672)
unfolding node_failure way_failure is_shaped is_item_of extent_part
range_before_shape = refl

shape_after_range : node_failure Extents super (between (reference_key 1048576 5) (Some (reference_key 1056768 257)))
    1052672 (up_to 256) ≡ Some (Broken rule.Shape 1052672)
unfolding node_failure way_failure is_shaped is_item_of extent_part
shape_after_range = refl

-- where no pointer comes next, no key is too great
no_next_pointer : way_failure Extents super (between (reference_key 1048576 5) None) 1052672 (up_to 257) ≡ None
unfolding way_failure
no_next_pointer = refl

-- the first key is greater than the pointer's, or less
first_key_above : way_failure Extents super (between (reference_key 1048576 4) None) 1052672 (up_to 257)
    ≡ Some (Broken rule.Range 1052672)
unfolding way_failure
first_key_above = refl

first_key_below : way_failure Extents super (between (reference_key 1048576 6) None) 1052672 (up_to 257)
    ≡ Some (Broken rule.Range 1052672)
unfolding way_failure
first_key_below = refl

-- the first key is the pointer's, and a later one is less
later_key_below :
    way_failure Extents super (between (reference_key 1056768 5) None) 1052672
    (leaf 1052672 2 (record { key = reference_key 1056768 5; body = [] } ∷ record {
      key = reference_key 1048576 5;
      body = [];
    } ∷ []))
    ≡ Some (Broken rule.Range 1052672)
unfolding way_failure
later_key_below = refl

-- ---- generations and owners

-- what the generation of an empty root must be where it is told: that one, if it is neither 0 nor past the
-- superblock's, 2
told_generation : way_failure Extents super (root_expected (Some 0) (Some 1)) 1052672 (leaf 1052672 1 []) ≡ None
unfolding way_failure
told_generation = refl

generation_of_0 : way_failure Extents super (root_expected (Some 0) (Some 0)) 1052672 (leaf 1052672 0 [])
    ≡ Some (Broken rule.Gen 1052672)
unfolding way_failure
generation_of_0 = refl

generation_to_come : way_failure Extents super (root_expected (Some 0) (Some 3)) 1052672 (leaf 1052672 3 [])
    ≡ Some (Broken rule.Gen 1052672)
unfolding way_failure
generation_to_come = refl

-- where neither level nor generation is told, only the last two are asked
nothing_told : way_failure Extents super (root_expected None None) 1052672 (leaf 1052672 1 []) ≡ None
unfolding way_failure
nothing_told = refl

untold_generation_to_come : way_failure Extents super (root_expected None None) 1052672 (leaf 1052672 3 [])
    ≡ Some (Broken rule.Gen 1052672)
unfolding way_failure
untold_generation_to_come = refl

-- a node of the extent tree is none of a subvolume's
another_owner : way_failure Files super (between (reference_key 1048576 5) None) 1052672 (up_to 257)
    ≡ Some (Broken rule.Owner 1052672)
unfolding way_failure is_subvolume_number
another_owner = refl

-- ---- a tree of two levels: a root at 1048576 above two leaves of 40 items each
--
-- A leaf of 40 items uses 1000 bytes, and a quarter of its room is 998.75.

abbrev pub root : List Pointer → Node
root pointers = inner 1048576 2 1 pointers

abbrev pub first_leaf : Node
first_leaf = leaf 1052672 2 (references 2097152 40)

-- its first item is a reference to the node after those of the first leaf, at 2097152 + 40 * 4096
abbrev pub second_leaf : Node
second_leaf = leaf 1056768 1 (references 2260992 40)

-- the first failure from the root on, by all rules on a node, where there are these nodes
abbrev pub walked : List Node → Option Failure
walked nodes = walk_failure (node_failure Extents super) (found_among nodes) deepest (root_expected (Some 1) (Some 2))
    1048576

abbrev pub two_levels : List Node
two_levels = root (pointer 2097152 1052672 2 ∷ pointer 2260992 1056768 1 ∷ []) ∷ first_leaf ∷ second_leaf ∷ []

two_levels-sound : walked two_levels ≡ None
unfolding walk_failure node_failure way_failure is_shaped is_item_of extent_part
two_levels-sound = refl

-- from left to right
two_levels-items : items_under Extents super (found_among two_levels) 1 (root_expected (Some 1) (Some 2)) 1048576
    ≡ Some (references 2097152 80)
unfolding is_way walk_failure way_failure
two_levels-items = refl

-- each before those below it
two_levels-nodes : nodes_under Extents super (found_among two_levels) 1 (root_expected (Some 1) (Some 2)) 1048576
    ≡ Some two_levels
unfolding is_way walk_failure way_failure
two_levels-nodes = refl

-- the second leaf is of generation 1, and its pointer tells 2
another_generation : walked (root (pointer 2097152 1052672 2 ∷ pointer 2260992 1056768 2 ∷ []) ∷ first_leaf
    ∷ second_leaf ∷ []) ≡ Some (Broken rule.Gen 1056768)
unfolding walk_failure node_failure way_failure is_shaped is_item_of extent_part
another_generation = refl

-- such a tree has no items
another_generation-no_items :
    items_under Extents super
    (found_among (root (pointer 2097152 1052672 2 ∷ pointer 2260992 1056768 2 ∷ []) ∷ first_leaf ∷ second_leaf
    ∷ [])) 1 (root_expected (Some 1) (Some 2)) 1048576
    ≡ None
unfolding is_way walk_failure way_failure
another_generation-no_items = refl

-- both pointers tell another generation: the first one's child is found
first_in_order : walked (root (pointer 2097152 1052672 1 ∷ pointer 2260992 1056768 2 ∷ []) ∷ first_leaf ∷ second_leaf
    ∷ []) ≡ Some (Broken rule.Gen 1052672)
unfolding walk_failure node_failure way_failure is_shaped is_item_of extent_part
first_in_order = refl

-- a pointer leads back to the root, which is not of level 0
cycle : walked (root (pointer 2097152 1052672 2 ∷ pointer 2260992 1048576 2 ∷ []) ∷ first_leaf ∷ [])
    ≡ Some (Broken rule.Depth 1048576)
unfolding walk_failure node_failure way_failure is_shaped is_item_of extent_part
cycle = refl

-- leaves right below a root of level 2
wrong_level :
    walk_failure (node_failure Extents super)
    (found_among (inner 1048576 2 2 (pointer 2097152 1052672 2 ∷ pointer 2260992 1056768 1 ∷ []) ∷ first_leaf
    ∷ second_leaf ∷ [])) deepest
    (root_expected (Some 2) (Some 2)) 1048576
    ≡ Some (Broken rule.Depth 1052672)
unfolding walk_failure node_failure way_failure is_shaped is_item_of extent_part
wrong_level = refl

-- no node lies where a pointer leads
missing_child : walked (root (pointer 2097152 1052672 2 ∷ pointer 2260992 1056768 1 ∷ []) ∷ first_leaf ∷ [])
    ≡ Some (Broken rule.Slot 1056768)
unfolding walk_failure node_failure way_failure is_shaped is_item_of extent_part
missing_child = refl

-- a leaf of 39 items below a pointer
too_empty : walked (root (pointer 2097152 1052672 2 ∷ pointer 2260992 1056768 1 ∷ []) ∷ first_leaf ∷ leaf 1056768 1
    (references 2260992 39) ∷ []) ≡ Some (Broken rule.Shape 1056768)
unfolding walk_failure node_failure way_failure is_shaped is_item_of extent_part
too_empty = refl

-- the first leaf has one item more, which is the first one of the second leaf
child_past_its_range : walked (root (pointer 2097152 1052672 2 ∷ pointer 2260992 1056768 1 ∷ []) ∷ leaf 1052672 2
    (references 2097152 41) ∷ second_leaf ∷ []) ≡ Some (Broken rule.Range 1052672)
unfolding walk_failure node_failure way_failure is_shaped is_item_of extent_part
child_past_its_range = refl

-- an item of the root tree, behind the others of the second leaf
foreign_item :
    walked
    (root (pointer 2097152 1052672 2 ∷ pointer 2260992 1056768 1 ∷ []) ∷ first_leaf
    ∷ leaf 1056768 1 (references 2260992 40 ++ record {
      key = record { objectid = 4194304; kind = 132; offset = 0 };
      body = [];
    } ∷ [])
    ∷ [])
    ≡ Some (Broken rule.Item 1056768)
unfolding walk_failure node_failure way_failure is_shaped is_item_of extent_part
foreign_item = refl

-- ---- a tree of three levels: the range of a leaf ends where that of the node above it does

-- its second leaf, the last one under the root's first child, has these items
abbrev pub three_levels : List Item → List Node
three_levels items =
    inner 1048576 2 2 (pointer 2097152 1052672 2 ∷ pointer 2105344 1056768 2 ∷ [])
    ∷ inner 1052672 2 1 (pointer 2097152 1060864 2 ∷ pointer 2101248 1064960 2 ∷ [])
    ∷ leaf 1060864 2 (references 2097152 1)
    ∷ leaf 1064960 2 items
    ∷ inner 1056768 2 1 (pointer 2105344 1069056 2 ∷ [])
    ∷ leaf 1069056 2 (references 2105344 1)
    ∷ []

-- the first failure by the rules on the way, which do not ask how full a node is
abbrev pub way_walked : List Node → Option Failure
way_walked nodes = walk_failure (way_failure Extents super) (found_among nodes) deepest
    (root_expected (Some 2) (Some 2)) 1048576

three_levels-right : way_walked (three_levels (references 2101248 1)) ≡ None
unfolding walk_failure way_failure
three_levels-right = refl

-- the reference to 2105344 stands under the root's first child, and its second pointer begins there
three_levels-past_its_range : way_walked (three_levels (references 2101248 2)) ≡ Some (Broken rule.Range 1064960)
unfolding walk_failure way_failure
three_levels-past_its_range = refl
