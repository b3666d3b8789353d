-- Nodes that are just full enough, and nodes that are not. All were worked out by hand.
--
-- A node of 4096 bytes has room for 3995 bytes of items or pointers, and a quarter of that is 998.75 bytes.
use Rattle.std.specs.Prelude.{◌≡◌, ℕ, ◌-◌, true, false, List, [], ◌∷◌, Some, None, replicate, refl}
use Rattle.qg_num.specs.Fields.{zeros}
use Rattle.qg_num.specs.declared.key.Key.{Key}
use Rattle.qg_node.specs.declared.item.Item.{Item}
use Rattle.qg_node.specs.declared.node.Node.{Node}
use Rattle.qg_node.specs.declared.node.Node.TheVariants.{Leaf, Inner}
use Rattle.qg_node.specs.Nodes.{used_bytes}
use Rattle.qg_super.specs.Places.{capacity}
use Rattle.qg_image.specs.IsShaped.{is_shaped}

abbrev pub key : ℕ → Key
key objectid = record { objectid = objectid; kind = 1; offset = 0 }

-- a leaf with these items
abbrev pub leaf : List Item → Node
leaf items = Leaf (record { address = 1048576; generation = 2; owner = 5; level = 0 }) items

-- an item with a body of so many bytes
abbrev pub item : ℕ → ℕ → Item
item objectid bytes = record { key = key objectid; body = zeros bytes }

-- a leaf of two items that use so many bytes
abbrev pub leaf_using : ℕ → Node
leaf_using bytes = leaf (item 257 400 ∷ item 258 (bytes - 450) ∷ [])

-- an inner node with so many pointers, all of one key
abbrev pub inner : ℕ → Node
inner count = Inner (record { address = 1048576; generation = 2; owner = 5; level = 1 })
    (replicate count (record { key = key 257; child = 1064960; generation = 2 }))

-- ---- below a pointer

room_of_a_node : capacity 4096 ≡ 3995
room_of_a_node = refl

-- an item takes 25 bytes and its body
used_by_two_items : used_bytes (leaf_using 999) ≡ 999
used_by_two_items = refl

-- four times 999 is 3996
quarter_full_leaf : is_shaped 4096 (Some (key 257)) (leaf_using 999) ≡ true
unfolding is_shaped
quarter_full_leaf = refl

-- four times 998 is 3992
too_empty_leaf : is_shaped 4096 (Some (key 257)) (leaf_using 998) ≡ false
unfolding is_shaped
too_empty_leaf = refl

-- the same leaf is too empty for nodes of 16384 bytes
too_empty_larger_leaf : is_shaped 16384 (Some (key 257)) (leaf_using 999) ≡ false
unfolding is_shaped
too_empty_larger_leaf = refl

-- 31 pointers take 1023 bytes, 30 take 990
quarter_full_inner : is_shaped 4096 (Some (key 257)) (inner 31) ≡ true
unfolding is_shaped
quarter_full_inner = refl

too_empty_inner : is_shaped 4096 (Some (key 257)) (inner 30) ≡ false
unfolding is_shaped
too_empty_inner = refl

-- the first key is not the pointer's
another_first_key : is_shaped 4096 (Some (key 256)) (leaf_using 999) ≡ false
unfolding is_shaped
another_first_key = refl

empty_leaf_below : is_shaped 4096 (Some (key 257)) (leaf []) ≡ false
unfolding is_shaped
empty_leaf_below = refl

-- ---- roots

-- a root may be an empty leaf
empty_root_leaf : is_shaped 4096 None (leaf []) ≡ true
unfolding is_shaped
empty_root_leaf = refl

-- and an inner one may be less than a quarter full, with two pointers
two_pointers : is_shaped 4096 None (inner 2) ≡ true
unfolding is_shaped
two_pointers = refl

one_pointer : is_shaped 4096 None (inner 1) ≡ false
unfolding is_shaped
one_pointer = refl
