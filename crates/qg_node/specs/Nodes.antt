-- Parts of a node (on-disk format, "nodes and leaves").
use Rattle.std.specs.Prelude.{ℕ, ◌+◌, ◌*◌, List, [], length, map, Bool, true, ◌&&◌, ◌∷◌}
use Rattle.std.specs.List.{sum_by}
use Rattle.std.specs.Ordering.{is_lt}
use Rattle.qg_num.specs.Key.{key_cmp}
use Rattle.qg_num.specs.declared.key.Key.{Key}
use Rattle.qg_node.specs.declared.item.Item.{Item}
use Rattle.qg_node.specs.declared.pointer.Pointer.{Pointer}
use Rattle.qg_node.specs.declared.node.Header.{Header}
use Rattle.qg_node.specs.declared.node.Node.{Node}
use Rattle.qg_node.specs.declared.node.Node.TheVariants.{Leaf, Inner}

-- the item under a key
abbrev pub item_under : ℕ → ℕ → ℕ → List ℕ → Item
item_under objectid kind offset body = record {
  key = record { objectid = objectid; kind = kind; offset = offset };
  body = body;
}

-- a node's header
abbrev pub header_of : Node → Header
header_of (Leaf header items) = header
header_of (Inner header pointers) = header

-- a leaf's items; an inner node has none
abbrev pub own_items : Node → List Item
own_items (Leaf header items) = items
own_items (Inner header pointers) = []

-- an inner node's pointers; a leaf has none
abbrev pub own_pointers : Node → List Pointer
own_pointers (Leaf header items) = []
own_pointers (Inner header pointers) = pointers

-- the keys of its items or pointers
abbrev pub own_keys : Node → List Key
own_keys (Leaf header items) = map (λ item. item.key) items
own_keys (Inner header pointers) = map (λ pointer. pointer.key) pointers

-- what an item takes of a leaf, in bytes: 25 for its header, and its body
abbrev pub item_bytes : Item → ℕ
item_bytes item = 25 + length item.body

-- what items take, in bytes
abbrev pub items_bytes : List Item → ℕ
items_bytes items = sum_by item_bytes items

-- how many of a node's bytes are used, its header left out: an item takes 25 and its body, a pointer 33
abbrev pub used_bytes : Node → ℕ
used_bytes (Leaf header items) = items_bytes items
used_bytes (Inner header pointers) = 33 * length pointers

-- each key is less than the next one, and the first is greater than `before`
unfoldable pub ascends_from : Key → List Key → Bool
ascends_from before [] = true
ascends_from before (key ∷ keys) = is_lt (key_cmp before key) && ascends_from key keys

-- each key is less than the next one
unfoldable pub is_ascending : List Key → Bool
is_ascending [] = true
is_ascending (key ∷ keys) = ascends_from key keys
