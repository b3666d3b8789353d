-- The first leaf of a tree, and all of them (on-disk format, "B-tree"). Addresses are in bytes.
use Rattle.std.specs.Prelude.{ℕ, zero, suc, List, [], ◌∷◌, ◌++◌, Option, Some, None}
use Rattle.qg_num.specs.declared.key.Key.{Key}
use Rattle.qg_node.specs.declared.item.Item.{Item}
use Rattle.qg_node.specs.declared.pointer.Pointer.{Pointer}
use Rattle.qg_node.specs.declared.node.Node.{Node}
use Rattle.qg_node.specs.Nodes.{own_items, own_pointers}

-- the least key, which leads to it
abbrev pub least : Key
least = record { objectid = 0; kind = 0; offset = 0 }

-- the items of a node that may be told
abbrev pub items_of : Option Node → List Item
items_of None = []
items_of (Some node) = own_items node

-- the pointers of a node that may be told
abbrev pub pointers_of : Option Node → List Pointer
pointers_of None = []
pointers_of (Some node) = own_pointers node

-- what is under the first of some pointers
abbrev pub under_first : (ℕ → List Item) → List Pointer → List Item
under_first under [] = []
under_first under (pointer ∷ pointers) = under pointer.child

-- the items of the first leaf under the node of a level at an address; none where no node is told
unfoldable pub first_leaf : (ℕ → Option Node) → ℕ → ℕ → List Item
first_leaf nodes zero at = items_of (nodes at)
first_leaf nodes (suc level) at = under_first (λ child. first_leaf nodes level child) (pointers_of (nodes at))

-- the lists under some pointers, those of the first in front
abbrev pub leaves_under : (ℕ → List (List Item)) → List Pointer → List (List Item)
leaves_under under [] = []
leaves_under under (pointer ∷ pointers) = under pointer.child ++ leaves_under under pointers

-- the items of each leaf under the node of a level at an address, from left to right
unfoldable pub leaves : (ℕ → Option Node) → ℕ → ℕ → List (List Item)
leaves nodes zero at = items_of (nodes at) ∷ []
leaves nodes (suc level) at = leaves_under (λ child. leaves nodes level child) (pointers_of (nodes at))

-- the leaves behind the first one; of a tree that is one leaf an empty one stays
abbrev pub leaves_behind : List (List Item) → List (List Item)
leaves_behind [] = []
leaves_behind (leaf ∷ []) = [] ∷ []
leaves_behind (leaf ∷ other ∷ leaves) = other ∷ leaves

-- Those of a child whose first leaf was emptied, and those behind. A child of a level that is an empty leaf itself is
-- joined with the leaf behind it, which keeps its items
abbrev pub leaves_joined : ℕ → List (List Item) → List (List Item) → List (List Item)
leaves_joined zero mine behind = behind
leaves_joined (suc level) mine behind = mine ++ behind
