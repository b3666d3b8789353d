-- The lists that stand below a node, where each node is found at its address (on-disk format, "B-tree").
use Rattle.std.specs.Prelude.{ℕ, zero, suc, List, [], ◌∷◌, ◌++◌, Option, Some, None}
use Rattle.std.specs.Option.{option_and_then}
use Rattle.qg_node.specs.declared.item.Item.{Item}
use Rattle.qg_node.specs.declared.pointer.Pointer.{Pointer}
use Rattle.qg_node.specs.declared.node.Node.{Node}
use Rattle.qg_node.specs.declared.node.Node.TheVariants.{Leaf, Inner}

-- a leaf's items
abbrev pub leaf_items : Node → Option (List Item)
leaf_items (Leaf header items) = Some items
leaf_items (Inner header pointers) = None

-- an inner node's pointers
abbrev pub inner_pointers : Node → Option (List Pointer)
inner_pointers (Leaf header items) = None
inner_pointers (Inner header pointers) = Some pointers

-- the lists under several pointers, one after the other; none where one of them is undefined
abbrev pub joined : {A : Type 0} → (Pointer → Option (List A)) → List Pointer → Option (List A)
joined under [] = Some []
joined under (pointer ∷ pointers) =
    option_and_then (λ first. option_and_then (λ rest. Some (first ++ rest)) (joined under pointers)) (under pointer)

-- the items from the node of a level at an address down: a leaf's own; above, the children's, one list after the other.
-- Undefined where a node on the way is not found, or is not a leaf exactly at level 0
abbrev pub items_below : (ℕ → Option Node) → ℕ → ℕ → Option (List Item)
items_below nodes zero address = option_and_then leaf_items (nodes address)
items_below nodes (suc level) address =
    option_and_then (joined (λ pointer. items_below nodes level pointer.child))
    (option_and_then inner_pointers (nodes address))

-- the nodes from the node of a level at an address down, each before its children. Undefined where `items_below` is
abbrev pub nodes_below : (ℕ → Option Node) → ℕ → ℕ → Option (List Node)
nodes_below nodes zero address = option_and_then (λ node. option_and_then (λ items. Some (node ∷ [])) (leaf_items node))
    (nodes address)
nodes_below nodes (suc level) address =
    option_and_then
    (λ node. option_and_then (λ below. Some (node ∷ below))
    (option_and_then (joined (λ pointer. nodes_below nodes level pointer.child)) (inner_pointers node)))
    (nodes address)
