-- A node by its items or pointers (on-disk format, "nodes and leaves").
use Rattle.std.specs.Prelude.{⊤, List, [], ◌++◌}
use Rattle.qg_node.specs.declared.item.Item.{Item}
use Rattle.qg_node.specs.declared.pointer.Pointer.{Pointer}
use Rattle.qg_node.specs.declared.node.Node.{Node}
use Rattle.qg_node.specs.declared.node.Node.TheVariants.{Leaf, Inner}
use Rattle.qg_node.specs.Nodes.{own_items, own_pointers}

-- the node has items
abbrev pub IsLeaf : Node → Type 0
IsLeaf (Leaf header items) = ⊤
IsLeaf (Inner header pointers) = ⊥

-- the node has pointers
abbrev pub IsInner : Node → Type 0
IsInner (Leaf header items) = ⊥
IsInner (Inner header pointers) = ⊤

-- both nodes have items, or both have pointers
abbrev pub AreAlike : Node → Node → Type 0
AreAlike (Leaf header items) right = IsLeaf right
AreAlike (Inner header pointers) right = IsInner right

-- a leaf with these items in place of its own
abbrev pub with_items : Node → List Item → Node
with_items (Leaf header old) items = Leaf header items
with_items (Inner header pointers) items = Inner header pointers

-- an inner node with these pointers in place of its own
abbrev pub with_pointers : Node → List Pointer → Node
with_pointers (Leaf header items) pointers = Leaf header items
with_pointers (Inner header old) pointers = Inner header pointers

-- a node with the items or pointers of another behind its own
abbrev pub whole_of : Node → Node → Node
whole_of (Leaf header items) right = Leaf header (items ++ own_items right)
whole_of (Inner header pointers) right = Inner header (pointers ++ own_pointers right)

-- a node without its items or pointers
abbrev pub emptied : Node → Node
emptied (Leaf header items) = Leaf header []
emptied (Inner header pointers) = Inner header []
