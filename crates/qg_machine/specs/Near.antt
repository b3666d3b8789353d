-- How much lies near an element: what a look-up of the subvolumes that reach it has to read, by references upward from
-- the element and, at a keyed reference to a data extent, down the tree that it names (after fs/btrfs/backref.c; the
-- number is this project's own). The number of references counts each reference once, whatever its count.
use Rattle.std.specs.Prelude.{ℕ, ◌+◌, max, Bool, ◌&&◌, not, List, [], ◌∷◌, length, Option, Some, None, ◌==◌}
use Rattle.std.specs.Prelude.{nat_lt, if◌then◌else◌}
use Rattle.std.specs.List.{list_any, filter, filter_map, count_by, sum_by}
use Rattle.qg_node.specs.declared.item.Item.{Item}
use Rattle.qg_node.specs.declared.node.Node.{Node}
use Rattle.qg_node.specs.Nodes.{own_items}
use Rattle.qg_items.specs.declared.kind.TheConstants.{EXTENT_DATA}
use Rattle.qg_items.specs.declared.extent.Reference.{Reference}
use Rattle.qg_items.specs.declared.extent.Reference.TheVariants.{KeyedBlock, SharedBlock, KeyedData, SharedData}
use Rattle.qg_image.specs.Table.{keys_of}
use Rattle.qg_image.specs.Record.{Record, RootOf, ExtentOf, NodeOf, ReferenceTo, Status, InfoOf, LimitOf, RelationOf}
use Rattle.qg_image.specs.Record.{same_reference}
use Rattle.qg_image.specs.declared.element.Element.{Element}
use Rattle.qg_image.specs.State.{State, Layout, Committed, layout_of, node_at}
use Rattle.qg_image.specs.Reach.{reach_of_root, reaches, is_among}
use Rattle.qg_image.specs.Owed.{owed_to, reference_offset}
use Rattle.qg_image.specs.Need.{held_records}

-- ---- the number of references

-- each reference once
abbrev pub distinct_references : List Reference → List Reference
distinct_references [] = []
distinct_references (first ∷ rest) =
    if list_any (same_reference first) rest then distinct_references rest else first ∷ distinct_references rest

-- how many references are owed to what begins at an address
unfoldable pub references_owed : Layout → ℕ → ℕ
references_owed layout address = length (distinct_references (owed_to layout address))

-- the reference to what begins at an address that an item of the extent tree names
abbrev pub reference_to : ℕ → Record → Option Reference
reference_to at (ReferenceTo address reference) = if address == at then Some reference else None
reference_to at (RootOf tree) = None
reference_to at (ExtentOf address bytes) = None
reference_to at (NodeOf address level) = None
reference_to at Status = None
reference_to at (InfoOf group) = None
reference_to at (LimitOf group) = None
reference_to at (RelationOf group other) = None

-- how many the extent tree of the last commit names: as many as were owed at that commit
unfoldable pub references_held : Committed → ℕ → ℕ
references_held held address =
    length (distinct_references (filter_map (reference_to address) (held_records held)))

-- how many there are, now or at the last commit, whichever is more
abbrev pub references_at : State → ℕ → ℕ
references_at state address = max (references_owed (layout_of state) address) (references_held state.held address)

-- ---- upward

-- the nodes above what begins at an address: those that lead to it
unfoldable pub nodes_above : Layout → ℕ → List ℕ
nodes_above layout address =
    filter (λ node. not (node == address) && is_among address (reach_of_root layout node)) (keys_of layout.nodes)

-- ---- down a tree that a keyed reference names

-- an item is that of a piece at a near position of a file: the position less the reference's offset, modulo 2^64, is
-- less than the extent's bytes
abbrev pub is_near_item : ℕ → ℕ → ℕ → Item → Bool
is_near_item ino offset bytes item =
    (item.key.objectid == ino) && (item.key.kind == EXTENT_DATA)
    && nat_lt (reference_offset item.key.offset offset) bytes

-- the items of a leaf; none where no node is, or one that is no leaf
abbrev pub items_in : Option Node → List Item
items_in None = []
items_in (Some node) = own_items node

-- a node is near where such an item is among its own or among those of a leaf that it leads to
unfoldable pub is_near_node : Layout → (Item → Bool) → ℕ → Bool
is_near_node layout is_near node =
    list_any (λ element. list_any is_near (items_in (node_at layout.nodes element.address)))
    (reach_of_root layout node)

-- how many nodes of its root's tree are near by a keyed reference to an extent of so many bytes; any other reference
-- names no tree to go down in
unfoldable pub near_nodes : Layout → ℕ → Reference → ℕ
near_nodes layout bytes (KeyedData root ino offset) =
    count_by (λ node. reaches layout root node && is_near_node layout (is_near_item ino offset bytes) node)
    (keys_of layout.nodes)
near_nodes layout bytes (SharedData parent) = 0
near_nodes layout bytes (KeyedBlock root) = 0
near_nodes layout bytes (SharedBlock parent) = 0

-- ---- both

-- the references to the element and to each node above it, as many as are told of each address, and the near nodes of
-- each of its keyed references
unfoldable pub near_by : Layout → (ℕ → ℕ) → Element → ℕ
near_by layout references element =
    sum_by references (element.address ∷ nodes_above layout element.address)
    + sum_by (near_nodes layout element.bytes) (distinct_references (owed_to layout element.address))

-- how much lies near an element: the references are those now or at the last commit, whichever are more
abbrev pub near : State → Element → ℕ
near state element = near_by (layout_of state) (references_at state) element
