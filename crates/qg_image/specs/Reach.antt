-- What a subvolume reaches: nodes walked from its root, and extents named by pieces in its leaves (btrfs-quota(8),
-- "subvolume quota groups"). Addresses and sizes are in bytes.
use Rattle.std.specs.Prelude.{ℕ, zero, suc, Bool, List, [], ◌∷◌, ◌++◌, map, Option, Some, None, ◌==◌, if◌then◌else◌}
use Rattle.std.specs.List.{list_any, filter, filter_map, flat_map}
use Rattle.std.specs.Option.{option_and_then}
use Rattle.qg_num.specs.declared.piece.Piece.{Piece}
use Rattle.qg_node.specs.declared.pointer.Pointer.{Pointer}
use Rattle.qg_node.specs.declared.node.Node.{Node}
use Rattle.qg_node.specs.Nodes.{header_of, own_items, own_pointers}
use Rattle.qg_image.specs.Table.{value_at, keys_of}
use Rattle.qg_image.specs.declared.part.FilePart.{FilePart}
use Rattle.qg_image.specs.declared.part.FilePart.TheVariants.{Inode, PieceOf}
use Rattle.qg_image.specs.ItemMeaning.{file_part}
use Rattle.qg_image.specs.declared.element.Element.{Element}
use Rattle.qg_image.specs.State.{Layout, node_at}

-- ---- one node

-- the piece that an item tells
abbrev pub piece_of_part : FilePart → Option Piece
piece_of_part (Inode ino inode) = None
piece_of_part (PieceOf ino piece) = Some piece

-- the pieces that a leaf's items tell
unfoldable pub pieces_of : Node → List Piece
pieces_of node = filter_map (λ item. option_and_then piece_of_part (file_part item)) (own_items node)

-- the extent that a piece names, whole
abbrev pub extent_of : Piece → Element
extent_of piece = record { address = piece.extent; bytes = piece.extent_bytes }

-- the node, and the extents that it names
abbrev pub own_elements : ℕ → ℕ → Option Node → List Element
own_elements nodesize address None = []
own_elements nodesize address (Some node) = record { address = address; bytes = nodesize } ∷ map extent_of
    (pieces_of node)

-- the pointers of a node; none where there is no node
abbrev pub pointers_at : Option Node → List Pointer
pointers_at None = []
pointers_at (Some node) = own_pointers node

-- ---- below a node

-- all that is met from the node of a level at an address down, as often as it is met
abbrev pub reach_under : (ℕ → Option Node) → ℕ → ℕ → ℕ → List Element
reach_under nodes nodesize zero address = own_elements nodesize address (nodes address)
reach_under nodes nodesize (suc level) address =
    own_elements nodesize address (nodes address)
    ++ flat_map (λ pointer. reach_under nodes nodesize level pointer.child) (pointers_at (nodes address))

-- ---- a subvolume

-- the level of the node at an address
abbrev pub level_of : Option Node → ℕ
level_of None = 0
level_of (Some node) = (header_of node).level

-- all that is met from a root down
unfoldable pub reach_of_root : Layout → ℕ → List Element
reach_of_root layout root = reach_under (node_at layout.nodes) layout.nodesize (level_of (node_at layout.nodes root))
    root

-- all that a subvolume meets, by the address of its root; a number that is no subvolume meets nothing
abbrev pub reach_of : Layout → Option ℕ → List Element
reach_of layout None = []
reach_of layout (Some root) = reach_of_root layout root

-- all that a subvolume reaches: the nodes from its root down, and the extents that their pieces name
unfoldable pub reach : Layout → ℕ → List Element
reach layout sub = reach_of layout (value_at sub layout.roots)

-- the elements begin at an address
abbrev pub is_among : ℕ → List Element → Bool
is_among address elements = list_any (λ element. element.address == address) elements

-- a subvolume reaches what begins at an address
abbrev pub reaches : Layout → ℕ → ℕ → Bool
reaches layout sub address = is_among address (reach layout sub)

-- the subvolumes that reach what begins at an address, ascending
unfoldable pub owners : Layout → ℕ → List ℕ
owners layout address = filter (λ sub. reaches layout sub address) (keys_of layout.roots)

-- some subvolume reaches what begins at an address
abbrev pub is_reached : Layout → ℕ → Bool
is_reached layout address = list_any (λ sub. reaches layout sub address) (keys_of layout.roots)

-- the set: each element once
abbrev pub distinct : List Element → List Element
distinct [] = []
distinct (element ∷ elements) = if is_among element.address elements then distinct elements else element
    ∷ distinct elements
