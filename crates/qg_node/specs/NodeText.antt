-- The one text of a node, field by field (on-disk format, "header", "internal node", "leaf node").
--
-- All sizes and places are in bytes. What the text has as `zeros` is 0 in this project's own profile.
use Rattle.std.specs.Prelude.{◌≡◌, ◌⊎◌, ℕ, ◌+◌, ◌-◌, ◌*◌, ◌≤◌, List, [], ◌∷◌, ◌++◌, length, IsTrue}
use Rattle.std.specs.List.{flat_map}
use Rattle.qg_num.specs.Fields.{u64_bytes, u32_bytes, zeros}
use Rattle.qg_crc32c.specs.Crc32c.{crc32c_of}
use Rattle.qg_num.specs.Key.{key_bytes}
use Rattle.qg_node.specs.declared.item.Item.{Item}
use Rattle.qg_node.specs.declared.pointer.Pointer.{Pointer}
use Rattle.qg_node.specs.declared.node.Header.{Header}
use Rattle.qg_node.specs.declared.node.Node.{Node}
use Rattle.qg_node.specs.declared.node.Node.TheVariants.{Leaf, Inner}
use Rattle.qg_node.specs.Nodes.{header_of, items_bytes, own_keys, used_bytes, is_ascending}

-- ---- leaves

-- an item's header, for a body that ends at a place behind the node's header
abbrev pub item_header : ℕ → Item → List ℕ
item_header end item = key_bytes item.key ++ u32_bytes (end - length item.body) ++ u32_bytes (length item.body)

-- the item headers: the first body ends at `end`, and each next one where the one before begins
unfoldable pub item_headers : ℕ → List Item → List ℕ
item_headers end [] = []
item_headers end (item ∷ items) = item_header end item ++ item_headers (end - length item.body) items

-- the bodies, the last item's first, without gaps
unfoldable pub bodies : List Item → List ℕ
bodies [] = []
bodies (item ∷ items) = bodies items ++ item.body

-- what stands behind a leaf's header, of `room` bytes: the item headers, zeros, and the bodies at the end
unfoldable pub leaf_text : ℕ → List Item → List ℕ
leaf_text room items = item_headers room items ++ (zeros (room - items_bytes items) ++ bodies items)

-- ---- inner nodes

-- a pointer: the child's first key, its address, its generation
unfoldable pub pointer_text : Pointer → List ℕ
pointer_text pointer = key_bytes pointer.key ++ u64_bytes pointer.child ++ u64_bytes pointer.generation

-- what stands behind an inner node's header, of `room` bytes: the pointers, and zeros
unfoldable pub inner_text : ℕ → List Pointer → List ℕ
inner_text room pointers = flat_map pointer_text pointers ++ zeros (room - 33 * length pointers)

-- ---- nodes

-- how many bytes a node may have
abbrev pub IsNodeSize : ℕ → Type 0
IsNodeSize size = (size ≡ 4096) ⊎ (size ≡ 16384)

-- the header from its 32nd byte on: fsid, address, flags and chunk tree's uuid, generation, owner, number of items,
-- level
unfoldable pub header_text : Header → ℕ → List ℕ
header_text header count =
    zeros 16 ++ u64_bytes header.address ++ zeros 24 ++ u64_bytes header.generation ++ u64_bytes header.owner
    ++ u32_bytes count ++ header.level ∷ []

-- what a node's checksum covers: all but its first 32 bytes
unfoldable pub covered_text : ℕ → Node → List ℕ
covered_text size (Leaf header items) = header_text header (length items) ++ leaf_text (size - 101) items
covered_text size (Inner header pointers) = header_text header (length pointers) ++ inner_text (size - 101) pointers

-- the text of a node of `size` bytes: the checksum in 4 of 32 bytes, and what it covers
unfoldable pub node_text : ℕ → Node → List ℕ
node_text size node = u32_bytes (crc32c_of (covered_text size node)) ++ zeros 28 ++ covered_text size node

-- a leaf has level 0; any other node has a level from 1 to 7 and a pointer at least
abbrev pub IsLevelled : Node → Type 0
IsLevelled (Leaf header items) = header.level ≡ 0
IsLevelled (Inner header pointers) = (1 ≤ header.level) × (header.level ≤ 7) × (1 ≤ length pointers)

-- a node that has a text of `size` bytes
pub record IsNode (size : ℕ) (node : Node) : Type 0 where
  pub levelled : IsLevelled node
  pub ascending : IsTrue (is_ascending (own_keys node))
  pub fits : 101 + used_bytes node ≤ size

-- the bytes are the text of the node, which lies at an address
pub record IsNodeText (bytes : List ℕ) (address : ℕ) (node : Node) : Type 0 where
  pub text : bytes ≡ node_text (length bytes) node
  pub placed : (header_of node).address ≡ address
  pub sound : IsNode (length bytes) node
