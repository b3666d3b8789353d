-- The text of a node whose numbers fit their fields is bytes.
use Rattle.std.proofs.Common.{ℕ, ◌-◌, ◌*◌, List, [], ◌∷◌, ◌++◌, length, arith}
use Rattle.std.specs.Prelude.{All}
use Rattle.std.specs.List.{flat_map}
use Rattle.std.proofs.lemmas.List.Concat.{flat_map-cons}
use Rattle.std.proofs.lemmas.List.Elements.{All-head, All-tail}
use Rattle.qg_num.specs.Fields.{IsBytes, u32_bytes, u64_bytes, zeros}
use Rattle.qg_num.proofs.AreBytes.{append, of_byte, of_u32, of_u64, of_zeros}
use Rattle.qg_num.proofs.Numbers.{IsBytes-append, IsBytes-u32_bytes, IsBytes-u64_bytes, IsBytes-zeros}
use Rattle.qg_crc32c.specs.Crc32c.{crc32c_of}
use Rattle.qg_num.specs.Key.{key_bytes}
use Rattle.qg_num.proofs.KeyBytes.{IsBytes-key_bytes}
use Rattle.qg_node.specs.declared.item.Item.{Item}
use Rattle.qg_node.specs.declared.pointer.Pointer.{Pointer}
use Rattle.qg_node.specs.declared.node.Header.{Header}
use Rattle.qg_node.specs.declared.node.Node.{Node}
use Rattle.qg_node.specs.declared.node.Node.TheVariants.{Leaf, Inner}
use Rattle.qg_node.specs.Fits.{HeaderFits, ItemFits, NodeFits, PointerFits}
use Rattle.qg_node.specs.Nodes.{items_bytes}
use Rattle.qg_node.specs.NodeText.{bodies, covered_text, header_text, inner_text, item_header, item_headers, leaf_text}
use Rattle.qg_node.specs.NodeText.{node_text, pointer_text}

IsBytes-nil : IsBytes []
IsBytes-nil i = omega arith

IsBytes-header_text : (header : Header) (count : ℕ) → HeaderFits header → IsBytes (header_text header count)
unfolding header_text
IsBytes-header_text header count fits =
    let address = append (of_zeros 16) (of_u64 header.address) in
    let generation = append (append address (of_zeros 24)) (of_u64 header.generation) in
    let counted = append (append generation (of_u64 header.owner)) (of_u32 count) in
    (append counted (of_byte header.level fits.level)).are

IsBytes-item_headers : (end : ℕ) (items : List Item) → All ItemFits items → IsBytes (item_headers end items)
unfolding item_headers
IsBytes-item_headers end [] fit = IsBytes-nil
IsBytes-item_headers end (item ∷ items) fit =
    let key = key_bytes item.key in
    let offset = u32_bytes (end - length item.body) in
    let size = u32_bytes (length item.body) in
    let to_offset = IsBytes-append key offset (IsBytes-key_bytes item.key (All-head ItemFits item items fit).key)
    (IsBytes-u32_bytes (end - length item.body)) in
    let header = IsBytes-append (key ++ offset) size to_offset (IsBytes-u32_bytes (length item.body)) in
    IsBytes-append (item_header end item) (item_headers (end - length item.body) items) header
    (IsBytes-item_headers (end - length item.body) items (All-tail ItemFits item items fit))

IsBytes-bodies : (items : List Item) → All ItemFits items → IsBytes (bodies items)
unfolding bodies
IsBytes-bodies [] fit = IsBytes-nil
IsBytes-bodies (item ∷ items) fit =
    IsBytes-append (bodies items) item.body (IsBytes-bodies items (All-tail ItemFits item items fit))
    (All-head ItemFits item items fit).body

IsBytes-leaf_text : (room : ℕ) (items : List Item) → All ItemFits items → IsBytes (leaf_text room items)
unfolding leaf_text
IsBytes-leaf_text room items fit =
    let gap = zeros (room - items_bytes items) in
    IsBytes-append (item_headers room items) (gap ++ bodies items) (IsBytes-item_headers room items fit)
    (IsBytes-append gap (bodies items) (IsBytes-zeros (room - items_bytes items)) (IsBytes-bodies items fit))

IsBytes-pointer_text : (pointer : Pointer) → PointerFits pointer → IsBytes (pointer_text pointer)
unfolding pointer_text
IsBytes-pointer_text pointer fits =
    let key = key_bytes pointer.key in
    let child = u64_bytes pointer.child in
    IsBytes-append (key ++ child) (u64_bytes pointer.generation)
    (IsBytes-append key child (IsBytes-key_bytes pointer.key fits.key) (IsBytes-u64_bytes pointer.child))
    (IsBytes-u64_bytes pointer.generation)

IsBytes-pointer_texts : (pointers : List Pointer) → All PointerFits pointers → IsBytes (flat_map pointer_text pointers)
IsBytes-pointer_texts [] fit = IsBytes-nil
IsBytes-pointer_texts (pointer ∷ pointers) fit =
    rw (flat_map-cons pointer_text pointer pointers)
    (IsBytes-append (pointer_text pointer) (flat_map pointer_text pointers)
    (IsBytes-pointer_text pointer (All-head PointerFits pointer pointers fit))
    (IsBytes-pointer_texts pointers (All-tail PointerFits pointer pointers fit)))

IsBytes-inner_text : (room : ℕ) (pointers : List Pointer) → All PointerFits pointers
    → IsBytes (inner_text room pointers)
unfolding inner_text
IsBytes-inner_text room pointers fit =
    IsBytes-append (flat_map pointer_text pointers) (zeros (room - 33 * length pointers))
    (IsBytes-pointer_texts pointers fit) (IsBytes-zeros (room - 33 * length pointers))

pub IsBytes-covered_text : (size : ℕ) (node : Node) → NodeFits node → IsBytes (covered_text size node)
unfolding covered_text
IsBytes-covered_text size (Leaf header items) fits =
    IsBytes-append (header_text header (length items)) (leaf_text (size - 101) items)
    (IsBytes-header_text header (length items) fits.0) (IsBytes-leaf_text (size - 101) items fits.1)
IsBytes-covered_text size (Inner header pointers) fits =
    IsBytes-append (header_text header (length pointers)) (inner_text (size - 101) pointers)
    (IsBytes-header_text header (length pointers) fits.0) (IsBytes-inner_text (size - 101) pointers fits.1)

pub IsBytes-node_text : (size : ℕ) (node : Node) → NodeFits node → IsBytes (node_text size node)
unfolding node_text
IsBytes-node_text size node fits =
    let sum = crc32c_of (covered_text size node) in
    let field = u32_bytes sum in
    IsBytes-append (field ++ zeros 28) (covered_text size node) (IsBytes-append field (zeros 28) (IsBytes-u32_bytes sum)
    (IsBytes-zeros 28)) (IsBytes-covered_text size node fits)
