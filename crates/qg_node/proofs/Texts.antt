-- The texts of items and pointers: how long they are, and what one more item or pointer adds.
use Rattle.std.proofs.Common.{◌≡◌, ℕ, ◌+◌, ◌-◌, ◌*◌, ◌≤◌, ◌<◌, List, [], ◌∷◌, ◌++◌, length, drop, get_or, refl, sym, ap}
use Rattle.std.proofs.Common.{◌∙◌, append_assoc, arith, length-append}
use Rattle.std.specs.List.{flat_map}
use Rattle.std.proofs.lemmas.List.{append-nil, length-replicate}
use Rattle.std.proofs.lemmas.List.Concat.{flat_map-append, flat_map-cons}
use Rattle.std.proofs.lemmas.List.Sums.{sum_by-cons, sum_by-drop_more}
use Rattle.qg_num.specs.Fields.{u32_bytes, u64_bytes, zeros}
use Rattle.qg_num.proofs.Numbers.{length-u32_bytes}
use Rattle.qg_crc32c.specs.Crc32c.{crc32c_of}
use Rattle.qg_node.specs.declared.item.Item.{Item}
use Rattle.qg_node.specs.declared.pointer.Pointer.{Pointer}
use Rattle.qg_node.specs.declared.node.Header.{Header}
use Rattle.qg_node.specs.declared.node.Node.{Node}
use Rattle.qg_node.specs.declared.node.Node.TheVariants.{Leaf, Inner}
use Rattle.qg_node.specs.Nodes.{item_bytes, items_bytes, used_bytes}
use Rattle.qg_node.specs.NodeText.{bodies, covered_text, header_text, inner_text, item_header, item_headers, leaf_text}
use Rattle.qg_node.specs.NodeText.{node_text, pointer_text}

-- ---- items

pub length-item_header : (end : ℕ) (item : Item) → length (item_header end item) ≡ 25
unfolding u32_bytes u64_bytes
length-item_header end item = refl

pub length-item_headers : (end : ℕ) (items : List Item) → length (item_headers end items) ≡ 25 * length items
unfolding item_headers
length-item_headers end [] = refl
length-item_headers end (item ∷ items) =
    omega (
      arith,
      length-append (item_header end item) (item_headers (end - length item.body) items),
      length-item_header
          end item,
      length-item_headers (end - length item.body) items,
    )

pub item_headers-push : (end : ℕ) (items : List Item) (item : Item)
    → item_headers end (items ++ item ∷ []) ≡ item_headers end items ++ item_header (end - length (bodies items)) item
unfolding item_headers bodies
item_headers-push end [] item =
    let same : end - 0 ≡ end = omega arith in
    append-nil (item_header end item) ∙ ap (λ (n : ℕ). item_header n item) (sym same)
item_headers-push end (first ∷ items) item =
    let begin = end - length first.body in
    let same : begin - length (bodies items) ≡ end - length (bodies items ++ first.body) =
    omega (arith, length-append (bodies items) first.body) in
    ap (λ (text : List ℕ). item_header end first ++ text) (item_headers-push begin items item
    ∙ ap (λ (n : ℕ). item_headers begin items ++ item_header n item) same)
    ∙ sym (append_assoc (item_header end first) (item_headers begin items)
    (item_header (end - length (bodies items ++ first.body)) item))

pub bodies-push : (items : List Item) (item : Item) → bodies (items ++ item ∷ []) ≡ item.body ++ bodies items
unfolding bodies
bodies-push [] item = sym (append-nil item.body)
bodies-push (first ∷ items) item = ap (λ (text : List ℕ). text ++ first.body) (bodies-push items item)
    ∙ append_assoc item.body (bodies items) first.body

-- what items take is their headers and their bodies
pub items_bytes-parts : (items : List Item) → items_bytes items ≡ 25 * length items + length (bodies items)
unfolding bodies
items_bytes-parts [] = refl
items_bytes-parts (item ∷ items) = sum_by-cons item_bytes item items
    ∙ omega (arith, items_bytes-parts items, length-append (bodies items) item.body)

pub items_bytes-drop : (items : List Item) (i : ℕ) (item : Item) → i < length items → item ≡ get_or items i item
    → items_bytes (drop i items) ≡ 25 + length item.body + items_bytes (drop (i + 1) items)
items_bytes-drop items i item within is =
    sum_by-drop_more item_bytes items i item within
    ∙ ap (λ (first : Item). item_bytes first + items_bytes (drop (i + 1) items)) (sym is)

pub length-leaf_text : (room : ℕ) (items : List Item) → items_bytes items ≤ room → length (leaf_text room items) ≡ room
unfolding leaf_text
length-leaf_text room items fits =
    omega (
      arith,
      length-append (item_headers room items) (zeros (room - items_bytes items) ++ bodies items),
      length-append (zeros (room - items_bytes items)) (bodies items),
      length-replicate {A = ℕ}
          (room - items_bytes items) 0,
      length-item_headers room items,
      items_bytes-parts items,
    )

-- ---- pointers

pub length-pointer_text : (pointer : Pointer) → length (pointer_text pointer) ≡ 33
unfolding pointer_text u64_bytes
length-pointer_text pointer = refl

pub length-pointer_texts : (pointers : List Pointer) → length (flat_map pointer_text pointers) ≡ 33 * length pointers
length-pointer_texts [] = refl
length-pointer_texts (pointer ∷ pointers) =
    ap length (flat_map-cons pointer_text pointer pointers)
    ∙ omega (
      arith,
      length-append (pointer_text pointer) (flat_map pointer_text pointers),
      length-pointer_text pointer,
      length-pointer_texts pointers,
    )

pub pointer_texts-push : (pointers : List Pointer) (pointer : Pointer)
    → flat_map pointer_text (pointers ++ pointer ∷ []) ≡ flat_map pointer_text pointers ++ pointer_text pointer
pointer_texts-push pointers pointer =
    flat_map-append pointer_text pointers (pointer ∷ [])
    ∙ ap (λ (text : List ℕ). flat_map pointer_text pointers ++ text) (flat_map-cons pointer_text pointer []
    ∙ append-nil (pointer_text pointer))

pub length-inner_text : (room : ℕ) (pointers : List Pointer) → 33 * length pointers ≤ room
    → length (inner_text room pointers) ≡ room
unfolding inner_text
length-inner_text room pointers fits =
    omega (
      arith,
      length-append (flat_map pointer_text pointers) (zeros (room - 33 * length pointers)),
      length-replicate
          {A = ℕ} (room - 33 * length pointers) 0,
      length-pointer_texts pointers,
    )

-- ---- headers

pub length-header_text : (header : Header) (count : ℕ) → length (header_text header count) ≡ 69
unfolding header_text u32_bytes u64_bytes
length-header_text header count = refl

-- ---- nodes

pub length-covered_text : (size : ℕ) (node : Node) → 101 + used_bytes node ≤ size
    → 32 + length (covered_text size node) ≡ size
unfolding covered_text
length-covered_text size (Leaf header items) fits =
    omega (
      arith,
      length-append (header_text header (length items)) (leaf_text (size - 101) items),
      length-header_text
          header (length items),
      length-leaf_text (size - 101) items (omega arith),
    )
length-covered_text size (Inner header pointers) fits =
    omega (
      arith,
      length-append (header_text header (length pointers)) (inner_text (size - 101) pointers),
      length-header_text header (length pointers),
      length-inner_text (size - 101) pointers (omega arith),
    )

pub length-node_text : (size : ℕ) (node : Node) → 101 + used_bytes node ≤ size → length (node_text size node) ≡ size
unfolding node_text
length-node_text size node fits =
    let covered = covered_text size node in
    let field = u32_bytes (crc32c_of covered) in
    omega (
      arith,
      length-append (field ++ zeros 28) covered,
      length-append field (zeros 28),
      length-u32_bytes
          (crc32c_of covered),
      length-replicate {A = ℕ} 28 0,
      length-covered_text size node fits,
    )
