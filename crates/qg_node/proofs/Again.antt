-- What is written is read again: where a node's text stands, the node is read.
use Rattle.std.proofs.Common.{◌≡◌, ℕ, suc, ◌+◌, ◌-◌, ◌*◌, ◌^◌, ◌≤◌, ◌<◌, true, false, cond, List, [], ◌∷◌, ◌++◌, length}
use Rattle.std.proofs.Common.{drop, Result, Ok, refl, sym, ap, subst, ◌∙◌, arith, eq-eqb}
use Rattle.std.specs.Prelude.{All, slice_index, ◌||◌, not, ◌==◌, nat_le}
use Rattle.std.specs.List.{flat_map}
use Rattle.std.proofs.lemmas.Bool.{le-leb, ne_eqb}
use Rattle.std.proofs.lemmas.List.{append-nil, drop_all, length-replicate}
use Rattle.std.proofs.lemmas.List.Concat.{flat_map-cons}
use Rattle.std.proofs.lemmas.List.Elements.{All-head, All-tail}
use Rattle.qg_num.specs.Fields.{u32_at, u32_bytes, u64_at, u64_bytes, zeros}
use Rattle.qg_num.proofs.Standing.{Stands, Stands-first, Stands-second, is_zero-stands, slice_index-stands}
use Rattle.qg_num.proofs.Standing.{slice_range-stands, u32_at-stands, u64_at-stands, whole_stands}
use Rattle.qg_crc32c.specs.Crc32c.{crc32c_of}
use Rattle.qg_crc32c.proofs.Checksum.{crc32c_of-lt}
use Rattle.qg_num.specs.Key.{IsKey, key_bytes}
use Rattle.qg_num.proofs.KeyBytes.{key_at-stands}
use Rattle.qg_node.specs.declared.item.Item.{Item}
use Rattle.qg_node.specs.declared.pointer.Pointer.{Pointer}
use Rattle.qg_node.specs.declared.node.Header.{Header}
use Rattle.qg_node.specs.declared.node.Node.{Node}
use Rattle.qg_node.specs.declared.node.Node.TheVariants.{Leaf, Inner}
use Rattle.qg_node.specs.declared.fault.NodeFault.{NodeFault}
use Rattle.qg_node.specs.Fits.{HeaderFits, ItemFits, NodeFits, PointerFits}
use Rattle.qg_node.specs.Nodes.{header_of, items_bytes}
use Rattle.qg_node.specs.NodeText.{IsNode, IsNodeText, bodies, covered_text, header_text, inner_text, item_header}
use Rattle.qg_node.specs.NodeText.{item_headers, leaf_text, node_text, pointer_text}
use Rattle.qg_node.specs.Reading.{count_at, has_checksum, has_empty_fields, header_at, inner_at, item_at, items_at}
use Rattle.qg_node.specs.Reading.{leaf_at, node_read, pointer_at, pointers_at}
use Rattle.qg_node.proofs.TextBytes.{IsBytes-covered_text}
use Rattle.qg_node.proofs.Texts.{length-node_text, items_bytes-parts, length-header_text, length-item_header}
use Rattle.qg_node.proofs.Texts.{length-item_headers, length-pointer_text, length-pointer_texts}

-- ---- the header

-- what is read of a header that stands
record IsHeader (bytes : List ℕ) (header : Header) (count : ℕ) : Type 0 where
  header_is : header_at bytes ≡ header
  count_is : count_at bytes ≡ count
  level_is : slice_index bytes 100 ≡ header.level
  empty : has_empty_fields bytes ≡ true

header_again : (bytes : List ℕ) (header : Header) (count : ℕ) → HeaderFits header → count < 2 ^ 32
    → Stands bytes 32 101 (header_text header count) → IsHeader bytes header count
unfolding header_text header_at has_empty_fields u64_bytes u32_bytes
header_again bytes header count fits small stands =
    let fsid = zeros 16 in
    let address = fsid ++ u64_bytes header.address in
    let flags = address ++ zeros 24 in
    let generation = flags ++ u64_bytes header.generation in
    let owner = generation ++ u64_bytes header.owner in
    let counted = owner ++ u32_bytes count in
    let level_stands = Stands-second 100 counted (header.level ∷ []) refl stands in
    let to_count = Stands-first 100 counted (header.level ∷ []) refl stands in
    let count_stands = Stands-second 96 owner (u32_bytes count) refl to_count in
    let to_owner = Stands-first 96 owner (u32_bytes count) refl to_count in
    let owner_stands = Stands-second 88 generation (u64_bytes header.owner) refl to_owner in
    let to_generation = Stands-first 88 generation (u64_bytes header.owner) refl to_owner in
    let generation_stands = Stands-second 80 flags (u64_bytes header.generation) refl to_generation in
    let to_flags = Stands-first 80 flags (u64_bytes header.generation) refl to_generation in
    let flags_stand = Stands-second 56 address (zeros 24) refl to_flags in
    let to_address = Stands-first 56 address (zeros 24) refl to_flags in
    let address_stands = Stands-second 48 fsid (u64_bytes header.address) refl to_address in
    let fsid_stands = Stands-first 48 fsid (u64_bytes header.address) refl to_address in
    let level = slice_index-stands level_stands in
    record {
      header_is = rw (
        u64_at-stands header.address fits.address address_stands,
        u64_at-stands header.generation
            fits.generation generation_stands,
        u64_at-stands header.owner fits.owner owner_stands,
        level,
      ) refl;
      count_is = u32_at-stands count small count_stands;
      level_is = level;
      empty = rw (is_zero-stands 16 fsid_stands, is_zero-stands 24 flags_stand) refl;
    }

-- ---- items

item_again : (bytes : List ℕ) (place begin end low : ℕ) (item : Item) → end < 2 ^ 32 → 101 ≤ low → low ≤ begin
    → IsKey item.key
    → Stands bytes place (place + 25) (item_header (end - 101) item) → Stands bytes begin end item.body
    → item_at place end low bytes ≡ Ok (item, begin)
unfolding item_at u32_bytes u64_bytes
item_again bytes place begin end low item small low_above above fits header body =
    let size = length item.body in
    let key = key_bytes item.key in
    let offset = u32_bytes (end - 101 - size) in
    let to_offset = Stands-first (place + 21) (key ++ offset) (u32_bytes size) refl header in
    let size_stands = Stands-second (place + 21) (key ++ offset) (u32_bytes size) refl header in
    let key_stands = Stands-first (place + 17) key offset refl to_offset in
    let offset_stands = Stands-second (place + 17) key offset refl to_offset in
    let size_is : u32_at (place + 21) bytes ≡ size = u32_at-stands size (omega (arith, body.long)) size_stands in
    let offset_is : u32_at (place + 17) bytes ≡ end - 101 - size =
    u32_at-stands (end - 101 - size) (omega arith) offset_stands in
    let begins : end - size ≡ begin = omega (arith, body.long) in
    let room : nat_le (low + size) end ≡ true = le-leb (low + size) end (omega (arith, body.long)) in
    let placed : ((101 + (end - 101 - size)) + size == end) ≡ true = eq-eqb _ _ (omega (arith, body.long)) in
    rw (size_is, offset_is, room, placed, begins, key_at-stands item.key fits key_stands, slice_range-stands body) refl

items_again : (items : List Item) (bytes : List ℕ) (place begin end low : ℕ) → end < 2 ^ 32 → 101 ≤ low → low ≤ begin
    → All ItemFits items
    → Stands bytes place (place + 25 * length items) (item_headers (end - 101) items)
    → Stands bytes begin end (bodies items)
    → items_at (length items) place end low bytes ≡ Ok (items, begin)
unfolding items_at item_headers bodies
items_again [] bytes place begin end low small low_above above fit headers stand =
    let same : end ≡ begin = omega (arith, stand.long) in
    rw same refl
items_again (item ∷ items) bytes place begin end low small low_above above fit headers stand =
    let mid : ℕ = begin + length (bodies items) in
    let rest : List ℕ = item_headers (end - 101 - length item.body) items in
    let others_stand : Stands bytes begin mid (bodies items) = Stands-first mid (bodies items) item.body refl stand in
    let body_stands : Stands bytes mid end item.body = Stands-second mid (bodies items) item.body refl stand in
    let header_stands = Stands-first (place + 25) (item_header (end - 101) item) rest
    (ap (λ (n : ℕ). place + n) (length-item_header (end - 101) item)) headers in
    let rest_stands = Stands-second (place + 25) (item_header (end - 101) item) rest
    (ap (λ (n : ℕ). place + n) (length-item_header (end - 101) item)) headers in
    let first = item_again bytes place mid end low item small low_above (omega arith)
    (All-head ItemFits item items fit).key header_stands body_stands in
    let next : end - 101 - length item.body ≡ mid - 101 = omega (arith, body_stands.long) in
    let to : place + 25 * suc (length items) ≡ place + 25 + 25 * length items = omega arith in
    let others_headers : Stands bytes (place + 25) (place + 25 + 25 * length items) (item_headers (mid - 101) items) =
    subst (λ (n : ℕ). Stands bytes (place + 25) n (item_headers (mid - 101) items)) to
    (subst (λ (n : ℕ). Stands bytes (place + 25) (place + 25 * suc (length items)) (item_headers n items)) next
    rest_stands) in
    let others = items_again items bytes (place + 25) begin mid low (omega (arith, body_stands.long)) low_above above
    (All-tail ItemFits item items fit) others_headers others_stand in
    rw (first, others) refl

-- ---- pointers

pointer_again : (bytes : List ℕ) (place : ℕ) (pointer : Pointer) → PointerFits pointer
    → Stands bytes place (place + 33) (pointer_text pointer) → pointer_at place bytes ≡ pointer
unfolding pointer_at pointer_text u64_bytes
pointer_again bytes place pointer fits stands =
    let key = key_bytes pointer.key in
    let child = u64_bytes pointer.child in
    let to_child = Stands-first (place + 25) (key ++ child) (u64_bytes pointer.generation) refl stands in
    let generation_stands = Stands-second (place + 25) (key ++ child) (u64_bytes pointer.generation) refl stands in
    let key_stands = Stands-first (place + 17) key child refl to_child in
    let child_stands = Stands-second (place + 17) key child refl to_child in
    rw (
      key_at-stands pointer.key fits.key key_stands,
      u64_at-stands pointer.child fits.child child_stands,
      u64_at-stands pointer.generation fits.generation generation_stands,
    ) refl

pub pointers_again : (pointers : List Pointer) (bytes : List ℕ) (place end : ℕ) → All PointerFits pointers
    → Stands bytes place end (flat_map pointer_text pointers) → pointers_at (length pointers) place bytes ≡ pointers
unfolding pointers_at
pointers_again [] bytes place end fit stand = refl
pointers_again (pointer ∷ pointers) bytes place end fit stand =
    let cut = rw flat_map-cons at stand in
    let first = Stands-first (place + 33) (pointer_text pointer) (flat_map pointer_text pointers)
    (ap (λ (n : ℕ). place + n) (length-pointer_text pointer)) cut in
    let rest = Stands-second (place + 33) (pointer_text pointer) (flat_map pointer_text pointers)
    (ap (λ (n : ℕ). place + n) (length-pointer_text pointer)) cut in
    rw (
      pointer_again bytes place pointer (All-head PointerFits pointer pointers fit) first,
      pointers_again pointers
          bytes (place + 33) end (All-tail PointerFits pointer pointers fit) rest,
    ) refl

-- ---- nodes

-- a node is read behind its checksum
pub record IsRead (bytes : List ℕ) (node : Node) : Type 0 where
  pub header_is : header_at bytes ≡ header_of node
  pub level_is : slice_index bytes 100 ≡ (header_of node).level
  pub below_top : slice_index bytes 100 ≤ 7
  pub counted : ((slice_index bytes 100 == 0) || not (count_at bytes == 0)) ≡ true
  pub read : cond (slice_index bytes 100 == 0) (leaf_at bytes) (inner_at bytes) ≡ Ok node

leaf_again : (bytes : List ℕ) (header : Header) (items : List Item) → length bytes < 2 ^ 32
    → NodeFits (Leaf header items) → IsNode (length bytes) (Leaf header items)
    → Stands bytes 32 (length bytes) (covered_text (length bytes) (Leaf header items))
    → IsRead bytes (Leaf header items)
unfolding leaf_at covered_text leaf_text
leaf_again bytes header items small fits sound stands =
    let size = length bytes in
    let count = length items in
    let low : ℕ = 101 + 25 * count in
    let gap : ℕ = size - 101 - items_bytes items in
    let begin : ℕ = low + gap in
    let parts = items_bytes-parts items in
    let headers = item_headers (size - 101) items in
    let first = Stands-first 101 (header_text header count) (leaf_text (size - 101) items)
    (ap (λ (n : ℕ). 32 + n) (length-header_text header count)) stands in
    let rest : Stands bytes 101 size (headers ++ (zeros gap ++ bodies items)) =
    Stands-second 101 (header_text header count) (leaf_text (size - 101) items)
    (ap (λ (n : ℕ). 32 + n) (length-header_text header count)) stands in
    let head = header_again bytes header count fits.0 (omega (arith, parts, sound.fits)) first in
    let headers_stand = Stands-first low headers (zeros gap ++ bodies items)
    (ap (λ (n : ℕ). 101 + n) (length-item_headers (size - 101) items)) rest in
    let behind = Stands-second low headers (zeros gap ++ bodies items)
    (ap (λ (n : ℕ). 101 + n) (length-item_headers (size - 101) items)) rest in
    let gap_stands = Stands-first begin (zeros gap) (bodies items)
    (ap (λ (n : ℕ). low + n) (length-replicate {A = ℕ} gap 0)) behind in
    let bodies_stand = Stands-second begin (zeros gap) (bodies items)
    (ap (λ (n : ℕ). low + n) (length-replicate {A = ℕ} gap 0)) behind in
    let within : nat_le low size ≡ true = le-leb low size (omega (arith, parts, sound.fits)) in
    let items_are = items_again items bytes 101 begin size low small (omega arith) (omega arith) fits.1 headers_stand
    bodies_stand in
    let level : slice_index bytes 100 ≡ 0 = head.level_is ∙ sound.levelled in
    let is_leaf : (slice_index bytes 100 == 0) ≡ true = eq-eqb _ _ level in
    let read : leaf_at bytes ≡ Ok (Leaf header items) =
    rw (
      head.count_is,
      within,
      items_are,
      sound.ascending,
      head.empty,
      is_zero-stands gap gap_stands,
      head.header_is,
    ) refl in
    record {
      header_is = head.header_is;
      level_is = head.level_is;
      below_top = omega arith;
      counted = rw is_leaf refl;
      read = rw is_leaf read;
    }

inner_again : (bytes : List ℕ) (header : Header) (pointers : List Pointer) → length bytes < 2 ^ 32
    → NodeFits (Inner header pointers) → IsNode (length bytes) (Inner header pointers)
    → Stands bytes 32 (length bytes) (covered_text (length bytes) (Inner header pointers))
    → IsRead bytes (Inner header pointers)
unfolding inner_at covered_text inner_text
inner_again bytes header pointers small fits sound stands =
    let size = length bytes in
    let count = length pointers in
    let end : ℕ = 101 + 33 * count in
    let gap : ℕ = size - 101 - 33 * count in
    let texts = flat_map pointer_text pointers in
    let first = Stands-first 101 (header_text header count) (inner_text (size - 101) pointers)
    (ap (λ (n : ℕ). 32 + n) (length-header_text header count)) stands in
    let rest : Stands bytes 101 size (texts ++ zeros gap) =
    Stands-second 101 (header_text header count) (inner_text (size - 101) pointers)
    (ap (λ (n : ℕ). 32 + n) (length-header_text header count)) stands in
    let head = header_again bytes header count fits.0 (omega (arith, sound.fits)) first in
    let pointers_stand = Stands-first end texts (zeros gap) (ap (λ (n : ℕ). 101 + n) (length-pointer_texts pointers))
    rest in
    let gap_stands = Stands-second end texts (zeros gap) (ap (λ (n : ℕ). 101 + n) (length-pointer_texts pointers))
    rest in
    let within : nat_le end size ≡ true = le-leb end size (omega (arith, sound.fits)) in
    let pointers_are = pointers_again pointers bytes 101 end fits.1 pointers_stand in
    let not_leaf : (slice_index bytes 100 == 0) ≡ false =
    ne_eqb (slice_index bytes 100) 0 (λ zero_level. absurd (omega (arith, head.level_is, sound.levelled))) in
    let some : (count_at bytes == 0) ≡ false =
    ne_eqb (count_at bytes) 0 (λ none. absurd (omega (arith, head.count_is, sound.levelled))) in
    let read : inner_at bytes ≡ Ok (Inner header pointers) =
    rw (
      head.count_is,
      pointers_are,
      within,
      sound.ascending,
      head.empty,
      is_zero-stands gap gap_stands,
      head.header_is,
    ) refl in
    record {
      header_is = head.header_is;
      level_is = head.level_is;
      below_top = omega (arith, head.level_is, sound.levelled);
      counted = rw (not_leaf, some) refl;
      read = rw not_leaf read;
    }

covered_again : (bytes : List ℕ) (node : Node) → length bytes < 2 ^ 32 → NodeFits node → IsNode (length bytes) node
    → Stands bytes 32 (length bytes) (covered_text (length bytes) node) → IsRead bytes node
covered_again bytes (Leaf header items) small fits sound stands = leaf_again bytes header items small fits sound stands
covered_again bytes (Inner header pointers) small fits sound stands =
    inner_again bytes header pointers small fits sound stands

-- what is read where a node's text is
pub record IsAgain (at : ℕ) (bytes : List ℕ) (node : Node) : Type 0 where
  pub read : node_read at bytes ≡ Ok node
  pub placed : u64_at 48 bytes ≡ at

pub node_again : (at : ℕ) (bytes : List ℕ) (node : Node) → length bytes < 2 ^ 32 → NodeFits node
    → IsNodeText bytes at node → IsAgain at bytes node
unfolding node_read node_text header_at has_checksum u32_bytes
node_again at bytes node small fits is =
    let size = length bytes in
    let covered = covered_text size node in
    let field = u32_bytes (crc32c_of covered) in
    let whole : Stands bytes 0 size ((field ++ zeros 28) ++ covered) =
    subst (λ (text : List ℕ). Stands bytes 0 size text) is.text (whole_stands bytes size refl) in
    let front = Stands-first 32 (field ++ zeros 28) covered refl whole in
    let rest = Stands-second 32 (field ++ zeros 28) covered refl whole in
    let field_stands = Stands-first 4 field (zeros 28) refl front in
    let zeros_stand = Stands-second 4 field (zeros 28) refl front in
    let read = covered_again bytes node small fits is.sound rest in
    let dropped : drop 32 bytes ≡ covered = rest.is
    ∙ ap (λ (behind : List ℕ). covered ++ behind) (drop_all size bytes (omega arith)) ∙ append-nil covered in
    let sums : (u32_at 0 bytes == crc32c_of (drop 32 bytes)) ≡ true =
    eq-eqb _ _ (u32_at-stands (crc32c_of covered) (crc32c_of-lt covered (IsBytes-covered_text size node fits))
    field_stands ∙ ap crc32c_of (sym dropped)) in
    let checksum : has_checksum bytes ≡ true = rw (is_zero-stands 28 zeros_stand, sums) refl in
    let address : u64_at 48 bytes ≡ at = ap (λ (header : Header). header.address) read.header_is ∙ is.placed in
    let placed : (u64_at 48 bytes == at) ≡ true = eq-eqb _ _ address in
    let below_top : nat_le (slice_index bytes 100) 7 ≡ true = le-leb _ _ read.below_top in
    record { read = rw (checksum, placed, below_top, read.counted, read.read) refl; placed = address }

pub text_again : (size : ℕ) (node : Node) → size < 2 ^ 32 → NodeFits node → IsNode size node
    → node_read (header_of node).address (node_text size node) ≡ Ok node
text_again size node small fits sound =
    let long = length-node_text size node sound.fits in
    let is : IsNodeText (node_text size node) (header_of node).address node =
    record {
      text = ap (λ (n : ℕ). node_text n node) (sym long);
      placed = refl;
      sound = subst (λ (n : ℕ). IsNode n node) (sym long) sound;
    } in
    (node_again (header_of node).address (node_text size node) node (omega (arith, long)) fits is).read

pub one_again : (at at' : ℕ) (bytes : List ℕ) (node node' : Node) → length bytes < 2 ^ 32 → NodeFits node
    → NodeFits node' → IsNodeText bytes at node → IsNodeText bytes at' node' → node ≡ node'
one_again at at' bytes node node' small fits fits' is is' =
    let first = node_again at bytes node small fits is in
    let second = node_again at' bytes node' small fits' is' in
    let same : at' ≡ at = sym second.placed ∙ first.placed in
    ok_is node node' (sym first.read ∙ ap (λ (place : ℕ). node_read place bytes) (sym same) ∙ second.read) where
      ok_is : (x y : Node) → ◌≡◌ {A = Result Node NodeFault} (Ok x) (Ok y) → x ≡ y
      ok_is x y e = cc
