-- What is read stands there: the bytes are the text of the node that was read.
use Rattle.std.proofs.Common.{◌≡◌, ◌≢◌, ℕ, zero, suc, ◌+◌, ◌-◌, ◌*◌, ◌≤◌, Bool, true, false, cond, List, [], ◌∷◌, ◌++◌}
use Rattle.std.proofs.Common.{length, drop, map, Result, Ok, Err, refl, ap, subst, ◌∙◌, arith}
use Rattle.std.specs.Prelude.{All, slice_index, slice_range, ◌&&◌, ◌||◌, not, ◌==◌, nat_le}
use Rattle.std.specs.List.{flat_map}
use Rattle.std.proofs.lemmas.Bool.{and_parts, eqb-false, eqb-true, leb-true}
use Rattle.std.proofs.lemmas.List.{append-nil, drop_all}
use Rattle.std.proofs.lemmas.List.Concat.{flat_map-cons}
use Rattle.std.proofs.lemmas.List.Elements.{All-cons, All-nil}
use Rattle.qg_num.specs.Fields.{IsBytes, u32_at, u32_bytes, u64_at, is_zero, zeros}
use Rattle.qg_num.proofs.Numbers.{IsBytes-drop, IsBytes-take, u64_at-lt}
use Rattle.qg_num.proofs.Standing.{Stands, Stands-then, Stands-whole, byte_stands, slice_stands, u32_stands, u64_stands}
use Rattle.qg_num.proofs.Standing.{zeros_stand}
use Rattle.qg_crc32c.specs.Crc32c.{crc32c_of}
use Rattle.qg_num.specs.Key.{key_at}
use Rattle.qg_num.proofs.KeyBytes.{IsKey-key_at, key_stands}
use Rattle.qg_node.specs.declared.item.Item.{Item}
use Rattle.qg_node.specs.declared.pointer.Pointer.{Pointer}
use Rattle.qg_node.specs.declared.node.Header.{Header}
use Rattle.qg_node.specs.declared.node.Node.{Node}
use Rattle.qg_node.specs.declared.node.Node.TheVariants.{Leaf, Inner}
use Rattle.qg_node.specs.declared.fault.NodeFault.{NodeFault}
use Rattle.qg_node.specs.declared.fault.NodeFault.TheVariants.{Csum, Place, Level, Empty, Bounds, Order, Slack}
use Rattle.qg_node.specs.Fits.{HeaderFits, ItemFits, NodeFits, PointerFits}
use Rattle.qg_node.specs.Nodes.{header_of, is_ascending, items_bytes}
use Rattle.qg_node.specs.NodeText.{IsNode, IsNodeText, bodies, covered_text, header_text, inner_text, item_header}
use Rattle.qg_node.specs.NodeText.{item_headers, leaf_text, node_text, pointer_text}
use Rattle.qg_node.specs.Reading.{◌>>=◌, check, count_at, has_checksum, has_empty_fields, header_at, inner_at, item_at}
use Rattle.qg_node.specs.Reading.{items_at, leaf_at, node_read, pointer_at, pointers_at}
use Rattle.qg_node.proofs.Texts.{items_bytes-parts}

-- ---- readings that did not fail

check-ok : {A : Type 0} (holds : Bool) (fault : NodeFault) (read : Result A NodeFault) (x : A)
    → check holds fault read ≡ Ok x → (holds ≡ true) × (read ≡ Ok x)
check-ok true fault read x is = (refl, is)
check-ok false fault read x is = absurd cc

then-ok : {A B : Type 0} (read : Result A NodeFault) (f : A → Result B NodeFault) (y : B) → (read >>= f) ≡ Ok y
    → (x : A) × (read ≡ Ok x) × (f x ≡ Ok y)
then-ok (Ok x) f y is = (x, refl, is)
then-ok (Err fault) f y is = absurd cc

ok_is : {A : Type 0} (x y : A) → ◌≡◌ {A = Result A NodeFault} (Ok x) (Ok y) → x ≡ y
ok_is x y is = cc

-- ---- the same place by another name

up_to : {bytes text : List ℕ} {a b : ℕ} (c : ℕ) → b ≡ c → Stands bytes a b text → Stands bytes a c text
up_to {bytes = bytes} {text = text} {a = a} c same stands = subst (λ (n : ℕ). Stands bytes a n text) same stands

-- ---- the header

header_fits : (bytes : List ℕ) → IsBytes bytes → HeaderFits (header_at bytes)
unfolding header_at
header_fits bytes are = record {
  address = u64_at-lt 48 bytes are;
  generation = u64_at-lt 80 bytes are;
  owner = u64_at-lt 88 bytes are;
  level = are 100;
}

header_stands : (bytes : List ℕ) → IsBytes bytes → 101 ≤ length bytes → has_empty_fields bytes ≡ true
    → Stands bytes 32 101 (header_text (header_at bytes) (count_at bytes))
unfolding header_text header_at has_empty_fields
header_stands bytes are long empty =
    let both = and_parts (is_zero 32 48 bytes) (is_zero 56 80 bytes) empty in
    let fsid = zeros_stand bytes 32 48 (omega arith) (omega arith) both.0 in
    let flags = zeros_stand bytes 56 80 (omega arith) (omega arith) both.1 in
    let address = Stands-then fsid (u64_stands bytes 48 are (omega arith)) in
    let generation = Stands-then (Stands-then address flags) (u64_stands bytes 80 are (omega arith)) in
    let owner = Stands-then generation (u64_stands bytes 88 are (omega arith)) in
    let count = Stands-then owner (u32_stands bytes 96 are (omega arith)) in
    Stands-then count (byte_stands bytes 100 (omega arith))

-- ---- items

-- an item's header stands at a place, and its body from one place to another
pub record HasItem (bytes : List ℕ) (place end low : ℕ) (item : Item) (begin : ℕ) : Type 0 where
  pub header : Stands bytes place (place + 25) (item_header (end - 101) item)
  pub body : Stands bytes begin end item.body
  pub above : low ≤ begin
  pub fits : ItemFits item

item_found : (bytes : List ℕ) (place end low : ℕ) (item : Item) (begin : ℕ) → IsBytes bytes → place + 25 ≤ length bytes
    → end ≤ length bytes → item_at place end low bytes ≡ Ok (item, begin)
    → HasItem bytes place end low item begin
unfolding item_at
item_found bytes place end low item begin are within within_end is =
    let size = u32_at (place + 21) bytes in
    let offset = u32_at (place + 17) bytes in
    let body = slice_range bytes (end - size) end in
    let read : Item × ℕ = (record { key = key_at place bytes; body = body }, end - size) in
    let first = check-ok (nat_le (low + size) end) Bounds (check ((101 + offset) + size == end) Bounds (Ok read))
    (item, begin) is in
    let second = check-ok ((101 + offset) + size == end) Bounds (Ok read) (item, begin) first.1 in
    let room : low + size ≤ end = leb-true _ _ first.0 in
    let placed : (101 + offset) + size ≡ end = eqb-true _ _ second.0 in
    let body_stands : Stands bytes (end - size) end body =
    slice_stands bytes (end - size) end (omega arith) within_end in
    let long : length body ≡ size = omega (arith, body_stands.long) in
    let begins : offset ≡ end - 101 - size = omega arith in
    let key = key_stands bytes place are (omega arith) in
    let offset_stands : Stands bytes (place + 17) (place + 21) (u32_bytes (end - 101 - length body)) =
    rw (long, ← begins) (up_to (place + 21) (omega arith) (u32_stands bytes (place + 17) are (omega arith))) in
    let size_stands : Stands bytes (place + 21) (place + 25) (u32_bytes (length body)) =
    rw long (up_to (place + 25) (omega arith) (u32_stands bytes (place + 21) are (omega arith))) in
    let bytes_are : IsBytes body = IsBytes-take (end - (end - size)) (drop (end - size) bytes)
    (IsBytes-drop (end - size) bytes are) in
    let found : HasItem bytes place end low read.0 read.1 = record {
      header = Stands-then (Stands-then key offset_stands) size_stands;
      body = body_stands;
      above = omega arith;
      fits = record { key = IsKey-key_at bytes place are; body = bytes_are };
    } in
    subst (λ (x : Item × ℕ). HasItem bytes place end low x.0 x.1) (ok_is read (item, begin) second.1) found

-- so many headers stand from a place on, and the bodies from one place to another
pub record HasItems (bytes : List ℕ) (count place end low : ℕ) (items : List Item) (begin : ℕ) : Type 0 where
  pub headers : Stands bytes place (place + 25 * count) (item_headers (end - 101) items)
  pub bodies : Stands bytes begin end (bodies items)
  pub above : low ≤ begin
  pub counted : length items ≡ count
  pub fit : All ItemFits items

nothing_stands : (bytes : List ℕ) (a b : ℕ) → a ≡ b → Stands bytes a b []
nothing_stands bytes a b same = record { is = ap (λ (n : ℕ). drop n bytes) same; long = omega arith }

items_found : (count : ℕ) (bytes : List ℕ) (place end low : ℕ) (items : List Item) (begin : ℕ) → IsBytes bytes
    → place + 25 * count ≤ length bytes → end ≤ length bytes → low ≤ end
    → items_at count place end low bytes ≡ Ok (items, begin) → HasItems bytes count place end low items begin
unfolding items_at item_headers bodies
items_found zero bytes place end low items begin are within within_end above is =
    subst (λ (x : List Item × ℕ). HasItems bytes 0 place end low x.0 x.1) (ok_is ([], end) (items, begin) is)
    (record {
      headers = nothing_stands bytes place (place + 25 * 0) (omega arith);
      bodies = nothing_stands bytes end end refl;
      above = above;
      counted = refl;
      fit = All-nil ItemFits;
    })
items_found (suc count) bytes place end low items begin are within within_end above is =
    let one = then-ok (item_at place end low bytes)
    (λ first. items_at count (place + 25) first.1 low bytes >>= λ others. Ok (first.0 ∷ others.0, others.1))
    (items, begin) is in
    let first = one.0.0 in
    let mid = one.0.1 in
    let rest = then-ok (items_at count (place + 25) mid low bytes) (λ others. Ok (first ∷ others.0, others.1))
    (items, begin) one.2 in
    let others = rest.0.0 in
    let has_first = item_found bytes place end low first mid are (omega arith) within_end one.1 in
    let has_others = items_found count bytes (place + 25) mid low others rest.0.1 are (omega arith)
    (omega (arith, has_first.body.long)) has_first.above rest.1 in
    let next : mid - 101 ≡ end - 101 - length first.body = omega (arith, has_first.body.long) in
    let headers : Stands bytes (place + 25) (place + 25 * suc count)
    (item_headers (end - 101 - length first.body) others) =
    up_to (place + 25 * suc count) (omega arith)
    (subst (λ (n : ℕ). Stands bytes (place + 25) (place + 25 + 25 * count) (item_headers n others)) next
    has_others.headers) in
    let found : HasItems bytes (suc count) place end low (first ∷ others) rest.0.1 = record {
      headers = Stands-then has_first.header headers;
      bodies = Stands-then has_others.bodies has_first.body;
      above = has_others.above;
      counted = ap suc has_others.counted;
      fit = All-cons ItemFits first others has_first.fits has_others.fit;
    } in
    subst (λ (x : List Item × ℕ). HasItems bytes (suc count) place end low x.0 x.1)
    (ok_is (first ∷ others, rest.0.1) (items, begin) rest.2) found

-- ---- what stands behind the checksum

-- a node whose header stands in the bytes, and what its checksum covers
pub record IsCovered (bytes : List ℕ) (node : Node) : Type 0 where
  pub covered : Stands bytes 32 (length bytes) (covered_text (length bytes) node)
  pub header : header_of node ≡ header_at bytes
  pub sound : IsNode (length bytes) node
  pub fits : NodeFits node

leaf_found : (bytes : List ℕ) (node : Node) → IsBytes bytes → 101 ≤ length bytes → slice_index bytes 100 ≡ 0
    → leaf_at bytes ≡ Ok node → IsCovered bytes node
unfolding leaf_at covered_text leaf_text header_at
leaf_found bytes node are long level is =
    let count = count_at bytes in
    let low = 101 + 25 * count in
    let size = length bytes in
    let keys = λ (xs : List Item). map (λ (item : Item). item.key) xs in
    let behind = λ (read : List Item × ℕ). check (is_ascending (keys read.0)) Order
    (check (has_empty_fields bytes && is_zero low read.1 bytes) Slack (Ok (Leaf (header_at bytes) read.0))) in
    let first = check-ok (nat_le low size) Bounds (items_at count 101 size low bytes >>= behind) node is in
    let within : low ≤ size = leb-true _ _ first.0 in
    let read = then-ok (items_at count 101 size low bytes) behind node first.1 in
    let items = read.0.0 in
    let begin = read.0.1 in
    let second = check-ok (is_ascending (keys items)) Order
    (check (has_empty_fields bytes && is_zero low begin bytes) Slack (Ok (Leaf (header_at bytes) items))) node
    read.2 in
    let third = check-ok (has_empty_fields bytes && is_zero low begin bytes) Slack (Ok (Leaf (header_at bytes) items))
    node second.1 in
    let slack = and_parts (has_empty_fields bytes) (is_zero low begin bytes) third.0 in
    let has = items_found count bytes 101 size low items begin are within (omega arith) within read.1 in
    let parts = items_bytes-parts items in
    let gap_long : begin - low ≡ size - 101 - items_bytes items =
    omega (arith, has.bodies.long, has.counted, has.above) in
    let gap : Stands bytes low begin (zeros (size - 101 - items_bytes items)) =
    subst (λ (n : ℕ). Stands bytes low begin (zeros n)) gap_long
    (zeros_stand bytes low begin has.above (omega (arith, has.bodies.long)) slack.1) in
    let head : Stands bytes 32 101 (header_text (header_at bytes) (length items)) =
    rw has.counted (header_stands bytes are long slack.0) in
    let found : IsCovered bytes (Leaf (header_at bytes) items) = record {
      covered = Stands-then head (Stands-then has.headers (Stands-then gap has.bodies));
      header = refl;
      sound = record {
        levelled = level;
        ascending = second.0;
        fits = omega (arith, has.bodies.long, has.counted, has.above);
      };
      fits = (header_fits bytes are, has.fit);
    } in
    subst (λ (x : Node). IsCovered bytes x) (ok_is (Leaf (header_at bytes) items) node third.1) found

-- ---- inner nodes

pointer_found : (bytes : List ℕ) (place : ℕ) → IsBytes bytes → place + 33 ≤ length bytes
    → Stands bytes place (place + 33) (pointer_text (pointer_at place bytes))
unfolding pointer_text pointer_at
pointer_found bytes place are within =
    let child = up_to (place + 25) (omega arith) (u64_stands bytes (place + 17) are (omega arith)) in
    let generation = up_to (place + 33) (omega arith) (u64_stands bytes (place + 25) are (omega arith)) in
    Stands-then (Stands-then (key_stands bytes place are (omega arith)) child) generation

pointers_found : (count : ℕ) (bytes : List ℕ) (place : ℕ) → IsBytes bytes → place + 33 * count ≤ length bytes
    → Stands bytes place (place + 33 * count) (flat_map pointer_text (pointers_at count place bytes))
unfolding pointers_at
pointers_found zero bytes place are within = nothing_stands bytes place (place + 33 * 0) (omega arith)
pointers_found (suc count) bytes place are within =
    let others = up_to (place + 33 * suc count) (omega arith)
    (pointers_found count bytes (place + 33) are (omega arith)) in
    rw (flat_map-cons pointer_text (pointer_at place bytes) (pointers_at count (place + 33) bytes))
    (Stands-then (pointer_found bytes place are (omega arith)) others)

pointers_fit : (count : ℕ) (bytes : List ℕ) (place : ℕ) → IsBytes bytes
    → All PointerFits (pointers_at count place bytes)
unfolding pointers_at pointer_at
pointers_fit zero bytes place are = All-nil PointerFits
pointers_fit (suc count) bytes place are =
    All-cons PointerFits (pointer_at place bytes) (pointers_at count (place + 33) bytes)
    (record {
      key = IsKey-key_at bytes place are;
      child = u64_at-lt (place + 17) bytes are;
      generation = u64_at-lt (place + 25) bytes are;
    })
    (pointers_fit count bytes (place + 33) are)

length-pointers_at : (count place : ℕ) (bytes : List ℕ) → length (pointers_at count place bytes) ≡ count
unfolding pointers_at
length-pointers_at zero place bytes = refl
length-pointers_at (suc count) place bytes = ap suc (length-pointers_at count (place + 33) bytes)

inner_found : (bytes : List ℕ) (node : Node) → IsBytes bytes → 101 ≤ length bytes → slice_index bytes 100 ≢ 0
    → slice_index bytes 100 ≤ 7 → count_at bytes ≢ 0 → inner_at bytes ≡ Ok node
    → IsCovered bytes node
unfolding inner_at covered_text inner_text header_at
inner_found bytes node are long above_leaves below_top some is =
    let count = count_at bytes in
    let end = 101 + 33 * count in
    let size = length bytes in
    let pointers = pointers_at count 101 bytes in
    let keys = map (λ (pointer : Pointer). pointer.key) pointers in
    let read : Result Node NodeFault = Ok (Inner (header_at bytes) pointers) in
    let first = check-ok (nat_le end size) Bounds
    (check (is_ascending keys) Order (check (has_empty_fields bytes && is_zero end size bytes) Slack read)) node
    is in
    let second = check-ok (is_ascending keys) Order
    (check (has_empty_fields bytes && is_zero end size bytes) Slack read) node first.1 in
    let third = check-ok (has_empty_fields bytes && is_zero end size bytes) Slack read node second.1 in
    let within : end ≤ size = leb-true _ _ first.0 in
    let slack = and_parts (has_empty_fields bytes) (is_zero end size bytes) third.0 in
    let counted = length-pointers_at count 101 bytes in
    let gap_long : size - end ≡ size - 101 - 33 * length pointers = omega (arith, counted) in
    let gap : Stands bytes end size (zeros (size - 101 - 33 * length pointers)) =
    subst (λ (n : ℕ). Stands bytes end size (zeros n)) gap_long
    (zeros_stand bytes end size within (omega arith) slack.1) in
    let head : Stands bytes 32 101 (header_text (header_at bytes) (length pointers)) =
    rw counted (header_stands bytes are long slack.0) in
    let found : IsCovered bytes (Inner (header_at bytes) pointers) = record {
      covered = Stands-then head (Stands-then (pointers_found count bytes 101 are within) gap);
      header = refl;
      sound = record {
        levelled = (omega arith, below_top, omega (arith, counted));
        ascending = second.0;
        fits = omega (arith, counted);
      };
      fits = (header_fits bytes are, pointers_fit count bytes 101 are);
    } in
    subst (λ (x : Node). IsCovered bytes x) (ok_is (Inner (header_at bytes) pointers) node third.1) found

-- ---- nodes

by_level : (bytes : List ℕ) (node : Node) (leaf none : Bool) → IsBytes bytes → 101 ≤ length bytes
    → slice_index bytes 100 ≤ 7 → (slice_index bytes 100 == 0) ≡ leaf → (count_at bytes == 0) ≡ none
    → (leaf || not none) ≡ true
    → cond leaf (leaf_at bytes) (inner_at bytes) ≡ Ok node → IsCovered bytes node
by_level bytes node true none are long below_top is_leaf counted either is =
    leaf_found bytes node are long (eqb-true _ _ is_leaf) is
by_level bytes node false true are long below_top is_leaf counted either is = absurd cc
by_level bytes node false false are long below_top is_leaf counted either is =
    inner_found bytes node are long (eqb-false _ _ is_leaf) below_top (eqb-false _ _ counted) is

-- the bytes are the text of the node, and its numbers fit
pub record IsFound (at : ℕ) (bytes : List ℕ) (node : Node) : Type 0 where
  pub text : IsNodeText bytes at node
  pub fits : NodeFits node

pub node_found : (at : ℕ) (bytes : List ℕ) (node : Node) → IsBytes bytes → 101 ≤ length bytes
    → node_read at bytes ≡ Ok node → IsFound at bytes node
unfolding node_read node_text has_checksum header_at
node_found at bytes node are long is =
    let size = length bytes in
    let level = slice_index bytes 100 in
    let read : Result Node NodeFault = cond (level == 0) (leaf_at bytes) (inner_at bytes) in
    let counted = (level == 0) || not (count_at bytes == 0) in
    let first = check-ok (has_checksum bytes) Csum
    (check (u64_at 48 bytes == at) Place (check (nat_le level 7) Level (check counted Empty read))) node is in
    let second = check-ok (u64_at 48 bytes == at) Place (check (nat_le level 7) Level (check counted Empty read)) node
    first.1 in
    let third = check-ok (nat_le level 7) Level (check counted Empty read) node second.1 in
    let fourth = check-ok counted Empty read node third.1 in
    let sums = and_parts (is_zero 4 32 bytes) (u32_at 0 bytes == crc32c_of (drop 32 bytes)) first.0 in
    let has : IsCovered bytes node = by_level bytes node (level == 0) (count_at bytes == 0) are long
    (leb-true _ _ third.0) refl refl fourth.0 fourth.1 in
    let covered : drop 32 bytes ≡ covered_text size node =
    has.covered.is ∙ ap (λ (rest : List ℕ). covered_text size node ++ rest) (drop_all size bytes (omega arith))
    ∙ append-nil (covered_text size node) in
    let checksum : u32_at 0 bytes ≡ crc32c_of (covered_text size node) = eqb-true _ _ sums.1 ∙ ap crc32c_of covered in
    let field = rw checksum at (u32_stands bytes 0 are (omega arith)) in
    let front = Stands-then field (zeros_stand bytes 4 32 (omega arith) (omega arith) sums.0) in
    record {
      text = record {
        text = Stands-whole (Stands-then front has.covered) refl;
        placed = ap (λ (header : Header). header.address) has.header ∙ eqb-true _ _ second.0;
        sound = has.sound;
      };
      fits = has.fits;
    }
