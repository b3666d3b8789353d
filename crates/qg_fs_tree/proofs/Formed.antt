-- What is read is a node of a size, whatever numbers the bytes are.
use Rattle.std.proofs.Common.{◌≡◌, ◌≢◌, ℕ, zero, suc, ◌+◌, ◌-◌, ◌*◌, ◌≤◌, Bool, true, false, cond, List, [], ◌∷◌}
use Rattle.std.proofs.Common.{length, drop, map, Result, Ok, Err, refl, ap, subst, arith}
use Rattle.std.specs.Prelude.{slice_index, slice_range, ◌&&◌, ◌||◌, not, ◌==◌, nat_le}
use Rattle.std.proofs.lemmas.Bool.{eqb-false, eqb-true, leb-true}
use Rattle.std.proofs.lemmas.List.{length-take}
use Rattle.std.proofs.lemmas.List.Sums.{sum_by-cons}
use Rattle.qg_num.specs.Fields.{is_zero, u32_at, u64_at}
use Rattle.qg_num.specs.Key.{key_at}
use Rattle.qg_node.specs.declared.item.Item.{Item}
use Rattle.qg_node.specs.declared.pointer.Pointer.{Pointer}
use Rattle.qg_node.specs.declared.node.Node.{Node}
use Rattle.qg_node.specs.declared.node.Node.TheVariants.{Leaf, Inner}
use Rattle.qg_node.specs.declared.fault.NodeFault.{NodeFault}
use Rattle.qg_node.specs.declared.fault.NodeFault.TheVariants.{Csum, Place, Level, Empty, Bounds, Order, Slack}
use Rattle.qg_node.specs.Nodes.{is_ascending, item_bytes, items_bytes}
use Rattle.qg_node.specs.NodeText.{IsNode}
use Rattle.qg_node.specs.Reading.{◌>>=◌, check, count_at, has_checksum, has_empty_fields, header_at, inner_at, item_at}
use Rattle.qg_node.specs.Reading.{items_at, leaf_at, node_read, pointers_at}

-- ---- readings that did not fail

pub check-ok : {A : Type 0} (holds : Bool) (fault : NodeFault) (read : Result A NodeFault) (x : A)
    → check holds fault read ≡ Ok x → (holds ≡ true) × (read ≡ Ok x)
check-ok true fault read x is = (refl, is)
check-ok false fault read x is = absurd cc

then_ok : {A B : Type 0} (read : Result A NodeFault) (f : A → Result B NodeFault) (y : B) → (read >>= f) ≡ Ok y
    → (x : A) × (read ≡ Ok x) × (f x ≡ Ok y)
then_ok (Ok x) f y is = (x, refl, is)
then_ok (Err fault) f y is = absurd cc

ok_is : {A : Type 0} (x y : A) → ◌≡◌ {A = Result A NodeFault} (Ok x) (Ok y) → x ≡ y
ok_is x y is = cc

-- ---- items

-- a body lies between two places
pub record HasRoom (end low : ℕ) (item : Item) (begin : ℕ) : Type 0 where
  pub ends : begin + length item.body ≤ end
  pub above : low ≤ begin

item_room : (bytes : List ℕ) (place end low : ℕ) (item : Item) (begin : ℕ)
    → item_at place end low bytes ≡ Ok (item, begin) → HasRoom end low item begin
unfolding item_at
item_room bytes place end low item begin is =
    let size = u32_at (place + 21) bytes in
    let offset = u32_at (place + 17) bytes in
    let body = slice_range bytes (end - size) end in
    let read : Item × ℕ = (record { key = key_at place bytes; body = body }, end - size) in
    let first = check-ok (nat_le (low + size) end) Bounds (check ((101 + offset) + size == end) Bounds (Ok read))
    (item, begin) is in
    let second = check-ok ((101 + offset) + size == end) Bounds (Ok read) (item, begin) first.1 in
    let room : low + size ≤ end = leb-true (low + size) end first.0 in
    let long : length body ≤ end - (end - size) =
    omega (arith, length-take (end - (end - size)) (drop (end - size) bytes)) in
    let found : HasRoom end low read.0 read.1 = record { ends = omega arith; above = omega arith } in
    subst (λ (x : Item × ℕ). HasRoom end low x.0 x.1) (ok_is read (item, begin) second.1) found

-- so do those of some items, and with 25 bytes more for each they take no more
pub record HaveRoom (count end low : ℕ) (items : List Item) (begin : ℕ) : Type 0 where
  pub takes : items_bytes items + begin ≤ 25 * count + end
  pub above : low ≤ begin

items_room : (count : ℕ) (bytes : List ℕ) (place end low : ℕ) (items : List Item) (begin : ℕ) → low ≤ end
    → items_at count place end low bytes ≡ Ok (items, begin) → HaveRoom count end low items begin
unfolding items_at
items_room zero bytes place end low items begin above is =
    let none : List Item × ℕ = ([], end) in
    subst (λ (x : List Item × ℕ). HaveRoom 0 end low x.0 x.1) (ok_is none (items, begin) is)
    (record { takes = omega arith; above = above })
items_room (suc count) bytes place end low items begin above is =
    let one = then_ok (item_at place end low bytes)
    (λ first. items_at count (place + 25) first.1 low bytes >>= λ others. Ok (first.0 ∷ others.0, others.1))
    (items, begin) is in
    let first = one.0.0 in
    let mid = one.0.1 in
    let rest = then_ok (items_at count (place + 25) mid low bytes) (λ others. Ok (first ∷ others.0, others.1))
    (items, begin) one.2 in
    let others = rest.0.0 in
    let here = item_room bytes place end low first mid one.1 in
    let behind = items_room count bytes (place + 25) mid low others rest.0.1 here.above rest.1 in
    let whole = sum_by-cons item_bytes first others in
    let ends = here.ends in
    let takes = behind.takes in
    let found : HaveRoom (suc count) end low (first ∷ others) rest.0.1 =
    record { takes = omega (arith, whole, ends, takes); above = behind.above } in
    subst (λ (x : List Item × ℕ). HaveRoom (suc count) end low x.0 x.1)
    (ok_is (first ∷ others, rest.0.1) (items, begin) rest.2) found

-- ---- leaves

leaf_formed : (bytes : List ℕ) (node : Node) → slice_index bytes 100 ≡ 0 → leaf_at bytes ≡ Ok node
    → IsNode (length bytes) node
unfolding leaf_at header_at
leaf_formed bytes node level is =
    let count = count_at bytes in
    let low = 101 + 25 * count in
    let size = length bytes in
    let keys = λ (xs : List Item). map (λ (item : Item). item.key) xs in
    let slack = λ (read : List Item × ℕ). has_empty_fields bytes && is_zero low read.1 bytes in
    let last = λ (read : List Item × ℕ). check (slack read) Slack (Ok (Leaf (header_at bytes) read.0)) in
    let behind = λ (read : List Item × ℕ). check (is_ascending (keys read.0)) Order (last read) in
    let first = check-ok (nat_le low size) Bounds (items_at count 101 size low bytes >>= behind) node is in
    let within : low ≤ size = leb-true low size first.0 in
    let read = then_ok (items_at count 101 size low bytes) behind node first.1 in
    let items = read.0.0 in
    let second = check-ok (is_ascending (keys items)) Order (last read.0) node read.2 in
    let third = check-ok (slack read.0) Slack (Ok (Leaf (header_at bytes) items)) node second.1 in
    let room = items_room count bytes 101 size low items read.0.1 within read.1 in
    let takes = room.takes in
    let above = room.above in
    let found : IsNode size (Leaf (header_at bytes) items) =
    record { levelled = level; ascending = second.0; fits = omega (arith, takes, above) } in
    subst (λ (x : Node). IsNode size x) (ok_is (Leaf (header_at bytes) items) node third.1) found

-- ---- inner nodes

length_pointers : (count place : ℕ) (bytes : List ℕ) → length (pointers_at count place bytes) ≡ count
unfolding pointers_at
length_pointers zero place bytes = refl
length_pointers (suc count) place bytes = ap suc (length_pointers count (place + 33) bytes)

inner_formed : (bytes : List ℕ) (node : Node) → slice_index bytes 100 ≢ 0 → slice_index bytes 100 ≤ 7
    → count_at bytes ≢ 0 → inner_at bytes ≡ Ok node → IsNode (length bytes) node
unfolding inner_at header_at
inner_formed bytes node above_leaves below_top some is =
    let count = count_at bytes in
    let end = 101 + 33 * count in
    let size = length bytes in
    let pointers = pointers_at count 101 bytes in
    let keys = map (λ (pointer : Pointer). pointer.key) pointers in
    let slack = has_empty_fields bytes && is_zero end size bytes in
    let read : Result Node NodeFault = Ok (Inner (header_at bytes) pointers) in
    let first = check-ok (nat_le end size) Bounds (check (is_ascending keys) Order (check slack Slack read)) node is in
    let second = check-ok (is_ascending keys) Order (check slack Slack read) node first.1 in
    let third = check-ok slack Slack read node second.1 in
    let within : end ≤ size = leb-true end size first.0 in
    let counted = length_pointers count 101 bytes in
    let found : IsNode size (Inner (header_at bytes) pointers) = record {
      levelled = (omega arith, below_top, omega (arith, counted));
      ascending = second.0;
      fits = omega (arith, counted);
    } in
    subst (λ (x : Node). IsNode size x) (ok_is (Inner (header_at bytes) pointers) node third.1) found

-- ---- nodes

by_level : (bytes : List ℕ) (node : Node) (leaf none : Bool) → slice_index bytes 100 ≤ 7
    → (slice_index bytes 100 == 0) ≡ leaf → (count_at bytes == 0) ≡ none → (leaf || not none) ≡ true
    → cond leaf (leaf_at bytes) (inner_at bytes) ≡ Ok node → IsNode (length bytes) node
by_level bytes node true none below_top is_leaf counted either is =
    leaf_formed bytes node (eqb-true (slice_index bytes 100) 0 is_leaf) is
by_level bytes node false true below_top is_leaf counted either is = absurd cc
by_level bytes node false false below_top is_leaf counted either is =
    inner_formed bytes node (eqb-false (slice_index bytes 100) 0 is_leaf) below_top
    (eqb-false (count_at bytes) 0 counted) is

pub read-formed : (at : ℕ) (bytes : List ℕ) (node : Node) → node_read at bytes ≡ Ok node → IsNode (length bytes) node
unfolding node_read
read-formed at bytes node is =
    let level = slice_index bytes 100 in
    let read : Result Node NodeFault = cond (level == 0) (leaf_at bytes) (inner_at bytes) in
    let counted = (level == 0) || not (count_at bytes == 0) in
    let first = check-ok (has_checksum bytes) Csum (check (u64_at 48 bytes == at) Place
    (check (nat_le level 7) Level (check counted Empty read))) node is in
    let second = check-ok (u64_at 48 bytes == at) Place (check (nat_le level 7) Level (check counted Empty read)) node
    first.1 in
    let third = check-ok (nat_le level 7) Level (check counted Empty read) node second.1 in
    let last = check-ok counted Empty read node third.1 in
    by_level bytes node (level == 0) (count_at bytes == 0) (leb-true level 7 third.0) refl refl last.0 last.1
