-- A node that is found at an address lies there, and is a leaf exactly at level 0.
use Rattle.std.proofs.Common.{◌≡◌, ℕ, ◌+◌, ◌*◌, ◌≤◌, Bool, true, false, cond, List, length, map, Result, Ok, Err, refl}
use Rattle.std.proofs.Common.{subst, arith}
use Rattle.std.specs.Prelude.{slice_index, slice_range, ◌&&◌, ◌||◌, not, ◌==◌, nat_le}
use Rattle.std.proofs.lemmas.Bool.{eqb-false, eqb-true, leb-true}
use Rattle.qg_num.specs.Fields.{is_zero, u64_at}
use Rattle.qg_node.specs.declared.item.Item.{Item}
use Rattle.qg_node.specs.declared.pointer.Pointer.{Pointer}
use Rattle.qg_node.specs.declared.node.Node.{Node}
use Rattle.qg_node.specs.declared.node.Node.TheVariants.{Leaf, Inner}
use Rattle.qg_node.specs.declared.fault.NodeFault.{NodeFault}
use Rattle.qg_node.specs.declared.fault.NodeFault.TheVariants.{Csum, Place, Level, Empty, Bounds, Order, Slack}
use Rattle.qg_node.specs.Nodes.{header_of, is_ascending}
use Rattle.qg_node.specs.Reading.{◌>>=◌, check, count_at, has_checksum, has_empty_fields, header_at, inner_at, items_at}
use Rattle.qg_node.specs.Reading.{leaf_at, node_read, pointers_at}
use Rattle.qg_super.specs.declared.superblock.Super.{Super}
use Rattle.qg_super.specs.Places.{is_slot}
use Rattle.qg_super.specs.SuperText.{sizes_of}
use Rattle.qg_image.specs.Walk.{in_slot, node_found}

-- ---- readings that did not fail

check-ok : {A : Type 0} (holds : Bool) (fault : NodeFault) (read : Result A NodeFault) (x : A)
    → check holds fault read ≡ Ok x → (holds ≡ true) × (read ≡ Ok x)
check-ok true fault read x is = (refl, is)
check-ok false fault read x is = absurd cc

then_ok : {A B : Type 0} (read : Result A NodeFault) (f : A → Result B NodeFault) (y : B) → (read >>= f) ≡ Ok y
    → (x : A) × (read ≡ Ok x) × (f x ≡ Ok y)
then_ok (Ok x) f y is = (x, refl, is)
then_ok (Err fault) f y is = absurd cc

ok_is : {A : Type 0} (x y : A) → ◌≡◌ {A = Result A NodeFault} (Ok x) (Ok y) → x ≡ y
ok_is x y is = cc

-- ---- nodes

-- a leaf has level 0, any other node one from 1 to 7
abbrev pub HasLevel : Node → Type 0
HasLevel (Leaf header items) = header.level ≡ 0
HasLevel (Inner header pointers) = (1 ≤ header.level) × (header.level ≤ 7)

pub record IsThere (at : ℕ) (node : Node) : Type 0 where
  pub placed : (header_of node).address ≡ at
  pub levelled : HasLevel node

leaf_is : (bytes : List ℕ) (node : Node) → leaf_at bytes ≡ Ok node
    → (items : List Item) × (Leaf (header_at bytes) items ≡ node)
unfolding leaf_at
leaf_is bytes node is =
    let count = count_at bytes in
    let low = 101 + 25 * count in
    let size = length bytes in
    let keys = λ (xs : List Item). map (λ (item : Item). item.key) xs in
    let slack = λ (read : List Item × ℕ). has_empty_fields bytes && is_zero low read.1 bytes in
    let last = λ (read : List Item × ℕ). check (slack read) Slack (Ok (Leaf (header_at bytes) read.0)) in
    let behind = λ (read : List Item × ℕ). check (is_ascending (keys read.0)) Order (last read) in
    let first = check-ok (nat_le low size) Bounds (items_at count 101 size low bytes >>= behind) node is in
    let read = then_ok (items_at count 101 size low bytes) behind node first.1 in
    let items = read.0.0 in
    let second = check-ok (is_ascending (keys items)) Order (last read.0) node read.2 in
    let third = check-ok (slack read.0) Slack (Ok (Leaf (header_at bytes) items)) node second.1 in
    (items, ok_is (Leaf (header_at bytes) items) node third.1)

inner_is : (bytes : List ℕ) (node : Node) → inner_at bytes ≡ Ok node → (pointers : List Pointer)
    × (Inner (header_at bytes) pointers ≡ node)
unfolding inner_at
inner_is bytes node is =
    let end = 101 + 33 * count_at bytes in
    let size = length bytes in
    let pointers = pointers_at (count_at bytes) 101 bytes in
    let keys = map (λ (pointer : Pointer). pointer.key) pointers in
    let read : Result Node NodeFault = Ok (Inner (header_at bytes) pointers) in
    let first = check-ok (nat_le end size) Bounds
    (check (is_ascending keys) Order (check (has_empty_fields bytes && is_zero end size bytes) Slack read)) node
    is in
    let second = check-ok (is_ascending keys) Order
    (check (has_empty_fields bytes && is_zero end size bytes) Slack read) node first.1 in
    let third = check-ok (has_empty_fields bytes && is_zero end size bytes) Slack read node second.1 in
    (pointers, ok_is (Inner (header_at bytes) pointers) node third.1)

by_level : (at : ℕ) (bytes : List ℕ) (node : Node) (leaf : Bool) → (slice_index bytes 100 == 0) ≡ leaf
    → slice_index bytes 100 ≤ 7 → u64_at 48 bytes ≡ at
    → cond leaf (leaf_at bytes) (inner_at bytes) ≡ Ok node → IsThere at node
unfolding header_at
by_level at bytes node true level low place is =
    let leaf = leaf_is bytes node is in
    let there : IsThere at (Leaf (header_at bytes) leaf.0) =
    record { placed = place; levelled = eqb-true (slice_index bytes 100) 0 level } in
    subst (λ (n : Node). IsThere at n) leaf.1 there
by_level at bytes node false level low place is =
    let inner = inner_is bytes node is in
    let other = eqb-false (slice_index bytes 100) 0 level in
    let high : 1 ≤ slice_index bytes 100 = omega (arith, other) in
    let there : IsThere at (Inner (header_at bytes) inner.0) = record { placed = place; levelled = (high, low) } in
    subst (λ (n : Node). IsThere at n) inner.1 there

node_there : (at : ℕ) (bytes : List ℕ) (node : Node) → node_read at bytes ≡ Ok node → IsThere at node
unfolding node_read
node_there at bytes node is =
    let level = slice_index bytes 100 in
    let read : Result Node NodeFault = cond (level == 0) (leaf_at bytes) (inner_at bytes) in
    let counted = (level == 0) || not (count_at bytes == 0) in
    let first = check-ok (has_checksum bytes) Csum
    (check (u64_at 48 bytes == at) Place (check (nat_le level 7) Level (check counted Empty read))) node is in
    let second = check-ok (u64_at 48 bytes == at) Place (check (nat_le level 7) Level (check counted Empty read)) node
    first.1 in
    let third = check-ok (nat_le level 7) Level (check counted Empty read) node second.1 in
    let fourth = check-ok counted Empty read node third.1 in
    by_level at bytes node (level == 0) refl (leb-true level 7 third.0) (eqb-true (u64_at 48 bytes) at second.0)
    fourth.1

-- ---- what a walk finds

slot_ok : (slot : Bool) (at : ℕ) (read : Result Node NodeFault) (node : Node) → in_slot slot at read ≡ Ok node
    → read ≡ Ok node
slot_ok true at (Ok other) node is = let same : other ≡ node = cc in rw same refl
slot_ok true at (Err fault) node is = absurd cc
slot_ok false at read node is = absurd cc

pub found_there : (super : Super) (image : List ℕ) (at : ℕ) (node : Node) → node_found super image at ≡ Ok node
    → IsThere at node
unfolding node_found
found_there super image at node is =
    let bytes = slice_range image at (at + super.nodesize) in
    node_there at bytes node (slot_ok (is_slot (sizes_of super) at) at (node_read at bytes) node is)
