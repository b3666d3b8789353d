-- A node that is found at an address of an image.
use Rattle.std.proofs.Common.{◌≡◌, ℕ, ◌+◌, ◌*◌, ◌≤◌, Bool, true, false, cond, List, length, map, refl, sym, ap, subst}
use Rattle.std.proofs.Common.{◌∙◌}
use Rattle.std.specs.Prelude.{Result, Ok, Err, IfOk, slice_index, slice_range, ◌&&◌, ◌||◌, not, ◌==◌, nat_le}
use Rattle.std.proofs.lemmas.Bool.{eqb-true, leb-true}
use Rattle.qg_num.specs.Fields.{u64_at, is_zero}
use Rattle.qg_node.specs.declared.item.Item.{Item}
use Rattle.qg_node.specs.declared.pointer.Pointer.{Pointer}
use Rattle.qg_node.specs.declared.node.Header.{Header}
use Rattle.qg_node.specs.declared.node.Node.{Node}
use Rattle.qg_node.specs.declared.node.Node.TheVariants.{Leaf, Inner}
use Rattle.qg_node.specs.declared.fault.NodeFault.{NodeFault}
use Rattle.qg_node.specs.declared.fault.NodeFault.TheVariants.{Csum, Place, Level, Empty, Bounds, Order, Slack}
use Rattle.qg_node.specs.Nodes.{header_of, is_ascending, own_keys}
use Rattle.qg_node.specs.Reading.{◌>>=◌, check, count_at, has_checksum, has_empty_fields, header_at, inner_at, items_at}
use Rattle.qg_node.specs.Reading.{leaf_at, node_read, pointers_at}
use Rattle.qg_super.specs.declared.superblock.Super.{Super}
use Rattle.qg_super.specs.Places.{is_slot}
use Rattle.qg_super.specs.SuperText.{sizes_of}
use Rattle.qg_image.specs.Walk.{in_slot, node_found}
use Rattle.qg_reach.proofs.Reached.{address_of}

-- ---- what is read of bytes

if_checked : (P : Node → Type 0) (holds : Bool) (fault : NodeFault) (read : Result Node NodeFault)
    → (holds ≡ true → IfOk read P) → IfOk (check holds fault read) P
if_checked P true fault read reads = reads refl
if_checked P false fault read reads = tt

if_after : {A : Type 0} (P : Node → Type 0) (read : Result A NodeFault) (next : A → Result Node NodeFault)
    → ((x : A) → IfOk (next x) P) → IfOk (read >>= next) P
if_after P (Ok x) next reads = reads x
if_after P (Err fault) next reads = tt

abbrev pub is_leaf : Node → Bool
is_leaf (Leaf header items) = true
is_leaf (Inner header pointers) = false

-- the node has the header that stands there, its keys ascend, and it is a leaf or isn't
record IsTold (bytes : List ℕ) (leaf : Bool) (node : Node) : Type 0 where
  header : header_of node ≡ header_at bytes
  ascending : is_ascending (own_keys node) ≡ true
  kind : is_leaf node ≡ leaf

in_order : (bytes : List ℕ) (empty : Bool) (node : Node) → header_of node ≡ header_at bytes
    → IfOk (check (is_ascending (own_keys node)) Order (check empty Slack (Ok node))) (IsTold bytes (is_leaf node))
in_order bytes empty node header =
    let told = IsTold bytes (is_leaf node) in
    if_checked told (is_ascending (own_keys node)) Order (check empty Slack (Ok node)) (λ order.
    if_checked told empty Slack (Ok node) (λ slack. record { header = header; ascending = order; kind = refl }))

leaf_told : (bytes : List ℕ) → IfOk (leaf_at bytes) (IsTold bytes true)
unfolding leaf_at
leaf_told bytes =
    let told = IsTold bytes true in
    let low = 101 + 25 * count_at bytes in
    let items = items_at (count_at bytes) 101 (length bytes) low bytes in
    let empty : List Item × ℕ → Bool = λ read. has_empty_fields bytes && is_zero low read.1 bytes in
    let next : List Item × ℕ → Result Node NodeFault
    = λ read. check (is_ascending (map (λ (item : Item). item.key) read.0)) Order
    (check (empty read) Slack (Ok (Leaf (header_at bytes) read.0))) in
    if_checked told (nat_le low (length bytes)) Bounds (items >>= next) (λ room.
    if_after told items next (λ read. in_order bytes (empty read) (Leaf (header_at bytes) read.0) refl))

inner_told : (bytes : List ℕ) → IfOk (inner_at bytes) (IsTold bytes false)
unfolding inner_at
inner_told bytes =
    let told = IsTold bytes false in
    let end = 101 + 33 * count_at bytes in
    let pointers = pointers_at (count_at bytes) 101 bytes in
    let ascends = is_ascending (map (λ (pointer : Pointer). pointer.key) pointers) in
    let empty = has_empty_fields bytes && is_zero end (length bytes) bytes in
    let node = Inner (header_at bytes) pointers in
    if_checked told (nat_le end (length bytes)) Bounds (check ascends Order (check empty Slack (Ok node)))
    (λ room. in_order bytes empty node refl)

either_told : (bytes : List ℕ) (leaf : Bool) → IfOk (cond leaf (leaf_at bytes) (inner_at bytes)) (IsTold bytes leaf)
either_told bytes true = leaf_told bytes
either_told bytes false = inner_told bytes

-- the node names the address, is on a level that there is, and its keys ascend; it is a leaf exactly on the lowest one
record IsReadAt (address : ℕ) (node : Node) : Type 0 where
  lies : address_of node ≡ address
  low : (header_of node).level ≤ 7
  ascending : is_ascending (own_keys node) ≡ true
  kind : is_leaf node ≡ ((header_of node).level == 0)

read_of_told : (address : ℕ) (bytes : List ℕ) (read : Result Node NodeFault) → (u64_at 48 bytes == address) ≡ true
    → nat_le (slice_index bytes 100) 7 ≡ true → IfOk read (IsTold bytes (slice_index bytes 100 == 0))
    → IfOk read (IsReadAt address)
unfolding header_at
read_of_told address bytes (Err fault) place low told = tt
read_of_told address bytes (Ok node) place low told = record {
  lies = ap (λ (header : Header). header.address) told.header ∙ eqb-true (u64_at 48 bytes) address place;
  low =
      subst (λ (level : ℕ). level ≤ 7) (sym (ap (λ (header : Header). header.level) told.header))
      (leb-true (slice_index bytes 100) 7 low);
  ascending = told.ascending;
  kind = told.kind ∙ ap (λ (header : Header). header.level == 0) (sym told.header);
}

read_at : (address : ℕ) (bytes : List ℕ) → IfOk (node_read address bytes) (IsReadAt address)
unfolding node_read
read_at address bytes =
    let kept = IsReadAt address in
    let level = slice_index bytes 100 in
    let placed = u64_at 48 bytes == address in
    let some = (level == 0) || not (count_at bytes == 0) in
    let read = cond (level == 0) (leaf_at bytes) (inner_at bytes) in
    if_checked kept (has_checksum bytes) Csum (check placed Place
    (check (nat_le level 7) Level (check some Empty read))) (λ sums.
    if_checked kept placed Place (check (nat_le level 7) Level (check some Empty read)) (λ place.
    if_checked kept (nat_le level 7) Level (check some Empty read) (λ low.
    if_checked kept some Empty read (λ there. read_of_told address bytes read place low
    (either_told bytes (level == 0))))))

-- ---- what is found

-- the address is that of a slot; the node names it, is on a level that there is, and its keys ascend; it is a leaf
-- exactly on the lowest one
pub record IsFoundAt (super : Super) (address : ℕ) (node : Node) : Type 0 where
  pub slot : is_slot (sizes_of super) address ≡ true
  pub lies : address_of node ≡ address
  pub low : (header_of node).level ≤ 7
  pub ascending : is_ascending (own_keys node) ≡ true
  pub kind : is_leaf node ≡ ((header_of node).level == 0)

in_a_slot : (address : ℕ) (slot : Bool) (read : Result Node NodeFault) (node : Node)
    → in_slot slot address read ≡ Ok node
    → (slot ≡ true) × (read ≡ Ok node)
in_a_slot address true (Ok other) node is = let same : other ≡ node = cc in (refl, ap Ok same)
in_a_slot address true (Err fault) node is = absurd cc
in_a_slot address false read node is = absurd cc

pub found_is : (super : Super) (image : List ℕ) (address : ℕ) (node : Node) → node_found super image address ≡ Ok node
    → IsFoundAt super address node
unfolding node_found
found_is super image address node is =
    let bytes = slice_range image address (address + super.nodesize) in
    let both = in_a_slot address (is_slot (sizes_of super) address) (node_read address bytes) node is in
    let read = subst (λ (r : Result Node NodeFault). IfOk r (IsReadAt address)) both.1 (read_at address bytes) in
    record { slot = both.0; lies = read.lies; low = read.low; ascending = read.ascending; kind = read.kind }
