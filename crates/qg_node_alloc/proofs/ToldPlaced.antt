-- A node that a disk tells at an address names that address.
use Rattle.std.proofs.Common.{◌≡◌, ℕ, ◌+◌, ◌*◌, Bool, true, false, cond, List, length, map, refl, sym, ap, ◌∙◌}
use Rattle.std.specs.Prelude.{Option, Some, None, Result, Ok, Err, IfOk, slice_index, ◌&&◌, ◌||◌, not, ◌==◌, nat_le}
use Rattle.std.specs.Prelude.{if◌then◌else◌}
use Rattle.std.specs.Result.{result_ok}
use Rattle.std.proofs.lemmas.Bool.{eqb-true}
use Rattle.std.proofs.lemmas.Result.{IfOk-weaker}
use Rattle.qg_device.specs.History.{History, Recorded, Unrecorded, content, range}
use Rattle.qg_num.specs.Fields.{u64_at, is_zero}
use Rattle.qg_num.specs.declared.rule.Rule.{Rule}
use Rattle.qg_num.specs.declared.rule.Rule.TheVariants as rule
use Rattle.qg_node.specs.declared.item.Item.{Item}
use Rattle.qg_node.specs.declared.pointer.Pointer.{Pointer}
use Rattle.qg_node.specs.declared.node.Header.{Header}
use Rattle.qg_node.specs.declared.node.Node.{Node}
use Rattle.qg_node.specs.declared.node.Node.TheVariants.{Leaf, Inner}
use Rattle.qg_node.specs.declared.fault.NodeFault.{NodeFault}
use Rattle.qg_node.specs.declared.fault.NodeFault.TheVariants.{Csum, Place, Level, Empty, Bounds, Order, Slack}
use Rattle.qg_node.specs.Nodes.{header_of, is_ascending}
use Rattle.qg_node.specs.Reading.{◌>>=◌, check, count_at, has_checksum, has_empty_fields, header_at, inner_at, items_at}
use Rattle.qg_node.specs.Reading.{leaf_at, node_read, pointers_at}
use Rattle.qg_super.specs.declared.sizes.Sizes.{Sizes}
use Rattle.qg_blocks.specs.NodesInMemory.{Draft}
use Rattle.qg_blocks.specs.NodesFound.{fresh_at, told, told_or}
use Rattle.qg_blocks.specs.Standing.{has_slot, ruled, standing}

-- ---- a node that is read

-- what holds of the node that is read, where a rule has to hold before
if_checked : (P : Node → Type 0) (holds : Bool) (fault : NodeFault) (read : Result Node NodeFault)
    → (holds ≡ true → IfOk read P) → IfOk (check holds fault read) P
if_checked P true fault read reads = reads refl
if_checked P false fault read reads = tt

if_after : {A : Type 0} (P : Node → Type 0) (read : Result A NodeFault) (next : A → Result Node NodeFault)
    → ((x : A) → IfOk (next x) P) → IfOk (read >>= next) P
if_after P (Ok x) next reads = reads x
if_after P (Err fault) next reads = tt

abbrev HasHeader : List ℕ → Node → Type 0
HasHeader bytes node = header_of node ≡ header_at bytes

-- in order and with nothing behind them, the items or pointers are those of a node with the header that stands there
ordered_header : (bytes : List ℕ) (ascends empty : Bool) (node : Node) → HasHeader bytes node
    → IfOk (check ascends Order (check empty Slack (Ok node))) (HasHeader bytes)
ordered_header bytes ascends empty node has =
    if_checked (HasHeader bytes) ascends Order (check empty Slack (Ok node))
    (λ order. if_checked (HasHeader bytes) empty Slack (Ok node) (λ slack. has))

leaf_header : (bytes : List ℕ) → IfOk (leaf_at bytes) (HasHeader bytes)
unfolding leaf_at
leaf_header bytes =
    let low = 101 + 25 * count_at bytes in
    let items = items_at (count_at bytes) 101 (length bytes) low bytes in
    let ascends : List Item × ℕ → Bool = λ read. is_ascending (map (λ (item : Item). item.key) read.0) in
    let empty : List Item × ℕ → Bool = λ read. has_empty_fields bytes && is_zero low read.1 bytes in
    let next : List Item × ℕ → Result Node NodeFault =
    λ read. check (ascends read) Order (check (empty read) Slack (Ok (Leaf (header_at bytes) read.0))) in
    if_checked (HasHeader bytes) (nat_le low (length bytes)) Bounds (items >>= next) (λ room.
    if_after (HasHeader bytes) items next (λ read. ordered_header bytes (ascends read) (empty read)
    (Leaf (header_at bytes) read.0) refl))

inner_header : (bytes : List ℕ) → IfOk (inner_at bytes) (HasHeader bytes)
unfolding inner_at
inner_header bytes =
    let end = 101 + 33 * count_at bytes in
    let pointers = pointers_at (count_at bytes) 101 bytes in
    let ascends = is_ascending (map (λ (pointer : Pointer). pointer.key) pointers) in
    let empty = has_empty_fields bytes && is_zero end (length bytes) bytes in
    let node = Inner (header_at bytes) pointers in
    if_checked (HasHeader bytes) (nat_le end (length bytes)) Bounds (check ascends Order (check empty Slack (Ok node)))
    (λ room. ordered_header bytes ascends empty node refl)

either_header : (bytes : List ℕ) (is_leaf : Bool)
    → IfOk (cond is_leaf (leaf_at bytes) (inner_at bytes)) (HasHeader bytes)
either_header bytes true = leaf_header bytes
either_header bytes false = inner_header bytes

-- it names the address
read_placed : (address : ℕ) (bytes : List ℕ) → IfOk (node_read address bytes) (λ node. (header_of node).address ≡ address)
unfolding node_read header_at
read_placed address bytes =
    let lies : Node → Type 0 = λ node. (header_of node).address ≡ address in
    let level = slice_index bytes 100 in
    let placed = u64_at 48 bytes == address in
    let some = (level == 0) || not (count_at bytes == 0) in
    let read = cond (level == 0) (leaf_at bytes) (inner_at bytes) in
    if_checked lies (has_checksum bytes) Csum
    (check placed Place (check (nat_le level 7) Level (check some Empty read))) (λ sums.
    if_checked lies placed Place (check (nat_le level 7) Level (check some Empty read)) (λ place.
    if_checked lies (nat_le level 7) Level (check some Empty read) (λ low.
    if_checked lies some Empty read (λ there.
    IfOk-weaker read (HasHeader bytes) lies
    (λ node has. ap (λ (header : Header). header.address) has ∙ eqb-true (u64_at 48 bytes) address place)
    (either_header bytes (level == 0))))))

-- ---- one that stands there

slot_placed : (address : ℕ) (has : Bool) (read : Result Node NodeFault) (node : Node)
    → IfOk read (λ node. (header_of node).address ≡ address)
    → result_ok (if has then ruled read else Err rule.Slot) ≡ Some node → (header_of node).address ≡ address
slot_placed address true (Ok other) node placed is = let same : other ≡ node = cc in rw (same) at placed
slot_placed address true (Err fault) node placed is = absurd cc
slot_placed address false read node placed is = absurd cc

either_placed : (sizes : Sizes) (history : History) (address : ℕ) (node : Node)
    → told_or None sizes history address ≡ Some node → (header_of node).address ≡ address
unfolding standing
either_placed sizes (Unrecorded changes) address node is = absurd cc
either_placed sizes (Recorded events) address node is =
    let image = content events in
    let bytes = range address sizes.nodesize image in
    slot_placed address (has_slot sizes (length image) address) (node_read address bytes) node
    (read_placed address bytes) is

pub told-placed : (draft : Draft) (history : History) (address : ℕ) (node : Node) → fresh_at draft address ≡ None
    → told draft history address ≡ Some node → (header_of node).address ≡ address
unfolding told
told-placed draft history address node clean is =
    either_placed draft.sizes history address node
    (ap (λ (o : Option Node). told_or o draft.sizes history address) (sym clean) ∙ is)
