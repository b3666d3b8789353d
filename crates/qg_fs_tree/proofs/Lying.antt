-- What a node says that is told: its level, and the address where it lies.
use Rattle.std.proofs.Common.{◌≡◌, ℕ, ◌+◌, ◌*◌, ◌≤◌, Bool, true, false, cond, List, length, map, Option, Some, None}
use Rattle.std.proofs.Common.{Result, Ok, Err, arith, sym, ap, ◌∙◌}
use Rattle.std.specs.Prelude.{◌&&◌, ◌||◌, ◌==◌, not, nat_le, slice_index}
use Rattle.std.proofs.lemmas.Bool.{eqb-true, leb-true}
use Rattle.qg_device.specs.History.{History, Recorded, Unrecorded, content, range}
use Rattle.qg_num.specs.Fields.{is_zero, u64_at}
use Rattle.qg_node.specs.declared.item.Item.{Item}
use Rattle.qg_node.specs.declared.pointer.Pointer.{Pointer}
use Rattle.qg_node.specs.declared.node.Header.{Header}
use Rattle.qg_node.specs.declared.node.Node.{Node}
use Rattle.qg_node.specs.declared.node.Node.TheVariants.{Leaf, Inner}
use Rattle.qg_node.specs.declared.fault.NodeFault.{NodeFault}
use Rattle.qg_node.specs.declared.fault.NodeFault.TheVariants.{Csum, Place, Level, Empty, Bounds, Order, Slack}
use Rattle.qg_node.specs.Nodes.{header_of, is_ascending}
use Rattle.qg_node.specs.NodeText.{IsLevelled}
use Rattle.qg_node.specs.Reading.{◌>>=◌, check, count_at, has_checksum, has_empty_fields, header_at, inner_at, items_at}
use Rattle.qg_node.specs.Reading.{leaf_at, node_read, pointers_at}
use Rattle.qg_super.specs.declared.sizes.Sizes.{Sizes}
use Rattle.qg_blocks.specs.Standing.{standing}
use Rattle.qg_blocks.specs.NodesFound.{fresh_at, told, told_or}
use Rattle.qg_tree_edits.specs.Types.{Ground}
use Rattle.qg_tree_edits.specs.Land.{IsDrafted}
use Rattle.qg_fs_tree.proofs.Formed.{check-ok}
use Rattle.qg_fs_tree.proofs.Sound.{ok-there, standing-read}

-- ---- what is read

read_same : (a b : Node) → ◌≡◌ {A = Result Node NodeFault} (Ok a) (Ok b) → a ≡ b
read_same a b is = cc

-- two rules more, of order and slack
behind_same : (a b : Bool) (node other : Node) → check a Order (check b Slack (Ok node)) ≡ Ok other
    → header_of other ≡ header_of node
behind_same a b node other is =
    let order = check-ok a Order (check b Slack (Ok node)) other is in
    let last = check-ok b Slack (Ok node) other order.1 in
    ap header_of (sym (read_same node other last.1))

items_header : (header : Header) (order slack : List Item × ℕ → Bool) (read : Result (List Item × ℕ) NodeFault)
    (node : Node)
    → (read >>= λ items. check (order items) Order (check (slack items) Slack (Ok (Leaf header items.0)))) ≡ Ok node
    → header_of node ≡ header
items_header header order slack (Ok items) node is =
    behind_same (order items) (slack items) (Leaf header items.0) node is
items_header header order slack (Err fault) node is = absurd cc

leaf_header : (bytes : List ℕ) (node : Node) → leaf_at bytes ≡ Ok node → header_of node ≡ header_at bytes
unfolding leaf_at
leaf_header bytes node is =
    let low = 101 + 25 * count_at bytes in
    let order = λ (read : List Item × ℕ). is_ascending (map (λ (item : Item). item.key) read.0) in
    let slack = λ (read : List Item × ℕ). has_empty_fields bytes && is_zero low read.1 bytes in
    let behind = λ (read : List Item × ℕ). check (order read) Order (check (slack read) Slack
    (Ok (Leaf (header_at bytes) read.0))) in
    let first = check-ok (nat_le low (length bytes)) Bounds
    (items_at (count_at bytes) 101 (length bytes) low bytes >>= behind) node is in
    items_header (header_at bytes) order slack (items_at (count_at bytes) 101 (length bytes) low bytes) node first.1

inner_header : (bytes : List ℕ) (node : Node) → inner_at bytes ≡ Ok node → header_of node ≡ header_at bytes
unfolding inner_at
inner_header bytes node is =
    let end = 101 + 33 * count_at bytes in
    let inner = Inner (header_at bytes) (pointers_at (count_at bytes) 101 bytes) in
    let order = is_ascending (map (λ (pointer : Pointer). pointer.key) (pointers_at (count_at bytes) 101 bytes)) in
    let slack = has_empty_fields bytes && is_zero end (length bytes) bytes in
    let first = check-ok (nat_le end (length bytes)) Bounds (check order Order (check slack Slack (Ok inner))) node
    is in
    behind_same order slack inner node first.1

level_header : (bytes : List ℕ) (node : Node) (leaf : Bool) → cond leaf (leaf_at bytes) (inner_at bytes) ≡ Ok node
    → header_of node ≡ header_at bytes
level_header bytes node true is = leaf_header bytes node is
level_header bytes node false is = inner_header bytes node is

-- a node has one of eight levels, and lies at its address
pub record IsToldAt (at : ℕ) (node : Node) : Type 0 where
  pub level : (header_of node).level ≤ 7
  pub placed : (header_of node).address ≡ at

read_at : (at : ℕ) (bytes : List ℕ) (node : Node) → node_read at bytes ≡ Ok node → IsToldAt at node
unfolding node_read header_at
read_at at bytes node is =
    let level = slice_index bytes 100 in
    let read : Result Node NodeFault = cond (level == 0) (leaf_at bytes) (inner_at bytes) in
    let counted = (level == 0) || not (count_at bytes == 0) in
    let first = check-ok (has_checksum bytes) Csum (check (u64_at 48 bytes == at) Place
    (check (nat_le level 7) Level (check counted Empty read))) node is in
    let second = check-ok (u64_at 48 bytes == at) Place (check (nat_le level 7) Level (check counted Empty read)) node
    first.1 in
    let third = check-ok (nat_le level 7) Level (check counted Empty read) node second.1 in
    let last = check-ok counted Empty read node third.1 in
    let header = level_header bytes node (level == 0) last.1 in
    let high = leb-true level 7 third.0 in
    let same : (header_of node).level ≡ level = ap (λ (h : Header). h.level) header in
    record {
      level = omega (arith, high, same);
      placed = ap (λ (h : Header). h.address) header ∙ eqb-true (u64_at 48 bytes) at second.0;
    }

-- ---- what is told

levelled_low : (node : Node) → IsLevelled node → (header_of node).level ≤ 7
levelled_low (Leaf header items) is = omega (arith, is)
levelled_low (Inner header pointers) is = is.1

either_at : (fresh : Option Node) (sizes : Sizes) (history : History) (at : ℕ) (node : Node)
    → ((other : Node) → fresh ≡ Some other → IsToldAt at other) → told_or fresh sizes history at ≡ Some node
    → IsToldAt at node
either_at (Some other) sizes history at node here is = here node is
either_at None sizes (Unrecorded changes) at node here is = absurd cc
either_at None sizes (Recorded events) at node here is =
    let there = ok-there (standing sizes (content events) at) node is in
    read_at at (range at sizes.nodesize (content events)) node (standing-read sizes (content events) at node there)

pub told-at : (land : Ground) (history : History) (generation : ℕ) → IsDrafted land generation
    → (q : ℕ) (node : Node) → told land.blocks.draft history q ≡ Some node → IsToldAt q node
unfolding told
told-at land history generation drafted q node is =
    either_at (fresh_at land.blocks.draft q) land.blocks.draft.sizes history q node
    (λ other there.
    let kept = (drafted.each q other there).kept in
    record { level = levelled_low other kept.sound.levelled; placed = kept.placed }) is
