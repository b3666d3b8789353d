-- The keys of a told tree's items ascend.
use Rattle.std.proofs.Common.{◌≡◌, ℕ, ◌+◌, ◌*◌, true, false, cond, List, map, length, Option, Some, None, Result, Ok}
use Rattle.std.proofs.Common.{Err, refl, subst}
use Rattle.std.specs.Prelude.{Bool, ◌&&◌, ◌||◌, ◌==◌, not, nat_le, if◌then◌else◌, slice_index}
use Rattle.std.specs.Result.{result_ok}
use Rattle.qg_device.specs.History.{History, Recorded, Unrecorded, content, range}
use Rattle.qg_num.specs.Fields.{is_zero, u64_at}
use Rattle.qg_num.specs.declared.rule.Rule.{Rule}
use Rattle.qg_num.specs.declared.rule.Rule.TheVariants as rule
use Rattle.qg_node.specs.declared.item.Item.{Item}
use Rattle.qg_node.specs.declared.node.Header.{Header}
use Rattle.qg_node.specs.declared.node.Node.{Node}
use Rattle.qg_node.specs.declared.node.Node.TheVariants.{Leaf, Inner}
use Rattle.qg_node.specs.declared.fault.NodeFault.{NodeFault}
use Rattle.qg_node.specs.declared.fault.NodeFault.TheVariants.{Csum, Place, Level, Empty, Bounds, Order, Slack}
use Rattle.qg_node.specs.Nodes.{is_ascending, own_keys}
use Rattle.qg_node.specs.Reading.{◌>>=◌, check, count_at, has_checksum, has_empty_fields, header_at, inner_at, items_at}
use Rattle.qg_node.specs.Reading.{leaf_at, node_read, pointers_at}
use Rattle.qg_super.specs.declared.sizes.Sizes.{Sizes}
use Rattle.qg_image.specs.declared.tree.TreeKind.{TreeKind}
use Rattle.qg_image.specs.Walk.{root_expected}
use Rattle.qg_blocks.specs.NodesInMemory.{Draft}
use Rattle.qg_blocks.specs.Standing.{has_slot, ruled, standing}
use Rattle.qg_blocks.specs.NodesFound.{fresh_at, told, told_or}
use Rattle.qg_blocks.specs.Writing.{ArePlaced}
use Rattle.qg_tree_read.specs.Tree.{Root, TellsTree, super_of}
use Rattle.qg_tree_read.proofs.BranchOrder.{ascends-under}
use Rattle.qg_inodes.specs.Bodies.{Ascend}

-- ---- those of a node that is read

check_ok : (holds : Bool) (fault : NodeFault) (read : Result Node NodeFault) (node : Node)
    → check holds fault read ≡ Ok node
    → (holds ≡ true) × (read ≡ Ok node)
check_ok true fault read node is = (refl, is)
check_ok false fault read node is = absurd cc

read_same : (a b : Node) → ◌≡◌ {A = Result Node NodeFault} (Ok a) (Ok b) → a ≡ b
read_same a b is = cc

kept_ascends : (node other : Node) (slack : Bool)
    → check (is_ascending (own_keys node)) Order (check slack Slack (Ok node)) ≡ Ok other
    → is_ascending (own_keys other) ≡ true
kept_ascends node other slack is =
    let order = check_ok (is_ascending (own_keys node)) Order (check slack Slack (Ok node)) other is in
    let last = check_ok slack Slack (Ok node) other order.1 in
    subst (λ (n : Node). is_ascending (own_keys n) ≡ true) (read_same node other last.1) order.0

-- what is looked at of a leaf behind its items
abbrev behind_items : Header → (List Item × ℕ → Bool) → List Item × ℕ → Result Node NodeFault
behind_items header slack items =
    check (is_ascending (map (λ item. item.key) items.0)) Order (check (slack items) Slack (Ok (Leaf header items.0)))

items_ascend : (header : Header) (slack : List Item × ℕ → Bool) (read : Result (List Item × ℕ) NodeFault) (node : Node)
    → (read >>= behind_items header slack) ≡ Ok node
    → is_ascending (own_keys node) ≡ true
items_ascend header slack (Ok items) node is = kept_ascends (Leaf header items.0) node (slack items) is
items_ascend header slack (Err fault) node is = absurd cc

leaf_ascends : (bytes : List ℕ) (node : Node) → leaf_at bytes ≡ Ok node → is_ascending (own_keys node) ≡ true
unfolding leaf_at
leaf_ascends bytes node is =
    let low = 101 + 25 * count_at bytes in
    let slack = λ (read : List Item × ℕ). has_empty_fields bytes && is_zero low read.1 bytes in
    let items = items_at (count_at bytes) 101 (length bytes) low bytes in
    let behind = behind_items (header_at bytes) slack in
    let first = check_ok (nat_le low (length bytes)) Bounds (items >>= behind) node is in
    items_ascend (header_at bytes) slack items node first.1

inner_ascends : (bytes : List ℕ) (node : Node) → inner_at bytes ≡ Ok node → is_ascending (own_keys node) ≡ true
unfolding inner_at
inner_ascends bytes node is =
    let end = 101 + 33 * count_at bytes in
    let inner = Inner (header_at bytes) (pointers_at (count_at bytes) 101 bytes) in
    let slack = has_empty_fields bytes && is_zero end (length bytes) bytes in
    let keys = check (is_ascending (own_keys inner)) Order (check slack Slack (Ok inner)) in
    let first = check_ok (nat_le end (length bytes)) Bounds keys node is in
    kept_ascends inner node slack first.1

level_ascends : (bytes : List ℕ) (node : Node) (leaf : Bool) → cond leaf (leaf_at bytes) (inner_at bytes) ≡ Ok node
    → is_ascending (own_keys node) ≡ true
level_ascends bytes node true is = leaf_ascends bytes node is
level_ascends bytes node false is = inner_ascends bytes node is

read_ascends : (address : ℕ) (bytes : List ℕ) (node : Node) → node_read address bytes ≡ Ok node
    → is_ascending (own_keys node) ≡ true
unfolding node_read
read_ascends address bytes node is =
    let level = slice_index bytes 100 in
    let read : Result Node NodeFault = cond (level == 0) (leaf_at bytes) (inner_at bytes) in
    let counted = (level == 0) || not (count_at bytes == 0) in
    let low = check (nat_le level 7) Level (check counted Empty read) in
    let placed = check (u64_at 48 bytes == address) Place low in
    let first = check_ok (has_checksum bytes) Csum placed node is in
    let second = check_ok (u64_at 48 bytes == address) Place low node first.1 in
    let third = check_ok (nat_le level 7) Level (check counted Empty read) node second.1 in
    level_ascends bytes node (level == 0) (check_ok counted Empty read node third.1).1

-- ---- those of a node that is told

slot_read : (has : Bool) (read : Result Node NodeFault) (node : Node)
    → (if has then ruled read else Err rule.Slot) ≡ Ok node
    → read ≡ Ok node
slot_read true (Ok other) node is = let same : other ≡ node = cc in rw same refl
slot_read true (Err fault) node is = absurd cc
slot_read false read node is = absurd cc

standing_ascends : (sizes : Sizes) (image : List ℕ) (address : ℕ) (node : Node) → standing sizes image address ≡ Ok node
    → is_ascending (own_keys node) ≡ true
unfolding standing
standing_ascends sizes image address node is =
    let bytes = range address sizes.nodesize image in
    read_ascends address bytes node
    (slot_read (has_slot sizes (length image) address) (node_read address bytes) node is)

ok_there : (read : Result Node Rule) (node : Node) → result_ok read ≡ Some node → read ≡ Ok node
ok_there (Ok other) node is = let same : other ≡ node = cc in rw same refl
ok_there (Err broken) node is = absurd cc

either_ascends : (fresh : Option Node) (sizes : Sizes) (history : History) (address : ℕ) (node : Node)
    → ((other : Node) → fresh ≡ Some other → is_ascending (own_keys other) ≡ true)
    → told_or fresh sizes history address ≡ Some node → is_ascending (own_keys node) ≡ true
either_ascends (Some other) sizes history address node ascends is = ascends node is
either_ascends None sizes (Unrecorded changes) address node ascends is = absurd cc
either_ascends None sizes (Recorded events) address node ascends is =
    standing_ascends sizes (content events) address node
    (ok_there (standing sizes (content events) address) node is)

told_ascends : (draft : Draft) (history : History) (bytes : ℕ) → ArePlaced draft bytes → (q : ℕ)
    (node : Node) → told draft history q ≡ Some node
    → is_ascending (own_keys node) ≡ true
unfolding told
told_ascends draft history bytes placed q node is =
    either_ascends (fresh_at draft q) draft.sizes history q node
    (λ other there. (placed.each q other there).kept.sound.ascending) is

-- ---- those of a tree's items

pub tree-ascends : (tree : TreeKind) (root : Root) (draft : Draft) (history : History) (bytes : ℕ)
    (items : List Item) → ArePlaced draft bytes → TellsTree tree root draft history items
    → Ascend items
tree-ascends tree root draft history bytes items placed tells =
    ascends-under tree (super_of root draft) (told draft history) (told_ascends draft history bytes placed) root.height
    (root_expected (Some root.height) None) root.address items
    (record { levelled = refl; walked = tells.walked; items_are = tells.items_are })
