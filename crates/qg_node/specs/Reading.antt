-- What bytes are read as at an address: a node, or the first rule that they break as one.
--
-- The rules are looked at in one order (this project's own): csum, place, level, empty, bounds, order, slack.
use Rattle.std.specs.Prelude.{◌≡◌, ⊤, ℕ, zero, suc, ◌+◌, ◌-◌, ◌*◌, Bool, ◌&&◌, ◌||◌, not, List, [], ◌∷◌, length, drop}
use Rattle.std.specs.Prelude.{map, slice_index, slice_range, Result, Ok, Err, nat_le, ◌==◌, if◌then◌else◌}
use Rattle.qg_num.specs.Fields.{u64_at, u32_at, is_zero}
use Rattle.qg_crc32c.specs.Crc32c.{crc32c_of}
use Rattle.qg_num.specs.Key.{key_at}
use Rattle.qg_node.specs.declared.item.Item.{Item}
use Rattle.qg_node.specs.declared.pointer.Pointer.{Pointer}
use Rattle.qg_node.specs.declared.node.Header.{Header}
use Rattle.qg_node.specs.declared.node.Node.{Node}
use Rattle.qg_node.specs.declared.node.Node.TheVariants.{Leaf, Inner}
use Rattle.qg_node.specs.declared.fault.NodeFault.{NodeFault}
use Rattle.qg_node.specs.declared.fault.NodeFault.TheVariants.{Csum, Place, Level, Empty, Bounds, Order, Slack}
use Rattle.qg_node.specs.declared.fault.ReadFault.{ReadFault}
use Rattle.qg_node.specs.declared.fault.ReadFault.TheVariants.{Bad, NoMemory}
use Rattle.qg_node.specs.Nodes.{is_ascending}

-- what is read goes on where a rule is kept, and stops at the first one that isn't
infixl 10 ◌>>=◌
abbrev pub ◌>>=◌ : {A B : Type 0} → Result A NodeFault → (A → Result B NodeFault) → Result B NodeFault
(Ok x) >>= f = f x
(Err e) >>= f = Err e

-- a rule that the bytes must keep, and what is read where they do
abbrev pub check : Bool → NodeFault → {A : Type 0} → Result A NodeFault → Result A NodeFault
check holds fault read = if holds then read else Err fault

-- ---- the header

-- the checksum field holds the checksum, and then 28 bytes of 0
unfoldable pub has_checksum : List ℕ → Bool
has_checksum bytes = is_zero 4 32 bytes && (u32_at 0 bytes == crc32c_of (drop 32 bytes))

-- fsid, flags and the chunk tree's uuid are 0
unfoldable pub has_empty_fields : List ℕ → Bool
has_empty_fields bytes = is_zero 32 48 bytes && is_zero 56 80 bytes

-- the fields of a header, where a node has them
unfoldable pub header_at : List ℕ → Header
header_at bytes = record {
  address = u64_at 48 bytes;
  generation = u64_at 80 bytes;
  owner = u64_at 88 bytes;
  level = slice_index bytes 100;
}

-- how many items or pointers the header tells
abbrev pub count_at : List ℕ → ℕ
count_at bytes = u32_at 96 bytes

-- ---- leaves

-- the item whose header stands at a place and whose body ends at `end`, and where its body begins; no body begins below
-- `low`
unfoldable pub item_at : ℕ → ℕ → ℕ → List ℕ → Result (Item × ℕ) NodeFault
item_at place end low bytes =
    let size = u32_at (place + 21) bytes in
    check (nat_le (low + size) end) Bounds
    (check ((101 + u32_at (place + 17) bytes) + size == end) Bounds
    (Ok (record { key = key_at place bytes; body = slice_range bytes (end - size) end }, end - size)))

-- so many items, and where the last one's body begins
unfoldable pub items_at : ℕ → ℕ → ℕ → ℕ → List ℕ → Result (List Item × ℕ) NodeFault
items_at zero place end low bytes = Ok ([], end)
items_at (suc count) place end low bytes = do
  first ← item_at place end low bytes
  others ← items_at count (place + 25) first.1 low bytes
  Ok (first.0 ∷ others.0, others.1)

-- a leaf: its items, or the first rule that they break, of bounds, order and slack
unfoldable pub leaf_at : List ℕ → Result Node NodeFault
leaf_at bytes =
    let low = 101 + 25 * count_at bytes in
    check (nat_le low (length bytes)) Bounds
    (items_at (count_at bytes) 101 (length bytes) low bytes >>= λ items.
    check (is_ascending (map (λ item. item.key) items.0)) Order
    (check (has_empty_fields bytes && is_zero low items.1 bytes) Slack
    (Ok (Leaf (header_at bytes) items.0))))

-- ---- inner nodes

-- the pointer in the 33 bytes from a place on
unfoldable pub pointer_at : ℕ → List ℕ → Pointer
pointer_at place bytes = record {
  key = key_at place bytes;
  child = u64_at (place + 17) bytes;
  generation = u64_at (place + 25) bytes;
}

-- so many pointers, one behind the other, from a place on
unfoldable pub pointers_at : ℕ → ℕ → List ℕ → List Pointer
pointers_at zero place bytes = []
pointers_at (suc count) place bytes = pointer_at place bytes ∷ pointers_at count (place + 33) bytes

-- an inner node: its pointers, or the first rule that they break, of bounds, order and slack
unfoldable pub inner_at : List ℕ → Result Node NodeFault
inner_at bytes =
    let end = 101 + 33 * count_at bytes in
    let pointers = pointers_at (count_at bytes) 101 bytes in
    check (nat_le end (length bytes)) Bounds
    (check (is_ascending (map (λ pointer. pointer.key) pointers)) Order
    (check (has_empty_fields bytes && is_zero end (length bytes) bytes) Slack
    (Ok (Inner (header_at bytes) pointers))))

-- ---- nodes

-- the node whose text the bytes are at an address, or the first rule that they break
unfoldable pub node_read : ℕ → List ℕ → Result Node NodeFault
node_read address bytes =
    check (has_checksum bytes) Csum
    (check (u64_at 48 bytes == address) Place
    (check (nat_le (slice_index bytes 100) 7) Level
    (check ((slice_index bytes 100 == 0) || not (count_at bytes == 0)) Empty
    (if slice_index bytes 100 == 0 then leaf_at bytes else inner_at bytes))))

-- ---- what a reader answers

-- what it returned is what reading gives, unless memory was refused
abbrev pub ReadsAs : {A : Type 0} → Result A ReadFault → Result A NodeFault → Type 0
ReadsAs (Ok read) wanted = wanted ≡ Ok read
ReadsAs (Err (Bad fault)) wanted = wanted ≡ Err fault
ReadsAs (Err NoMemory) wanted = ⊤
