-- The references that are owed, and when the extent tree records exactly them (on-disk format, "backreferences"; the
-- cases are this project's own, chosen after Btrfs). Addresses are in bytes.
use Rattle.std.specs.Prelude.{◌≡◌, ℕ, ◌+◌, ◌-◌, ◌%◌, ◌^◌, Bool, true, false, ◌&&◌, ◌||◌, not, List, [], ◌∷◌, ◌++◌, map}
use Rattle.std.specs.Prelude.{Option, Some, None, ◌==◌, nat_lt, if◌then◌else◌}
use Rattle.std.specs.List.{list_any, list_all, filter, filter_map, flat_map, sum_by, count_by, find}
use Rattle.qg_node.specs.declared.node.Header.{Header}
use Rattle.qg_node.specs.Nodes.{header_of, own_items, own_pointers}
use Rattle.qg_items.specs.declared.extent.Reference.{Reference}
use Rattle.qg_items.specs.declared.extent.Reference.TheVariants.{KeyedBlock, SharedBlock, KeyedData, SharedData}
use Rattle.qg_image.specs.Table.{value_at, keys_of, number_set}
use Rattle.qg_image.specs.declared.part.FilePart.{FilePart}
use Rattle.qg_image.specs.declared.part.FilePart.TheVariants.{Inode, PieceOf}
use Rattle.qg_image.specs.declared.part.ExtentPart.{ExtentPart}
use Rattle.qg_image.specs.declared.part.ExtentPart.TheVariants.{DataRecord, NodeRecord, Referenced}
use Rattle.qg_image.specs.ItemMeaning.{file_part}
use Rattle.qg_image.specs.Record.{same_reference}
use Rattle.qg_image.specs.declared.element.Element.{Element}
use Rattle.qg_image.specs.State.{Layout, Placed}
use Rattle.qg_image.specs.Reach.{extent_of, pieces_of, reaches}

-- ---- what is owed

-- one reference that is owed to what begins at an address
pub record Owing : Type 0 where
  pub address : ℕ
  pub reference : Reference

-- a position less an offset, modulo 2^64
abbrev pub reference_offset : ℕ → ℕ → ℕ
reference_offset position offset = (position + 2 ^ 64 - offset) % 2 ^ 64

-- what a leaf owes by one of its parts: to the extent that a piece names
abbrev pub owed_by_part : Header → Bool → Option FilePart → List Owing
owed_by_part header full None = []
owed_by_part header full (Some (Inode ino inode)) = []
owed_by_part header true (Some (PieceOf ino piece)) =
    record { address = piece.extent; reference = SharedData header.address } ∷ []
owed_by_part header false (Some (PieceOf ino piece)) =
    record {
      address = piece.extent;
      reference = KeyedData header.owner ino (reference_offset piece.position piece.offset);
    } ∷ []

-- what a node owes to a child
abbrev pub owed_to_child : Header → Bool → ℕ → Owing
owed_to_child header true child = record { address = child; reference = SharedBlock header.address }
owed_to_child header false child = record { address = child; reference = KeyedBlock header.owner }

-- what a node owes: keyed references of its owner, or where it is full shared ones with itself as parent
unfoldable pub owed_by_node : Placed → List Owing
owed_by_node placed =
    map (λ pointer. owed_to_child (header_of placed.node) placed.full pointer.child) (own_pointers placed.node)
    ++ flat_map (λ item. owed_by_part (header_of placed.node) placed.full (file_part item)) (own_items placed.node)

-- all that is owed: each subvolume owes its root a keyed reference, and each reached node what it owes, once
unfoldable pub owed : Layout → List Owing
owed layout =
    map (λ entry. record { address = entry.1; reference = KeyedBlock entry.0 }) layout.roots
    ++ flat_map (λ entry. owed_by_node entry.1) layout.nodes

-- the references that are owed to an address, as often as they are
abbrev pub owed_to : Layout → ℕ → List Reference
owed_to layout address = filter_map (λ owing. if owing.address == address then Some owing.reference else None)
    (owed layout)

-- how often one reference is owed to an address
unfoldable pub owed_count : Layout → ℕ → Reference → ℕ
owed_count layout address reference = count_by (same_reference reference) (owed_to layout address)

-- ---- what there is, and how it is recorded

-- what begins at an address: nothing, a data extent of so many bytes, or a node with its full mark
pub data What : Type 0 where
  Nothing : What
  Data : (bytes : ℕ) → What
  Block : (header : Header) (full : Bool) → What

-- the extents that the layout's leaves name
unfoldable pub layout_extents : Layout → List Element
layout_extents layout = flat_map (λ entry. map extent_of (pieces_of entry.1.node)) layout.nodes

-- what begins at an address: a node, else an extent that is named, else nothing
abbrev pub what_at : Layout → ℕ → What
what_at layout address = of_node (value_at address layout.nodes) where
  of_extent : Option Element → What
  of_extent None = Nothing
  of_extent (Some extent) = Data extent.bytes

  of_node : Option Placed → What
  of_node (Some placed) = Block (header_of placed.node) placed.full
  of_node None = of_extent (find (λ extent. extent.address == address) (layout_extents layout))

-- the address of an item of the extent tree
abbrev pub part_address : ExtentPart → ℕ
part_address (DataRecord address bytes extent) = address
part_address (NodeRecord address level extent) = address
part_address (Referenced address reference count) = address

-- an item of the extent tree is a record, and tells no reference
abbrev pub is_record : ExtentPart → Bool
is_record (DataRecord address bytes extent) = true
is_record (NodeRecord address level extent) = true
is_record (Referenced address reference count) = false

-- the flags of a node's record: TREE_BLOCK, and FULL_BACKREF exactly where the node has the full mark
abbrev pub node_flags : Bool → ℕ
node_flags full = if full then 2 + 256 else 2

-- the record of what begins there, with so many references in all; which generation a data extent's record tells is not
-- asked
abbrev pub is_record_of : What → ℕ → ExtentPart → Bool
is_record_of (Data bytes) refs (DataRecord address bytes' extent) = (bytes' == bytes) && (extent.flags == 1)
    && (extent.refs == refs)
is_record_of (Block header full) refs (NodeRecord address level extent) =
    (level == header.level) && (extent.flags == node_flags full) && (extent.refs == refs)
    && (extent.generation == header.generation)
is_record_of _ _ _ = false

-- nothing begins there
abbrev pub is_nothing : What → Bool
is_nothing Nothing = true
is_nothing _ = false

-- exactly one record, and it is that of what begins there; where nothing does there is none
abbrev pub is_recorded_once : What → ℕ → List ExtentPart → Bool
is_recorded_once what refs [] = is_nothing what
is_recorded_once what refs (part ∷ []) = is_record_of what refs part
is_recorded_once what refs (part ∷ other ∷ parts) = false

-- the references that are recorded among parts, each with its count
abbrev pub reference_told : ExtentPart → Option (Reference × ℕ)
reference_told (Referenced address reference count) = Some (reference, count)
reference_told (DataRecord address bytes extent) = None
reference_told (NodeRecord address level extent) = None

-- each reference is recorded at most once
abbrev pub is_told_once : List (Reference × ℕ) → Bool
is_told_once [] = true
is_told_once (told ∷ rest) = not (list_any (λ other. same_reference told.0 other.0) rest) && is_told_once rest

-- the recorded references are those owed, with their counts
abbrev pub are_references : List (Reference × ℕ) → List Reference → Bool
are_references told owed =
    is_told_once told && list_all (λ entry. nat_lt 0 entry.1 && (entry.1 == count_by (same_reference entry.0) owed))
    told
    && list_all (λ reference. list_any (λ entry. same_reference reference entry.0) told) owed

-- the extent tree's items at an address are what is owed there
unfoldable pub agrees_at : Layout → List ExtentPart → ℕ → Bool
agrees_at layout parts address =
    let here = filter (λ part. part_address part == address) parts in
    let told = filter_map reference_told here in
    is_recorded_once (what_at layout address) (sum_by (λ entry. entry.1) told) (filter is_record here)
    && are_references told (owed_to layout address)

-- the addresses of what is recorded and of what there is, ascending
unfoldable pub recorded_addresses : Layout → List ExtentPart → List ℕ
recorded_addresses layout parts =
    number_set (map part_address parts ++ keys_of layout.nodes ++ map (λ extent. extent.address)
    (layout_extents layout))

-- the least address at which the extent tree's items are not what is owed
unfoldable pub disagreement : Layout → List ExtentPart → Option ℕ
disagreement layout parts = find (λ address. not (agrees_at layout parts address)) (recorded_addresses layout parts)

-- the extent tree's items are exactly what is owed
abbrev pub Agrees : Layout → List ExtentPart → Type 0
Agrees layout parts = (address : ℕ) → agrees_at layout parts address ≡ true

-- the least address of a node that is not full and that its owner does not reach
unfoldable pub homeless : Layout → Option ℕ
homeless layout = find (λ address. is_homeless (value_at address layout.nodes) address) (keys_of layout.nodes) where
  is_homeless : Option Placed → ℕ → Bool
  is_homeless None address = false
  is_homeless (Some placed) address = not placed.full && not (reaches layout (header_of placed.node).owner address)
