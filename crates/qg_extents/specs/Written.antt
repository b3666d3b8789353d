-- The items of the extent tree that stand for a book (on-disk format, EXTENT_ITEM and what follows it). Addresses and
-- lengths are in bytes.
use Rattle.std.specs.Prelude.{ℕ, ◌+◌, ◌^◌, ◌<◌, Bool, List, [], ◌∷◌, map, Option, Some, None, IfSome, All}
use Rattle.std.specs.List.{flat_map, sum_by}
use Rattle.qg_node.specs.declared.item.Item.{Item}
use Rattle.qg_items.specs.declared.kind.TheConstants.{EXTENT_ITEM, METADATA_ITEM, TREE_BLOCK_REF, EXTENT_DATA_REF}
use Rattle.qg_items.specs.declared.kind.TheConstants.{SHARED_BLOCK_REF, SHARED_DATA_REF}
use Rattle.qg_items.specs.declared.extent.ExtentItem.{ExtentItem}
use Rattle.qg_items.specs.declared.extent.Reference.{Reference}
use Rattle.qg_items.specs.declared.extent.Reference.TheVariants.{KeyedBlock, SharedBlock, KeyedData, SharedData}
use Rattle.qg_items.specs.ItemText.{extent_text, data_ref_text, shared_data_ref_text}
use Rattle.qg_tree_items.specs.Types.{ExtentPart}
use Rattle.qg_tree_items.specs.Types.{DataRecord, NodeRecord, Referenced}
use Rattle.qg_tree_items.specs.Keys.{key_with}
use Rattle.qg_tree_items.specs.Owed.{node_flags}
use Rattle.qg_refs.specs.declared.counted.Counted.{Counted}
use Rattle.qg_refs.specs.declared.kept.Kept.{Kept}
use Rattle.qg_extents.specs.declared.head.Head.{Head}

-- ---- what the items say

-- the sum of the counts
abbrev pub refs_of : List Counted → ℕ
refs_of references = sum_by (λ entry. entry.count) references

-- the flags of a record: DATA 1, or those of a node
abbrev pub record_flags : Option ℕ → Bool → ℕ
record_flags None full = 1
record_flags (Some level) full = node_flags full

-- what the record's body says
abbrev pub extent_of : Kept → ExtentItem
extent_of kept = record {
  refs = refs_of kept.references;
  generation = kept.what.generation;
  flags = record_flags kept.what.level kept.full;
}

-- the record of a data extent of so many bytes, or of a node of a level
abbrev pub record_part : ℕ → ℕ → Option ℕ → ExtentItem → ExtentPart
record_part at bytes None extent = DataRecord at bytes extent
record_part at bytes (Some level) extent = NodeRecord at level extent

-- the record of what is kept at an address
abbrev pub record_of : ℕ × Kept → ExtentPart
record_of entry = record_part entry.0 entry.1.what.bytes entry.1.what.level (extent_of entry.1)

-- a reference to what begins at an address
abbrev pub part_of : ℕ → Counted → ExtentPart
part_of at entry = Referenced at entry.reference entry.count

-- a record, and the references
abbrev pub parts_of_extent : ℕ × Kept → List ExtentPart
parts_of_extent entry = record_of entry ∷ map (part_of entry.0) entry.1.references

-- what the items of a table say
abbrev pub parts_of_book : List (ℕ × Kept) → List ExtentPart
parts_of_book table = flat_map parts_of_extent table

-- ---- the items

-- the item under a key of an address
abbrev pub item_at : ℕ → ℕ → ℕ → List ℕ → Item
item_at at kind offset body = record { key = key_with at kind offset; body = body }

-- the item of a reference; an EXTENT_DATA_REF has this number in its key
abbrev pub item_of_reference : ℕ → ℕ → Reference → ℕ → Item
item_of_reference at number (KeyedBlock root) count = item_at at TREE_BLOCK_REF root []
item_of_reference at number (KeyedData root ino offset) count =
    item_at at EXTENT_DATA_REF number
    (data_ref_text (record { root = root; objectid = ino; offset = offset; count = count }))
item_of_reference at number (SharedBlock parent) count = item_at at SHARED_BLOCK_REF parent []
item_of_reference at number (SharedData parent) count =
    item_at at SHARED_DATA_REF parent (shared_data_ref_text (record { count = count }))

-- the number of the next EXTENT_DATA_REF, behind this reference
abbrev pub number_behind : ℕ → Reference → ℕ
number_behind number (KeyedData root ino offset) = number + 1
number_behind number (KeyedBlock root) = number
number_behind number (SharedBlock parent) = number
number_behind number (SharedData parent) = number

-- the items of references, in their order; EXTENT_DATA_REFs are numbered from a number on
abbrev pub items_of_references : ℕ → ℕ → List Counted → List Item
items_of_references at number [] = []
items_of_references at number (entry ∷ entries) =
    item_of_reference at number entry.reference entry.count
    ∷ items_of_references at (number_behind number entry.reference) entries

-- the item of a record: an EXTENT_ITEM of so many bytes, or a METADATA_ITEM of a level
abbrev pub record_item : ℕ → ℕ → Option ℕ → ExtentItem → Item
record_item at bytes None extent = item_at at EXTENT_ITEM bytes (extent_text extent)
record_item at bytes (Some level) extent = item_at at METADATA_ITEM level (extent_text extent)

-- what the body of a record says that tells this
abbrev pub extent_of_head : Head → ExtentItem
extent_of_head head = record {
  refs = head.refs;
  generation = head.what.generation;
  flags = record_flags head.what.level head.full;
}

-- the item of the record that tells this of what begins at an address
abbrev pub item_of_head : ℕ → Head → Item
item_of_head at head = record_item at head.what.bytes head.what.level (extent_of_head head)

-- the item of the record of what is kept at an address
abbrev pub item_of_record : ℕ × Kept → Item
item_of_record entry = record_item entry.0 entry.1.what.bytes entry.1.what.level (extent_of entry.1)

-- the record, and the references; EXTENT_DATA_REFs are numbered from 0 on
abbrev pub items_of_extent : ℕ × Kept → List Item
items_of_extent entry = item_of_record entry ∷ items_of_references entry.0 0 entry.1.references

-- the items of a table, ascending by address
abbrev pub items_of_book : List (ℕ × Kept) → List Item
items_of_book table = flat_map items_of_extent table

-- ---- numbers of their fields

-- the numbers of a reference
abbrev pub ReferenceFits : Reference → Type 0
ReferenceFits (KeyedBlock root) = root < 2 ^ 64
ReferenceFits (KeyedData root ino offset) = (root < 2 ^ 64) × (ino < 2 ^ 64) × (offset < 2 ^ 64)
ReferenceFits (SharedBlock parent) = parent < 2 ^ 64
ReferenceFits (SharedData parent) = parent < 2 ^ 64

-- a reference and its count
pub record CountedFits (entry : Counted) : Type 0 where
  pub reference : ReferenceFits entry.reference
  pub count : entry.count < 2 ^ 32

-- what is kept at an address
pub record EntryFits (entry : ℕ × Kept) : Type 0 where
  pub address : entry.0 < 2 ^ 64
  pub bytes : entry.1.what.bytes < 2 ^ 64
  pub level : IfSome entry.1.what.level (λ level. level < 256)
  pub generation : entry.1.what.generation < 2 ^ 64
  pub refs : refs_of entry.1.references < 2 ^ 64
  pub references : All CountedFits entry.1.references
