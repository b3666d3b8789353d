-- Where the extent tree's items of an address stand, and what they tell (on-disk format, EXTENT_ITEM and what follows
-- it). Addresses are in bytes.
use Rattle.std.specs.Prelude.{◌≡◌, ℕ, false, List, Option, Some, None, IsTrue, MatchOption, is_some}
use Rattle.std.specs.List.{filter_map, list_all}
use Rattle.qg_device.specs.History.{History}
use Rattle.qg_num.specs.declared.key.Key.{Key}
use Rattle.qg_node.specs.declared.item.Item.{Item}
use Rattle.qg_items.specs.declared.extent.Reference.{Reference}
use Rattle.qg_items.specs.declared.extent.Reference.TheVariants.{KeyedBlock, SharedBlock, KeyedData, SharedData}
use Rattle.qg_items.specs.declared.kind.TheConstants.{EXTENT_ITEM, TREE_BLOCK_REF, EXTENT_DATA_REF, SHARED_BLOCK_REF}
use Rattle.qg_items.specs.declared.kind.TheConstants.{SHARED_DATA_REF}
use Rattle.qg_super.specs.Places.{is_served}
use Rattle.qg_blocks.specs.NodesInMemory.{Draft}
use Rattle.qg_tree_items.specs.ItemMeaning.{extent_part}
use Rattle.qg_tree_items.specs.Keys.{key_with}
use Rattle.qg_tree_items.specs.Types.{ExtentPart, Extents}
use Rattle.qg_tree_read.specs.Tree.{Root, TellsTree}
use Rattle.qg_extents.specs.BookRecords.{is_sound_record, parts_at}
use Rattle.qg_extents.specs.Reading.{IsHeadOf}
use Rattle.qg_extents.specs.declared.head.Head.{Head}

-- ---- where they stand

-- the items of an address stand from this key on, by their types: the least is that of its record, an EXTENT_ITEM (168)
-- or a METADATA_ITEM (169)
abbrev pub first_at : ℕ → Key
first_at at = key_with at EXTENT_ITEM 0

-- no record of the address stands from this key on
abbrev pub records_end : ℕ → Key
records_end at = key_with at 170 0

-- the references to it stand from this one on: the least type is TREE_BLOCK_REF (176)
abbrev pub references_begin : ℕ → Key
references_begin at = key_with at TREE_BLOCK_REF 0

-- and none from this one on: the greatest type is SHARED_DATA_REF (184)
abbrev pub end_at : ℕ → Key
end_at at = key_with at 185 0

-- The item of a reference stands from this key on. An EXTENT_DATA_REF has some number in its key, and any other item
-- names what it is from
abbrev pub reference_from : ℕ → Reference → Key
reference_from at (KeyedBlock root) = key_with at TREE_BLOCK_REF root
reference_from at (KeyedData root ino offset) = key_with at EXTENT_DATA_REF 0
reference_from at (SharedBlock parent) = key_with at SHARED_BLOCK_REF parent
reference_from at (SharedData parent) = key_with at SHARED_DATA_REF parent

-- up to this one
abbrev pub reference_to : ℕ → Reference → Key
reference_to at (KeyedBlock root) = key_with at TREE_BLOCK_REF root
reference_to at (KeyedData root ino offset) = key_with at 179 0
reference_to at (SharedBlock parent) = key_with at SHARED_BLOCK_REF parent
reference_to at (SharedData parent) = key_with at SHARED_DATA_REF parent

-- ---- what they tell

-- what the items of the tree say of an address, in the order of their keys
abbrev pub told_at : ℕ → List Item → List ExtentPart
told_at at items = parts_at (filter_map extent_part items) at

-- each item says something
abbrev pub EachSays : List Item → Type 0
EachSays items = IsTrue (list_all (λ item. is_some (extent_part item)) items)

-- nodes in memory and a disk tell an extent tree, each of whose items says something, in nodes of a size that is served
pub record TellsRecords (root : Root) (draft : Draft) (history : History) (items : List Item) : Type 0 where
  pub tells : TellsTree Extents root draft history items
  pub says : EachSays items
  pub served : IsTrue (is_served draft.sizes)

-- what an only record tells, if it is a sound one; of none nothing. A node has so many bytes
abbrev pub IsHead : ℕ → Option ExtentPart → Option Head → Type 0
IsHead nodesize None head = head ≡ None
IsHead nodesize (Some part) head = MatchOption head (is_sound_record part ≡ false) (IsHeadOf nodesize part)
