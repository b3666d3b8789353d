-- What single items of the extent tree tell a reader (on-disk format, "backreferences"). Addresses and lengths are in
-- bytes.
use Rattle.std.specs.Prelude.{◌≡◌, ℕ, ◌<◌, Bool, List, Option, Some, None}
use Rattle.std.specs.List.{find}
use Rattle.std.specs.Option.{option_and_then}
use Rattle.qg_num.specs.declared.key.Key.{Key}
use Rattle.qg_node.specs.declared.item.Item.{Item}
use Rattle.qg_items.specs.declared.kind.TheConstants.{EXTENT_DATA_REF}
use Rattle.qg_items.specs.declared.extent.Reference.{Reference}
use Rattle.qg_tree_items.specs.Types.{Extents, ExtentPart}
use Rattle.qg_tree_items.specs.Types.{Referenced}
use Rattle.qg_tree_items.specs.ItemMeaning.{extent_part, some_passes, when}
use Rattle.qg_tree_items.specs.Keys.{key_with}
use Rattle.qg_tree_items.specs.Owed.{reference_told}
use Rattle.qg_tree_items.specs.Walk.{is_item_of}
use Rattle.qg_refs.specs.declared.counted.Counted.{Counted}
use Rattle.qg_refs.specs.Counts.{HasSoManyMore, count_of}
use Rattle.qg_extents.specs.declared.head.Head.{Head}
use Rattle.qg_extents.specs.BookRecords.{is_sound_record}
use Rattle.qg_extents.specs.Reading.{IsHeadOf}
use Rattle.qg_extent_items.specs.Standing.{tells}
use Rattle.qg_extent_items.specs.declared.standing.Standing.{Standing}

-- the item is a sound record that the tree may hold in an image of this generation
abbrev pub is_record_item : ℕ → Item → Bool
is_record_item generation item =
    some_passes is_sound_record (when (is_item_of Extents generation item) (extent_part item))

-- the item's record tells this; a node has so many bytes
pub record IsHeadIn (nodesize : ℕ) (item : Item) (head : Head) : Type 0 where
  pub part : ExtentPart
  pub says : extent_part item ≡ Some part
  pub is : IsHeadOf nodesize part head

-- the item tells the reference with this count
abbrev pub IsCountIn : ℕ → Reference → Item → ℕ → Type 0
IsCountIn at reference item count = extent_part item ≡ Some (Referenced at reference count)

-- the first item that tells it has this count, and this number in its key
pub record IsFirst (at : ℕ) (reference : Reference) (items : List Item) (standing : Standing) : Type 0 where
  pub item : Item
  pub first : find (tells at reference) items ≡ Some item
  pub count : IsCountIn at reference item standing.count
  pub number : standing.number ≡ item.key.offset

-- the reference that an item tells, with its count
abbrev pub told_of : Item → Option (Reference × ℕ)
told_of item = option_and_then reference_told (extent_part item)

-- a reference that is told comes to a list that doesn't have it, with its count; where none is told the list stays
abbrev pub IsAdded : Option (Reference × ℕ) → List Counted → List Counted → Type 0
IsAdded None old new = new ≡ old
IsAdded (Some told) old new = 0 < told.1 → count_of old told.0 ≡ 0 → HasSoManyMore old new told.0 told.1

-- the key of an EXTENT_DATA_REF of a number
abbrev pub data_ref_key : ℕ → ℕ → Key
data_ref_key at number = key_with at EXTENT_DATA_REF number
