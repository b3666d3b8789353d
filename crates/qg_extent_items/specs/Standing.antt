-- How a reference stands among items of the extent tree (on-disk format, "backreferences"). Addresses are in bytes.
use Rattle.std.specs.Prelude.{◌≡◌, ⊤, ℕ, ◌<◌, Bool, false, not, ◌&&◌, List, Option, IsTrue, MatchOption, ◌==◌}
use Rattle.std.specs.List.{find}
use Rattle.std.specs.Option.{option_map}
use Rattle.qg_node.specs.declared.item.Item.{Item}
use Rattle.qg_items.specs.declared.kind.TheConstants.{EXTENT_DATA_REF}
use Rattle.qg_items.specs.declared.extent.Reference.{Reference}
use Rattle.qg_items.specs.declared.extent.Reference.TheVariants.{KeyedBlock, SharedBlock, KeyedData, SharedData}
use Rattle.qg_tree_items.specs.Types.{ExtentPart}
use Rattle.qg_tree_items.specs.Types.{DataRecord, NodeRecord, Referenced}
use Rattle.qg_tree_items.specs.ItemMeaning.{extent_part, some_passes}
use Rattle.qg_tree_items.specs.Keys.{key_with}
use Rattle.qg_tree_items.specs.Record.{same_reference}
use Rattle.qg_edit.specs.Edits.{has_key}
use Rattle.qg_extent_items.specs.Told.{count_told}
use Rattle.qg_extent_items.specs.declared.standing.Standing.{Standing}

-- a part is this reference to an address
abbrev pub is_reference_to : ℕ → Reference → ExtentPart → Bool
is_reference_to at reference (Referenced address told count) = (address == at) && same_reference reference told
is_reference_to at reference (DataRecord address bytes extent) = false
is_reference_to at reference (NodeRecord address level extent) = false

-- an item tells it
abbrev pub tells : ℕ → Reference → Item → Bool
tells at reference item = some_passes (is_reference_to at reference) (extent_part item)

-- the number in the key of the item that tells it
abbrev pub number_of : ℕ → Reference → List Item → Option ℕ
number_of at reference items = option_map (λ item. item.key.offset) (find (tells at reference) items)

-- the least number that no EXTENT_DATA_REF of an address has. The format leaves open which one a new reference takes
pub record IsFreeNumber (at : ℕ) (items : List Item) (number : ℕ) : Type 0 where
  pub free : IsTrue (not (has_key (key_with at EXTENT_DATA_REF number) items))
  pub least : (lesser : ℕ) → lesser < number → IsTrue (has_key (key_with at EXTENT_DATA_REF lesser) items)

-- the number of a keyed reference to data is that of its EXTENT_DATA_REF, and where it has none the least free one; no
-- other reference has a number
abbrev pub HasNumber : ℕ → List Item → Reference → ℕ → Type 0
HasNumber at items (KeyedData root ino offset) number =
    MatchOption (number_of at (KeyedData root ino offset) items) (IsFreeNumber at items number)
    (λ there. number ≡ there)
HasNumber at items (KeyedBlock root) number = ⊤
HasNumber at items (SharedBlock parent) number = ⊤
HasNumber at items (SharedData parent) number = ⊤

-- a reference to an address stands so among items: with this count, and under this number
pub record IsStanding (at : ℕ) (reference : Reference) (items : List Item) (standing : Standing) : Type 0 where
  pub count : standing.count ≡ count_told items at reference
  pub number : HasNumber at items reference standing.number
