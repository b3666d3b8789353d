-- Items that an opening lets pass.
use Rattle.std.proofs.Common.{◌≡◌, ℕ, true, List, [], ◌∷◌, map, None, refl}
use Rattle.std.specs.List.{list_all}
use Rattle.std.proofs.lemmas.Bool.{and_from, and_parts}
use Rattle.qg_node.specs.declared.item.Item.{Item}
use Rattle.qg_node.specs.Nodes.{is_ascending}
use Rattle.qg_tree_items.specs.Types.{Extents}
use Rattle.qg_tree_items.specs.PartsSaid.{extent_said}
use Rattle.qg_tree_items.specs.Walk.{is_item_of}
use Rattle.qg_extents.specs.BookRecords.{records_failure}
use Rattle.qg_extent_items.specs.Told.{AreRecords, is_said, parts_of}

all_said : (generation : ℕ) (items : List Item) → list_all (is_item_of Extents generation) items ≡ true
    → list_all is_said items ≡ true
all_said generation [] all = refl
all_said generation (item ∷ items) all =
    let parts = and_parts (is_item_of Extents generation item) (list_all (is_item_of Extents generation) items) all in
    and_from (is_said item) (list_all is_said items) (extent_said generation item parts.0)
    (all_said generation items parts.1)

-- they are the records of a book
pub are-opened : (generation : ℕ) (items : List Item) → is_ascending (map (λ item. item.key) items) ≡ true
    → list_all (is_item_of Extents generation) items ≡ true → records_failure (parts_of items) ≡ None
    → AreRecords items
are-opened generation items ascending all sound =
    record { ascending = ascending; said = all_said generation items all; sound = sound }
