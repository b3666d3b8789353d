-- The book of references that items of the extent tree tell (on-disk format, EXTENT_ITEM, METADATA_ITEM,
-- TREE_BLOCK_REF, EXTENT_DATA_REF, SHARED_BLOCK_REF and SHARED_DATA_REF). Addresses and lengths are in bytes.
use Rattle.std.specs.Prelude.{◌≡◌, ℕ, Bool, List, [], ◌∷◌, map, Option, None, IsTrue, is_some, if◌then◌else◌, ◌==◌}
use Rattle.std.specs.List.{filter, filter_map, list_all}
use Rattle.std.specs.Option.{option_and_then, option_map}
use Rattle.qg_node.specs.declared.item.Item.{Item}
use Rattle.qg_node.specs.Nodes.{is_ascending}
use Rattle.qg_items.specs.declared.extent.Reference.{Reference}
use Rattle.qg_tree_items.specs.Types.{ExtentPart}
use Rattle.qg_tree_items.specs.ItemMeaning.{extent_part}
use Rattle.qg_refs.specs.declared.counted.Counted.{Counted}
use Rattle.qg_refs.specs.declared.kept.Kept.{Kept}
use Rattle.qg_refs.specs.Book.{Book}
use Rattle.qg_refs.specs.Order.{precedes}
use Rattle.qg_extents.specs.declared.head.Head.{Head}
use Rattle.qg_extents.specs.BookRecords.{parts_at, records_failure, refs_told, tells_full, the_record, told_count}
use Rattle.qg_extents.specs.BookRecords.{told_in, what_told}

-- ---- what items say

-- what items say, in their order
abbrev pub parts_of : List Item → List ExtentPart
parts_of items = filter_map extent_part items

-- what the items of an address say
abbrev pub parts_here : List Item → ℕ → List ExtentPart
parts_here items at = parts_at (parts_of items) at

-- the items of an address
abbrev pub items_at : List Item → ℕ → List Item
items_at items at = filter (λ item. item.key.objectid == at) items

-- an item says something
abbrev pub is_said : Item → Bool
is_said item = is_some (extent_part item)

-- the items are the records of a book: their keys ascend, each says something, and at no address is what they say none
-- that a book may have there
pub record AreRecords (items : List Item) : Type 0 where
  pub ascending : IsTrue (is_ascending (map (λ item. item.key) items))
  pub said : IsTrue (list_all is_said items)
  pub sound : records_failure (parts_of items) ≡ None

-- ---- what they tell

-- what a record tells; a node has so many bytes
abbrev pub head_told : ℕ → ExtentPart → Option Head
head_told nodesize part =
    option_map (λ what. record { what = what; full = tells_full part; refs = refs_told part }) (what_told nodesize part)

-- what the record of an address tells, if there is one
abbrev pub head_at : ℕ → List Item → ℕ → Option Head
head_at nodesize items at = option_and_then (head_told nodesize) (the_record (parts_here items at))

-- how often a reference to an address is told
abbrev pub count_told : List Item → ℕ → Reference → ℕ
count_told items at reference = told_count (told_in (parts_here items at)) reference

-- one reference more, in its place among others
abbrev pub with_counted : Counted → List Counted → List Counted
with_counted new [] = new ∷ []
with_counted new (entry ∷ entries) =
    if precedes new.reference entry.reference then new ∷ entry ∷ entries else entry ∷ with_counted new entries

-- the references that are told, each with its count, in their order
abbrev pub references_told : List (Reference × ℕ) → List Counted
references_told [] = []
references_told (told ∷ others) =
    with_counted (record { reference = told.0; count = told.1 }) (references_told others)

-- what is kept where a record tells this and these references are told
abbrev pub kept_by : List (Reference × ℕ) → Head → Kept
kept_by told head = record { what = head.what; full = head.full; references = references_told told }

-- the book that items tell: nothing where there is no record, and else what it tells, with the references there
abbrev pub book_told : ℕ → List Item → Book
book_told nodesize items at = option_map (kept_by (told_in (parts_here items at))) (head_at nodesize items at)
