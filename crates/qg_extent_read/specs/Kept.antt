-- What readers keep of the items that they take (this project's own).
use Rattle.std.specs.Prelude.{◌≤◌, List, [], ◌∷◌, ◌++◌, Option, Some, None, if◌then◌else◌}
use Rattle.std.specs.List.{count_by}
use Rattle.qg_node.specs.declared.item.Item.{Item}
use Rattle.qg_items.specs.declared.extent.Reference.{Reference}
use Rattle.qg_tree_items.specs.ItemMeaning.{extent_part}
use Rattle.qg_tree_items.specs.Types.{ExtentPart}
use Rattle.qg_tree_items.specs.Types.{DataRecord, NodeRecord, Referenced}
use Rattle.qg_tree_items.specs.Owed.{is_record}
use Rattle.qg_tree_items.specs.Record.{same_reference}
use Rattle.qg_refs.specs.declared.counted.Counted.{Counted}
use Rattle.qg_extent_read.specs.declared.heads.Records.{Records}
use Rattle.qg_extent_read.specs.declared.heads.Records.TheVariants.{Nothing, One, Several}
use Rattle.qg_extent_read.specs.declared.counting.Counting.{Counting}

-- one part more
abbrev pub with_part : List ExtentPart → ExtentPart → List ExtentPart
with_part parts part = parts ++ part ∷ []

-- one record more than these
abbrev pub one_more : Records → ExtentPart → Records
one_more Nothing part = One part
one_more (One first) part = Several
one_more Several part = Several

-- what is kept of records once one more part is taken
abbrev pub with_record : Records → ExtentPart → Records
with_record records part = if is_record part then one_more records part else records

-- the count that was last told of the reference that is asked for
abbrev pub with_count : Counting → ExtentPart → Counting
with_count counting (DataRecord address bytes extent) = counting
with_count counting (NodeRecord address level extent) = counting
with_count counting (Referenced address reference count) =
    if same_reference counting.reference reference then record counting { count = count } else counting

-- the only one of records
abbrev pub only_of : Records → Option ExtentPart
only_of Nothing = None
only_of (One part) = Some part
only_of Several = None

-- one reference more, as a part tells it
abbrev pub with_reference : List Counted → ExtentPart → List Counted
with_reference counts (DataRecord address bytes extent) = counts
with_reference counts (NodeRecord address level extent) = counts
with_reference counts (Referenced address reference count) =
    counts ++ record { reference = reference; count = count } ∷ []

-- no reference is there twice
abbrev pub AreOnce : List Counted → Type 0
AreOnce counts = (reference : Reference) → count_by (λ entry. same_reference reference entry.reference) counts ≤ 1

-- ---- of an item

-- what a step does with what an item says; with none it does nothing
abbrev pub by_part : {R : Type 0} → (R → ExtentPart → R) → R → Option ExtentPart → R
by_part step reader None = reader
by_part step reader (Some part) = step reader part

-- what each reader is once it has taken an item
abbrev pub parts_with : List ExtentPart → Item → List ExtentPart
parts_with parts item = by_part with_part parts (extent_part item)

abbrev pub records_with : Records → Item → Records
records_with records item = by_part with_record records (extent_part item)

abbrev pub counting_with : Counting → Item → Counting
counting_with counting item = by_part with_count counting (extent_part item)

abbrev pub references_with : List Counted → Item → List Counted
references_with counts item = by_part with_reference counts (extent_part item)
