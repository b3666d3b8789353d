-- Which edits of the extent tree's items an edit of a book of references is (on-disk format, "backreferences").
-- Addresses are in bytes.
use Rattle.std.specs.Prelude.{ℕ, ◌+◌, ◌-◌, Bool, true, false, List, Option, Some, None, is_some, nat_lt, ◌==◌}
use Rattle.std.specs.Prelude.{if◌then◌else◌}
use Rattle.qg_node.specs.declared.item.Item.{Item}
use Rattle.qg_items.specs.declared.extent.Reference.{Reference}
use Rattle.qg_refs.specs.declared.kept.What.{What}
use Rattle.qg_extents.specs.declared.head.Head.{Head}
use Rattle.qg_extents.specs.Written.{item_of_head, item_of_reference}
use Rattle.qg_edit.specs.Edits.{edited}
use Rattle.qg_edit.specs.declared.edit.Edit.{Edit}
use Rattle.qg_edit.specs.declared.edit.Change.TheVariants.{Insert, Replace, Remove}
use Rattle.qg_extent_items.specs.declared.edits.BookEdits.{BookEdits}
use Rattle.qg_extent_items.specs.declared.standing.Standing.{Standing}

-- ---- one item

-- an item comes in, or where one with its key is there, that one gets its body
abbrev pub put_item : Bool → Item → Edit
put_item there item = record { key = item.key; change = if there then Replace item.body else Insert item.body }

-- an item goes
abbrev pub take_item : Item → Edit
take_item item = record { key = item.key; change = Remove }

-- an item of a count tells one less; where that is none, it goes
abbrev pub lessened : ℕ → (ℕ → Item) → Edit
lessened count item_of = if count == 1 then take_item (item_of count) else put_item true (item_of (count - 1))

-- ---- an edit of a book

-- what the record tells with a reference more: what it told, or for the first one what is known now, without the full
-- mark
abbrev pub head_more : What → Option Head → Head
head_more what None = record { what = what; full = false; refs = 1 }
head_more what (Some head) = record head { refs = head.refs + 1 }

-- what the record tells with a reference less, if one is left
abbrev pub head_less : Head → Option Head
head_less head = if head.refs == 1 then None else Some (record head { refs = head.refs - 1 })

-- one reference more: its count is one more, and so is the sum
abbrev pub edits_to_add : ℕ → What → Reference → Option Head → Standing → BookEdits
edits_to_add at what reference head standing = record {
  of_reference = put_item (nat_lt 0 standing.count)
      (item_of_reference at standing.number reference (standing.count + 1));
  of_record = put_item (is_some head) (item_of_head at (head_more what head));
}

-- one reference less: its count is one less, and so is the sum
abbrev pub edits_to_drop : ℕ → Reference → Head → Standing → BookEdits
edits_to_drop at reference head standing = record {
  of_reference = lessened standing.count (item_of_reference at standing.number reference);
  of_record = lessened head.refs (λ refs. item_of_head at (record head { refs = refs }));
}

-- a node has the full mark
abbrev pub edit_to_mark : ℕ → Head → Edit
edit_to_mark at head = put_item true (item_of_head at (record head { full = true }))

-- both edits of items, the reference's first
abbrev pub edited_by : BookEdits → List Item → List Item
edited_by edits items = edited edits.of_record (edited edits.of_reference items)
