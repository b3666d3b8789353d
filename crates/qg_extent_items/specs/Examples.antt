-- Edits of the extent tree's items of small images, as they stand in a leaf. All were worked out by hand.
use Rattle.std.specs.Prelude.{◌≡◌, ℕ, Bool, false, List, [], ◌∷◌, ◌++◌, Some, None, refl}
use Rattle.qg_num.specs.Fields.{u64_bytes, u32_bytes, u64_at, u32_at}
use Rattle.qg_node.specs.declared.item.Item.{Item}
use Rattle.qg_items.specs.declared.extent.Reference.TheVariants.{KeyedBlock, KeyedData, SharedData}
use Rattle.qg_items.specs.ItemText.{extent_text, data_ref_text, shared_data_ref_text}
use Rattle.qg_items.specs.ItemReading.{extent_read, data_ref_read}
use Rattle.qg_tree_items.specs.ItemMeaning.{extent_part}
use Rattle.qg_extents.specs.declared.head.Head.{Head}
use Rattle.qg_extents.specs.Examples.{eight, extent_kept, four, leaf_kept, next_hundreds, once}
use Rattle.qg_extents.specs.Written.{item_at}
use Rattle.qg_edit.specs.Edits.{edited}
use Rattle.qg_extent_items.specs.Told.{book_told, head_at}
use Rattle.qg_extent_items.specs.Standing.{number_of}
use Rattle.qg_extent_items.specs.BookEdits.{edit_to_mark, edited_by, edits_to_add, edits_to_drop}
use Rattle.qg_extent_items.specs.declared.standing.Standing.{Standing}

-- ---- a node: the root of subvolume 5, a leaf of generation 1

abbrev pub leaf_items : List Item
leaf_items = item_at 1081344 169 0 (eight 1 ++ eight 1 ++ eight 2) ∷ item_at 1081344 176 5 [] ∷ []

-- what its record tells, with this mark and so many references
abbrev pub leaf_head : Bool → ℕ → Head
leaf_head full refs = record {
  what = record { bytes = 16384; level = Some 0; generation = 1 };
  full = full;
  refs = refs;
}

-- a reference that isn't there, and one that is there once
abbrev pub absent : Standing
absent = record { count = 0; number = 0 }

abbrev pub there_once : Standing
there_once = record { count = 1; number = 0 }

leaf-head : head_at 16384 leaf_items 1081344 ≡ Some (leaf_head false 1)
unfolding extent_part extent_read u64_at
leaf-head = refl

leaf-book : book_told 16384 leaf_items 1081344 ≡ Some (leaf_kept 1 false (KeyedBlock 5))
unfolding extent_part extent_read u64_at
leaf-book = refl

nothing-elsewhere : book_told 16384 leaf_items 1097728 ≡ None
unfolding extent_part extent_read u64_at
nothing-elsewhere = refl

-- subvolume 256 comes to reach it too
leaf-shared :
    edited_by (edits_to_add 1081344 (leaf_head false 1).what (KeyedBlock 256) (Some (leaf_head false 1)) absent)
    leaf_items
    ≡ item_at 1081344 169 0 (eight 2 ++ eight 1 ++ eight 2)
    ∷ item_at 1081344 176 5 []
    ∷ item_at 1081344 176 256 []
    ∷ []
unfolding extent_text u64_bytes
leaf-shared = refl

-- it is full
leaf-marked :
    edited (edit_to_mark 1081344 (leaf_head false 1)) leaf_items
    ≡ item_at 1081344 169 0 (eight 1 ++ eight 1 ++ next_hundreds 2)
    ∷ item_at 1081344 176 5 []
    ∷ []
unfolding extent_text u64_bytes
leaf-marked = refl

-- its only reference goes, and so does its record
leaf-gone :
    edited_by (edits_to_drop 1081344 (KeyedBlock 5) (leaf_head false 1) there_once) leaf_items ≡ []
leaf-gone = refl

-- it was recorded by its first reference
leaf-first :
    edited_by (edits_to_add 1081344 (leaf_head false 1).what (KeyedBlock 5) None absent) [] ≡ leaf_items
unfolding extent_text u64_bytes
leaf-first = refl

-- ---- a data extent of 8192 bytes of generation 2: a reference of subvolume 256 is numbered 0, and one of 5 behind it 1

abbrev pub extent_items : ℕ → ℕ → List Item
extent_items refs count =
    item_at 67174400 168 8192 (eight refs ++ eight 2 ++ eight 1)
    ∷ item_at 67174400 178 0 (next_hundreds 0 ++ next_hundreds 1 ++ eight 0 ++ four 1)
    ∷ item_at 67174400 178 1 (eight 5 ++ next_hundreds 1 ++ eight 0 ++ four count)
    ∷ []

abbrev pub extent_head : ℕ → Head
extent_head refs = record {
  what = record { bytes = 8192; level = None; generation = 2 };
  full = false;
  refs = refs;
}

-- the book has them in their own order
extent-book :
    book_told 16384 (extent_items 2 1) 67174400
    ≡ Some (extent_kept 8192 2 (once (KeyedData 5 257 0) ∷ once (KeyedData 256 257 0) ∷ []))
unfolding extent_part extent_read data_ref_read u64_at u32_at
extent-book = refl

extent-number : number_of 67174400 (KeyedData 5 257 0) (extent_items 2 1) ≡ Some 1
unfolding extent_part extent_read data_ref_read u64_at u32_at
extent-number = refl

extent-untold : number_of 67174400 (KeyedData 257 257 0) (extent_items 2 1) ≡ None
unfolding extent_part extent_read data_ref_read u64_at u32_at
extent-untold = refl

-- one more piece of subvolume 5 names it
extent-more :
    edited_by (edits_to_add 67174400 (extent_head 2).what (KeyedData 5 257 0) (Some (extent_head 2))
    (record { count = 1; number = 1 })) (extent_items 2 1)
    ≡ extent_items 3 2
unfolding extent_text data_ref_text u64_bytes u32_bytes
extent-more = refl

-- and one less
extent-less :
    edited_by (edits_to_drop 67174400 (KeyedData 5 257 0) (extent_head 3) (record { count = 2; number = 1 }))
    (extent_items 3 2)
    ≡ extent_items 2 1
unfolding extent_text data_ref_text u64_bytes u32_bytes
extent-less = refl

-- the reference of 256 goes, and its number is free
extent-freed :
    edited_by (edits_to_drop 67174400 (KeyedData 256 257 0) (extent_head 2) (record { count = 1; number = 0 }))
    (extent_items 2 1)
    ≡ item_at 67174400 168 8192 (eight 1 ++ eight 2 ++ eight 1)
    ∷ item_at 67174400 178 1 (eight 5 ++ next_hundreds 1 ++ eight 0 ++ four 1)
    ∷ []
unfolding extent_text u64_bytes
extent-freed = refl

-- a leaf that is full comes to name the extent
extent-parent :
    edited_by (edits_to_add 67174400 (extent_head 1).what (SharedData 1081344) (Some (extent_head 1)) absent)
    (item_at 67174400 168 8192 (eight 1 ++ eight 2 ++ eight 1)
    ∷ item_at 67174400 178 1 (eight 5 ++ next_hundreds 1 ++ eight 0 ++ four 1)
    ∷ [])
    ≡ item_at 67174400 168 8192 (eight 2 ++ eight 2 ++ eight 1)
    ∷ item_at 67174400 178 1 (eight 5 ++ next_hundreds 1 ++ eight 0 ++ four 1)
    ∷ item_at 67174400 184 1081344 (four 1)
    ∷ []
unfolding extent_text shared_data_ref_text u64_bytes u32_bytes
extent-parent = refl
