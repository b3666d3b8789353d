-- When parts of the extent tree are the records of a book, and what they tell (this project's own). Addresses and
-- lengths are in bytes.
use Rattle.std.specs.Prelude.{◌≡◌, ⊤, ℕ, Bool, true, false, ◌&&◌, ◌||◌, not, List, [], ◌∷◌, length, map, Option, Some}
use Rattle.std.specs.Prelude.{None, ◌==◌, nat_lt, nat_le, if◌then◌else◌, ◌≤◌}
use Rattle.std.specs.List.{AllPairs, filter, filter_map, find, list_all, sum_by}
use Rattle.std.specs.Option.{option_and_then}
use Rattle.qg_items.specs.declared.extent.Reference.{Reference}
use Rattle.qg_tree_items.specs.Types.{ExtentPart}
use Rattle.qg_tree_items.specs.Types.{DataRecord, NodeRecord, Referenced}
use Rattle.qg_tree_items.specs.ItemMeaning.{some_passes}
use Rattle.qg_tree_items.specs.Record.{same_reference}
use Rattle.qg_tree_items.specs.Owed.{is_record, is_told_once, node_flags, part_address, reference_told}
use Rattle.qg_refs.specs.declared.kept.What.{What}
use Rattle.qg_refs.specs.declared.kept.Kept.{Kept}
use Rattle.qg_refs.specs.Book.{Book, count_at, full_in, what_in}
use Rattle.qg_refs.specs.Counts.{count_of, greatest_count}
use Rattle.qg_extents.specs.Table.{MayKeep}
use Rattle.qg_extents.specs.declared.fault.RefsFault.{RefsFault}
use Rattle.qg_extents.specs.declared.fault.RefsFault.TheVariants.{NoMemory, Broken}

-- ---- references

-- the references that parts tell, each with its count
abbrev pub told_in : List ExtentPart → List (Reference × ℕ)
told_in here = filter_map reference_told here

-- the sum of the counts
abbrev pub told_sum : List (Reference × ℕ) → ℕ
told_sum told = sum_by (λ entry. entry.1) told

-- the count that is told of a reference, 0 where it isn't told
abbrev pub told_count : List (Reference × ℕ) → Reference → ℕ
told_count told reference = sum_by (λ entry. if same_reference reference entry.0 then entry.1 else 0) told

-- the count isn't 0, and the reference may have it
abbrev pub is_count : Reference × ℕ → Bool
is_count entry = nat_lt 0 entry.1 && nat_le entry.1 (greatest_count entry.0)

-- there is a reference, and each is told once, with a count
abbrev pub are_counted : List (Reference × ℕ) → Bool
are_counted told = nat_lt 0 (length told) && (is_told_once told && list_all is_count told)

-- ---- a record

-- the flags are those of a data extent, or those of a node, whose level is a byte
abbrev pub is_sound_record : ExtentPart → Bool
is_sound_record (DataRecord address bytes extent) = extent.flags == 1
is_sound_record (NodeRecord address level extent) =
    ((extent.flags == node_flags false) || (extent.flags == node_flags true)) && nat_lt level 256
is_sound_record (Referenced address reference count) = false

-- the sum of the counts, as a record tells it
abbrev pub refs_told : ExtentPart → ℕ
refs_told (DataRecord address bytes extent) = extent.refs
refs_told (NodeRecord address level extent) = extent.refs
refs_told (Referenced address reference count) = 0

-- what a record tells; a node has so many bytes
abbrev pub what_told : ℕ → ExtentPart → Option What
what_told nodesize (DataRecord address bytes extent) =
    Some (record { bytes = bytes; level = None; generation = extent.generation })
what_told nodesize (NodeRecord address level extent) =
    Some (record { bytes = nodesize; level = Some level; generation = extent.generation })
what_told nodesize (Referenced address reference count) = None

-- a record tells the full mark
abbrev pub tells_full : ExtentPart → Bool
tells_full (DataRecord address bytes extent) = false
tells_full (NodeRecord address level extent) = extent.flags == node_flags true
tells_full (Referenced address reference count) = false

-- the only one of some
abbrev pub the_only : {A : Type 0} → List A → Option A
the_only [] = None
the_only (x ∷ []) = Some x
the_only (x ∷ y ∷ others) = None

-- the only record among parts
abbrev pub the_record : List ExtentPart → Option ExtentPart
the_record here = the_only (filter is_record here)

-- ---- one address, and all

-- parts at one address are what a book may have there: references, and one record with the sum of their counts
unfoldable pub is_entry : List ExtentPart → Bool
is_entry here =
    are_counted (told_in here)
    && some_passes (λ part. is_sound_record part && (refs_told part == told_sum (told_in here))) (the_record here)

-- the parts at an address
abbrev pub parts_at : List ExtentPart → ℕ → List ExtentPart
parts_at parts at = filter (λ part. part_address part == at) parts

-- the first address whose parts are not what a book may have there
unfoldable pub records_failure : List ExtentPart → Option ℕ
records_failure parts = find (λ at. not (is_entry (parts_at parts at))) (map part_address parts)

-- parts stand by address, as their items do by key
abbrev pub AreInOrder : List ExtentPart → Type 0
AreInOrder parts = AllPairs (λ part later. part_address part ≤ part_address later) parts

-- a fault says where parts fail
abbrev pub IsFault : Option ℕ → RefsFault → Type 0
IsFault failure (Broken at) = failure ≡ Some at
IsFault failure NoMemory = ⊤

-- a book has at each address what parts tell there; its nodes have so many bytes
pub record IsTold (nodesize : ℕ) (parts : List ExtentPart) (book : Book) : Type 0 where
  pub what : (at : ℕ) → what_in (book at) ≡ option_and_then (what_told nodesize) (the_record (parts_at parts at))
  pub full : (at : ℕ) → full_in (book at) ≡ some_passes tells_full (the_record (parts_at parts at))
  pub count : (at : ℕ) (reference : Reference)
      → count_at book at reference ≡ told_count (told_in (parts_at parts at)) reference

-- this is what parts at one address tell
pub record IsEntryOf (nodesize : ℕ) (here : List ExtentPart) (kept : Kept) : Type 0 where
  pub sound : is_entry here ≡ true
  pub what : Some kept.what ≡ option_and_then (what_told nodesize) (the_record here)
  pub full : kept.full ≡ some_passes tells_full (the_record here)
  pub count : (reference : Reference) → count_of kept.references reference ≡ told_count (told_in here) reference
  pub may : MayKeep (Some kept)
