-- What items of the extent tree tell, and that edits of them are edits of the book that they tell (this project's own).
-- Addresses and lengths are in bytes.
use Rattle.std.specs.Prelude.{◌≡◌, ◌≢◌, ℕ, ◌≤◌, ◌<◌, ◌^◌, List, map, Option, Some, None, IfSome, IsSome, IsTrue}
use Rattle.std.specs.List.{list_all}
use Rattle.qg_node.specs.declared.item.Item.{Item}
use Rattle.qg_node.specs.Nodes.{is_ascending}
use Rattle.qg_items.specs.declared.extent.Reference.{Reference}
use Rattle.qg_tree_items.specs.Types.{Extents}
use Rattle.qg_tree_items.specs.Walk.{is_item_of}
use Rattle.qg_refs.specs.declared.kept.What.{What}
use Rattle.qg_refs.specs.Book.{Adds, Book, Drops, IsBook, Marks, count_at}
use Rattle.qg_refs.specs.Counts.{greatest_count}
use Rattle.qg_extents.specs.declared.head.Head.{Head}
use Rattle.qg_extents.specs.BookRecords.{IsTold, records_failure}
use Rattle.qg_extents.specs.Written.{ReferenceFits}
use Rattle.qg_edit.specs.Edits.{CanEdit, IsShort, edited}
use Rattle.qg_edit.specs.declared.edit.Edit.{Edit}
use Rattle.qg_extent_items.specs.Told.{AreRecords, book_told, head_at, items_at, parts_of}
use Rattle.qg_extent_items.specs.Standing.{IsStanding}
use Rattle.qg_extent_items.specs.BookEdits.{edit_to_mark, edited_by, edits_to_add, edits_to_drop, head_more}
use Rattle.qg_extent_items.specs.declared.edits.BookEdits.{BookEdits}
use Rattle.qg_extent_items.specs.declared.standing.Standing.{Standing}

-- ---- what items tell

-- the tree may hold them in an image of a generation
abbrev pub AreAllowed : ℕ → List Item → Type 0
AreAllowed generation items = IsTrue (list_all (is_item_of Extents generation) items)

-- items of the extent tree that an opening lets pass are the records of a book
abbrev pub AreOpened : Type 0
AreOpened =
    (generation : ℕ) (items : List Item) → IsTrue (is_ascending (map (λ item. item.key) items))
    → AreAllowed generation items → records_failure (parts_of items) ≡ None → AreRecords items

-- what items tell is a book, in which no reference is more often than it may be, and no other book has at each address
-- what they tell there
pub record IsTheBook (nodesize : ℕ) (items : List Item) : Type 0 where
  pub sound : IsBook (book_told nodesize items)
  pub fitting : (at : ℕ) (reference : Reference)
      → count_at (book_told nodesize items) at reference ≤ greatest_count reference
  pub told : IsTold nodesize (parts_of items) (book_told nodesize items)
  pub only : (book : Book) → IsBook book → IsTold nodesize (parts_of items) book
      → (at : ℕ) → book at ≡ book_told nodesize items at

-- so it is for the records of a book
abbrev pub TellTheBook : Type 0
TellTheBook = (nodesize : ℕ) (items : List Item) → AreRecords items → IsTheBook nodesize items

-- ---- numbers

-- a node has so many bytes, and its level is a byte
abbrev pub IsKnown : ℕ → What → Type 0
IsKnown nodesize what = IfSome what.level (λ level. (level < 256) × (what.bytes ≡ nodesize))

-- the numbers of a record fit its fields
pub record HeadFits (head : Head) : Type 0 where
  pub refs : head.refs < 2 ^ 64
  pub generation : head.what.generation < 2 ^ 64

-- and so do those of a reference and of a record
pub record NumbersFit (reference : Reference) (head : Head) : Type 0 where
  pub of_reference : ReferenceFits reference
  pub of_record : HeadFits head

-- ---- edits

-- both edits can be made, one after the other, and no body is too long for the tree
pub record CanBeMade (edits : BookEdits) (items : List Item) : Type 0 where
  pub of_reference : CanEdit edits.of_reference items
  pub of_record : CanEdit edits.of_record (edited edits.of_reference items)
  pub short_reference : IsShort edits.of_reference.change
  pub short_record : IsShort edits.of_record.change

-- these are the records of a book too, and the items of other addresses are the same
pub record AreStillRecords (at : ℕ) (old new : List Item) : Type 0 where
  pub records : AreRecords new
  pub elsewhere : (other : ℕ) → other ≢ at → items_at new other ≡ items_at old other

-- a reference may be there once more, all numbers of its items fit their fields, and what is known of the first one is
-- what a record can tell
pub record MayComeIn (nodesize : ℕ) (what : What) (reference : Reference) (head : Option Head)
    (standing : Standing) : Type 0 where
  pub room : standing.count < greatest_count reference
  pub known : head ≡ None → IsKnown nodesize what
  pub fit : NumbersFit reference (head_more what head)

-- the edits make the book one with a reference more, and the tree may hold the items as it might before
pub record MakeAddition (nodesize : ℕ) (items : List Item) (at : ℕ) (what : What) (reference : Reference)
    (edits : BookEdits) : Type 0 where
  pub can : CanBeMade edits items
  pub still : AreStillRecords at items (edited_by edits items)
  pub adds : Adds (book_told nodesize items) (book_told nodesize (edited_by edits items)) at what reference
  pub allowed : (generation : ℕ) → what.generation ≤ generation → AreAllowed generation items
      → AreAllowed generation (edited_by edits items)

-- so it is for each reference that may come in
abbrev pub AddsByItems : Type 0
AddsByItems =
    (nodesize : ℕ) (items : List Item) (at : ℕ) (what : What) (reference : Reference) (standing : Standing)
    → AreRecords items → IsStanding at reference items standing
    → MayComeIn nodesize what reference (head_at nodesize items at) standing
    → MakeAddition nodesize items at what reference
    (edits_to_add at what reference (head_at nodesize items at) standing)

-- a reference is there, and all numbers of its items fit their fields
pub record MayGo (reference : Reference) (head : Head) (standing : Standing) : Type 0 where
  pub there : 0 < standing.count
  pub fit : NumbersFit reference head

-- the edits make the book one with a reference less, and the tree may hold the items as it might before
pub record MakeDrop (nodesize : ℕ) (items : List Item) (at : ℕ) (reference : Reference)
    (edits : BookEdits) : Type 0 where
  pub can : CanBeMade edits items
  pub still : AreStillRecords at items (edited_by edits items)
  pub drops : Drops (book_told nodesize items) (book_told nodesize (edited_by edits items)) at reference
  pub allowed : (generation : ℕ) → AreAllowed generation items → AreAllowed generation (edited_by edits items)

-- so it is for each reference that is there; then there is a record too
abbrev pub DropsByItems : Type 0
DropsByItems =
    (nodesize : ℕ) (items : List Item) (at : ℕ) (reference : Reference) (head : Head) (standing : Standing)
    → AreRecords items → head_at nodesize items at ≡ Some head → IsStanding at reference items standing
    → MayGo reference head standing
    → MakeDrop nodesize items at reference (edits_to_drop at reference head standing)

-- the edit makes the book one in which the address is full, and the tree may hold the items as it might before
pub record MakesMark (nodesize : ℕ) (items : List Item) (at : ℕ) (edit : Edit) : Type 0 where
  pub can : CanEdit edit items
  pub short : IsShort edit.change
  pub still : AreStillRecords at items (edited edit items)
  pub marks : Marks (book_told nodesize items) (book_told nodesize (edited edit items)) at
  pub allowed : (generation : ℕ) → AreAllowed generation items → AreAllowed generation (edited edit items)

-- so it is for each node: the record of a data extent has no room for the mark
abbrev pub MarksByItems : Type 0
MarksByItems =
    (nodesize : ℕ) (items : List Item) (at : ℕ) (head : Head) → AreRecords items → head_at nodesize items at ≡ Some head
    → IsSome head.what.level → HeadFits head
    → MakesMark nodesize items at (edit_to_mark at head)

-- where a reference to an address is told, there is a record
abbrev pub HaveHeads : Type 0
HaveHeads = (nodesize : ℕ) (items : List Item) (at : ℕ) (reference : Reference) → AreRecords items
    → 0 < count_at (book_told nodesize items) at reference → IsSome (head_at nodesize items at)
