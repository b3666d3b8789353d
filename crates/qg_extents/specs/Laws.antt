-- What writing and reading a book are to each other, and to what is owed (this project's own).
use Rattle.std.specs.Prelude.{◌≡◌, ℕ, ◌<◌, Bool, true, false, ◌==◌, List, length, All, Some, None, nat_le}
use Rattle.std.specs.List.{list_all}
use Rattle.qg_node.specs.declared.node.Header.{Header}
use Rattle.qg_tree_items.specs.Types.{ExtentPart}
use Rattle.qg_tree_items.specs.State.{Layout}
use Rattle.qg_tree_items.specs.Owed.{Agrees, is_nothing, owed_to, what_at}
use Rattle.qg_tree_items.specs.Owed.What.{Block}
use Rattle.qg_refs.specs.declared.kept.Kept.{Kept}
use Rattle.qg_refs.specs.Book.{AgreesWithOwed, Book}
use Rattle.qg_refs.specs.Counts.{greatest_count}
use Rattle.qg_extents.specs.Table.{book_of, IsTable}
use Rattle.qg_extents.specs.BookRecords.{AreInOrder, IsTold, records_failure, told_in}
use Rattle.qg_extents.specs.Written.{parts_of_book}

-- ---- a book that is written and read

-- a record says all that is known: a data extent has no full mark; a node has so many bytes, and its level is a byte
pub record IsReadable (nodesize : ℕ) (kept : Kept) : Type 0 where
  pub extent : kept.what.level ≡ None → kept.full ≡ false
  pub node : (level : ℕ) → kept.what.level ≡ Some level → kept.what.bytes ≡ nodesize
  pub low : (level : ℕ) → kept.what.level ≡ Some level → level < 256

-- what the items of a table say stands by address, fails nowhere, and tells the table's book
pub record IsReadBack (nodesize : ℕ) (table : List (ℕ × Kept)) : Type 0 where
  pub ordered : AreInOrder (parts_of_book table)
  pub sound : records_failure (parts_of_book table) ≡ None
  pub told : IsTold nodesize (parts_of_book table) (book_of table)

-- so it is for each table that can be read
abbrev pub ReadsBack : Type 0
ReadsBack = (nodesize : ℕ) (table : List (ℕ × Kept)) → IsTable table → All (λ entry. IsReadable nodesize entry.1) table
    → IsReadBack nodesize table

-- ---- what is owed

-- a reference is owed exactly where something begins, and the levels of nodes are bytes
pub record IsOwing (layout : Layout) : Type 0 where
  pub owed : (at : ℕ) → is_nothing (what_at layout at) ≡ (length (owed_to layout at) == 0)
  pub low : (at : ℕ) (header : Header) (full : Bool) → what_at layout at ≡ Block header full → header.level < 256

-- no reference is told more often than it may be
abbrev pub AreFew : List ExtentPart → Type 0
AreFew parts = list_all (λ told. nat_le told.1 (greatest_count told.0)) (told_in parts) ≡ true

-- parts that agree with a layout fail nowhere, and the book that they tell agrees with it too
pub record IsOwedBook (nodesize : ℕ) (layout : Layout) (parts : List ExtentPart) (book : Book) : Type 0 where
  pub sound : records_failure parts ≡ None
  pub agrees : AgreesWithOwed layout book

-- so it is for parts that agree with a layout and tell a book
abbrev pub ReadsOwed : Type 0
ReadsOwed = (nodesize : ℕ) (layout : Layout) (parts : List ExtentPart) (book : Book)
    → Agrees layout parts → IsOwing layout → AreFew parts → IsTold nodesize parts book
    → IsOwedBook nodesize layout parts book
