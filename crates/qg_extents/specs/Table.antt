-- A book of references as it is kept in memory: a table by address, in bytes (this project's own).
use Rattle.std.specs.Prelude.{◌≡◌, ℕ, ◌<◌, ◌≤◌, List, length, Option, Some, if◌then◌else◌}
use Rattle.std.specs.BTreeMap.{is_at}
use Rattle.std.specs.List.Sorted.{IsStrictlySortedBy}
use Rattle.std.specs.Map.{keys_of, lookup}
use Rattle.std.specs.Ordering.{nat_cmp}
use Rattle.qg_items.specs.declared.extent.Reference.{Reference}
use Rattle.qg_refs.specs.declared.kept.Kept.{Kept}
use Rattle.qg_refs.specs.Book.{Book, IsBook, count_at, references_in}
use Rattle.qg_refs.specs.Counts.{IsRefList, count_of, greatest_count}

-- what a table keeps at an address
abbrev pub book_of : List (ℕ × Kept) → Book
book_of table at = lookup (is_at (nat_cmp at)) table

-- addresses ascend, each once; what is kept has a reference; and no reference is there more often than it may be
pub record IsTable (table : List (ℕ × Kept)) : Type 0 where
  pub ascend : IsStrictlySortedBy nat_cmp (keys_of table)
  pub book : IsBook (book_of table)
  pub fitting : (at : ℕ) (reference : Reference) → count_at (book_of table) at reference ≤ greatest_count reference

-- what a table may keep at an address
pub record MayKeep (kept : Option Kept) : Type 0 where
  pub sound : IsRefList (references_in kept)
  pub some : (there : Kept) → kept ≡ Some there → 0 < length there.references
  pub fitting : (reference : Reference) → count_of (references_in kept) reference ≤ greatest_count reference

-- a book has this at an address from now on, and is as it was elsewhere
pub record IsPut (old new : Book) (at : ℕ) (kept : Option Kept) : Type 0 where
  pub each : (q : ℕ) → new q ≡ (if is_at (nat_cmp at) q then kept else old q)
