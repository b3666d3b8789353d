-- The book below with the changes made (this project's own). Addresses are in bytes.
use Rattle.std.specs.Prelude.{◌≡◌, ◌≢◌, ℕ, ◌+◌, ◌≤◌, false, List, [], ◌∷◌, Option, Some, None, ◌==◌}
use Rattle.std.specs.Prelude.{if◌then◌else◌, IsSome}
use Rattle.qg_items.specs.declared.extent.Reference.{Reference}
use Rattle.qg_image.specs.Record.{same_reference}
use Rattle.qg_refs.specs.declared.counted.Counted.{Counted}
use Rattle.qg_refs.specs.declared.kept.Kept.{Kept}
use Rattle.qg_refs.specs.Order.{precedes}
use Rattle.qg_refs.specs.Counts.{count_of}
use Rattle.qg_refs.specs.Book.{Book, IsBook, references_in, full_in, what_in}
use Rattle.qg_delayed.specs.declared.change.Change.{Change}
use Rattle.qg_delayed.specs.declared.entry.Entry.{Entry}
use Rattle.qg_delayed.specs.Changes.{change_of, sum_below}
use Rattle.qg_delayed.specs.declared.head.Head.{Head}
use Rattle.qg_delayed.specs.Below.{HasTotal, total_of}
use Rattle.qg_delayed.specs.Entry.{HasAt, IsEntry, entry_at, entry_of, what_of, with_listed}

-- ---- what is there now

-- a reference so often before others; not at all where it is there 0 times
abbrev pub so_often : Reference → ℕ → List Counted → List Counted
so_often reference count rest =
    if count == 0 then rest else record { reference = reference; count = count } ∷ rest

-- references that ascend, with one so often as is said, whether it was there or not
abbrev pub with_count : Reference → ℕ → List Counted → List Counted
with_count reference count [] = so_often reference count []
with_count reference count (entry ∷ entries) =
    if same_reference reference entry.reference then so_often reference count entries
    else (if precedes reference entry.reference then so_often reference count (entry ∷ entries)
    else entry ∷ with_count reference count entries)

-- references with each that is changed so often as it is there now
abbrev pub with_changes : List Change → List Counted → List Counted
with_changes [] references = references
with_changes (change ∷ changes) references =
    with_count change.reference change.now (with_changes changes references)

-- how often a reference is there now: as its change says, and else as before
abbrev pub now_or : ℕ → Option Change → ℕ
now_or before None = before
now_or before (Some change) = change.now

-- how often one is there that has no change, and 0 where it has one
abbrev pub left_in : Counted → Option Change → ℕ
left_in entry None = entry.count
left_in entry (Some change) = 0

abbrev pub left_as : List Change → Counted → ℕ
left_as changes entry = left_in entry (change_of entry.reference changes)

-- what is there now, of what the book below has there: nothing where no reference is
abbrev pub merged_at : Option Kept → Entry → Option Kept
merged_at below entry =
    if entry.total == 0 then None
    else Some (record {
      what = what_of entry;
      full = entry.full;
      references = with_changes entry.changes (references_in below);
    })

-- the same where an address has an entry, and else what the book below has
abbrev pub merged_in : Option Kept → Option Entry → Option Kept
merged_in below None = below
merged_in below (Some entry) = merged_at below entry

-- the book below with all changes made
abbrev pub merged : Book → List (ℕ × Entry) → Book
merged below entries at = merged_in (below at) (entry_at entries at)

-- ---- of which book an entry speaks

-- what an entry says of the book below is so: how often each reference in its list is there, and the others together;
-- what is known there, unless all that is there now came later; the full mark
pub record IsOf (below : Option Kept) (entry : Entry) : Type 0 where
  pub counts : (reference : Reference) (change : Change) → change_of reference entry.changes ≡ Some change
      → change.below ≡ count_of (references_in below) reference
  pub others : entry.others + sum_below entry.changes ≡ total_of (references_in below)
  pub known : entry.begun ≡ false → what_in below ≡ Some (what_of entry)
  pub mark : full_in below ≡ entry.was_full

-- it is a book, and each entry speaks of what it has at its address
pub record Fits (below : Book) (entries : List (ℕ × Entry)) : Type 0 where
  pub book : IsBook below
  pub each : (at : ℕ) (entry : Entry) → entry_at entries at ≡ Some entry → IsOf (below at) entry

-- ---- what is known

-- an address was looked up
abbrev pub Knows : List (ℕ × Entry) → ℕ → Type 0
Knows entries at = IsSome (entry_at entries at)

-- the change of a reference, a count now, all counts now and those of the others, of an entry if there is one
abbrev pub change_in : Reference → Option Entry → Option Change
change_in reference None = None
change_in reference (Some entry) = change_of reference entry.changes

abbrev pub now_in : Option Change → ℕ
now_in change = now_or 0 change

abbrev pub total_in : Option Entry → ℕ
total_in None = 0
total_in (Some entry) = entry.total

abbrev pub others_in : Option Entry → ℕ
others_in None = 0
others_in (Some entry) = entry.others

-- the change of a reference to an address
abbrev pub change_at : List (ℕ × Entry) → ℕ → Reference → Option Change
change_at entries at reference = change_in reference (entry_at entries at)

-- a reference to an address was looked up
abbrev pub KnowsReference : List (ℕ × Entry) → ℕ → Reference → Type 0
KnowsReference entries at reference = IsSome (change_at entries at reference)

-- how often it is there now
abbrev pub count_now : List (ℕ × Entry) → ℕ → Reference → ℕ
count_now entries at reference = now_in (change_at entries at reference)

-- how often all references to an address are there now
abbrev pub total_now : List (ℕ × Entry) → ℕ → ℕ
total_now entries at = total_in (entry_at entries at)

-- how often those references are there that are not in the list
abbrev pub others_at : List (ℕ × Entry) → ℕ → ℕ
others_at entries at = others_in (entry_at entries at)

-- all references to an address were looked up, so that any other isn't there below
abbrev pub KnowsAll : List (ℕ × Entry) → ℕ → Type 0
KnowsAll entries at = others_at entries at ≡ 0

-- a reference is looked up, and what was looked up is
pub record KnowsMore (old new : List (ℕ × Entry)) (at : ℕ) (reference : Reference) : Type 0 where
  pub known : KnowsReference new at reference
  pub still : (other : Reference) → KnowsReference old at other → KnowsReference new at other

-- ---- what a call makes of the entries

-- what a book's head tells of an address is kept, where nothing was known
pub record TakesFirst (old new : List (ℕ × Entry)) (at : ℕ) (head : Option Head) : Type 0 where
  pub none : entry_at old at ≡ None
  pub total : HasTotal head
  pub first : HasAt old new at (entry_of head)

-- a reference that is there so often is listed with the address
pub record TakesListed (old new : List (ℕ × Entry)) (at : ℕ) (reference : Reference) (count : ℕ) : Type 0 where
  pub entry : Entry
  pub there : entry_at old at ≡ Some entry
  pub new_there : change_of reference entry.changes ≡ None
  pub listed : HasAt old new at (with_listed reference count entry)
  pub sound : IsEntry entry
  pub within : count ≤ entry.others
  pub after : IsEntry (with_listed reference count entry)

-- an edit of what is there now, whichever book lies below
pub record Edits (makes : Book → Book → Type 0) (old new : List (ℕ × Entry)) : Type 0 where
  pub fits : (below : Book) → Fits below old → Fits below new
  pub made : (below : Book) → Fits below old → makes (merged below old) (merged below new)

-- something more is known of an address: what speaks of a book afterwards spoke of it before, and what is there now is
-- the same
pub record Learns (old new : List (ℕ × Entry)) (at : ℕ) : Type 0 where
  pub fitted : (below : Book) → Fits below new → Fits below old
  pub same : (below : Book) → Fits below new → (q : ℕ) → merged below new q ≡ merged below old q
  pub elsewhere : (q : ℕ) → q ≢ at → entry_at new q ≡ entry_at old q
