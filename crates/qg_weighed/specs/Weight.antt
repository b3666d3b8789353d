-- What the items of the extent tree take that stand for two books of references, each once (this project's own). A need
-- of slots is reckoned by it. Addresses and lengths are in bytes.
use Rattle.std.specs.Prelude.{◌≡◌, ℕ, ◌+◌, Bool, false, ◌||◌, List, ◌++◌, map, Option, Some, None, is_some, ◌==◌}
use Rattle.std.specs.Prelude.{nat_lt, if◌then◌else◌}
use Rattle.std.specs.List.{sum_by}
use Rattle.qg_items.specs.declared.extent.Reference.{Reference}
use Rattle.qg_image.specs.Record.{Record, ExtentOf, NodeOf, extent_record, records_bytes, reference_body}
use Rattle.qg_extents.specs.Types.{What}
use Rattle.qg_extents.specs.Types.{Kept}
use Rattle.qg_extents.specs.Book.{references_in}
use Rattle.qg_extents.specs.Counts.{count_of}
use Rattle.qg_extents.specs.Table.{IsTable}
use Rattle.qg_extents.specs.Written.{parts_of_book}

-- ---- what two books take

-- what the items name that stand for a table: for each address a record, then its references
abbrev pub records_in : List (ℕ × Kept) → List Record
records_in table = map extent_record (parts_of_book table)

-- what the items take, in bytes, that one of two tables has, each once
unfoldable pub weight_of : List (ℕ × Kept) → List (ℕ × Kept) → ℕ
weight_of held refs = records_bytes (records_in held ++ records_in refs)

-- a book of references, and the one that the last commit recorded
pub record Books : Type 0 where
  pub refs : List (ℕ × Kept)
  pub held : List (ℕ × Kept)

-- both are tables, and this is what they take
pub record IsWeighed (refs held : List (ℕ × Kept)) (bytes : ℕ) : Type 0 where
  pub refs_kept : IsTable refs
  pub held_kept : IsTable held
  pub weight : bytes ≡ weight_of held refs

-- ---- one reference more

-- the record of a node of a level, or of a data extent of so many bytes, that begins at an address
abbrev pub record_of_level : ℕ → ℕ → Option ℕ → Record
record_of_level at bytes None = ExtentOf at bytes
record_of_level at bytes (Some level) = NodeOf at level

-- the record of what is known of what begins at an address
abbrev pub record_known : ℕ → What → Record
record_known at what = record_of_level at what.bytes what.level

-- both are nodes of one level, or data extents of one length
abbrev pub is_level_alike : ℕ → Option ℕ → ℕ → Option ℕ → Bool
is_level_alike bytes None bytes' None = bytes == bytes'
is_level_alike bytes (Some level) bytes' (Some level') = level == level'
is_level_alike bytes None bytes' (Some level') = false
is_level_alike bytes (Some level) bytes' None = false

-- what is known of two is of one level, or of one length
abbrev pub is_alike : What → What → Bool
is_alike what other = is_level_alike what.bytes what.level other.bytes other.level

-- what is kept has the same record
abbrev pub has_record : Option Kept → What → Bool
has_record None what = false
has_record (Some kept) what = is_alike what kept.what

-- what is kept has a reference
abbrev pub has_reference : Option Kept → Reference → Bool
has_reference kept reference = nat_lt 0 (count_of (references_in kept) reference)

-- what the item of a record takes: its header, and its body
abbrev pub extent_record_bytes : ℕ
extent_record_bytes = 25 + 24

-- what the item of a reference takes: its header, and its body
abbrev pub reference_bytes : Reference → ℕ
reference_bytes reference = 25 + reference_body reference

-- what a reference more takes, and with the first one the record, where two books keep this there: nothing for what one
-- of them has already
abbrev pub lacking : Option Kept → Option Kept → What → Reference → ℕ
lacking held here what reference =
    (if has_reference held reference || has_reference here reference then 0 else reference_bytes reference)
    + (if has_record held what || is_some here then 0 else extent_record_bytes)

-- ---- one book

-- what the items take of what is kept at an address: a record, and the references
abbrev pub extent_bytes : Kept → ℕ
extent_bytes kept = extent_record_bytes + sum_by (λ entry. reference_bytes entry.reference) kept.references

-- what the items take that stand for a table
abbrev pub table_bytes : List (ℕ × Kept) → ℕ
table_bytes table = sum_by (λ entry. extent_bytes entry.1) table
