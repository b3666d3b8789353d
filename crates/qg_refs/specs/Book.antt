-- What a book of references holds, and what its edits do (this project's own). Addresses are in bytes.
use Rattle.std.specs.Prelude.{◌≡◌, ◌≢◌, ℕ, ◌+◌, ◌<◌, Bool, true, false, List, [], ◌∷◌, length, Option, Some, None}
use Rattle.std.specs.Prelude.{unwrap_or}
use Rattle.std.specs.Option.{option_map}
use Rattle.qg_items.specs.declared.extent.Reference.{Reference}
use Rattle.qg_image.specs.State.{Layout}
use Rattle.qg_image.specs.Owed.{owed_count}
use Rattle.qg_refs.specs.declared.counted.Counted.{Counted}
use Rattle.qg_refs.specs.declared.kept.What.{What}
use Rattle.qg_refs.specs.declared.kept.Kept.{Kept}
use Rattle.qg_refs.specs.Counts.{count_of, HasOneMore, IsRefList, greatest_count}

-- what is kept at each address: nothing where it has no reference
abbrev pub Book : Type 0
Book = ℕ → Option Kept

-- ---- what stands at an address

-- the references, each with its count
abbrev pub references_in : Option Kept → List Counted
references_in None = []
references_in (Some kept) = kept.references

-- the full mark: an address without a reference isn't full
abbrev pub full_in : Option Kept → Bool
full_in None = false
full_in (Some kept) = kept.full

-- what is known
abbrev pub what_in : Option Kept → Option What
what_in kept = option_map (λ (some : Kept). some.what) kept

-- the references to what begins at an address, each with its count
abbrev pub references_at : Book → ℕ → List Counted
references_at book at = references_in (book at)

-- how often a reference to it is there
abbrev pub count_at : Book → ℕ → Reference → ℕ
count_at book at reference = count_of (references_at book at) reference

-- a book that holds nothing
abbrev pub no_references : Book
no_references address = None

-- what is kept has a reference, and its references are a list of them
pub record IsBook (book : Book) : Type 0 where
  pub sound : (at : ℕ) → IsRefList (references_at book at)
  pub some : (at : ℕ) (kept : Kept) → book at ≡ Some kept → 0 < length kept.references

-- the book agrees with a layout's references that are owed
abbrev pub AgreesWithOwed : Layout → Book → Type 0
AgreesWithOwed layout book = (at : ℕ) (reference : Reference)
    → count_at book at reference ≡ owed_count layout at reference

-- ---- edits

-- one reference more at an address. What is known of it there stays; where it has no reference yet, it is what is told
-- now
pub record Adds (old new : Book) (at : ℕ) (what : What) (reference : Reference) : Type 0 where
  pub count : HasOneMore (references_at old at) (references_at new at) reference
  pub known : what_in (new at) ≡ Some (unwrap_or (what_in (old at)) what)
  pub full : full_in (new at) ≡ full_in (old at)
  pub elsewhere : (other : ℕ) → other ≢ at → new other ≡ old other

-- one reference less at an address. Where it was the last one, nothing is known of what is there, and the mark is gone
pub record Drops (old new : Book) (at : ℕ) (reference : Reference) : Type 0 where
  pub count : HasOneMore (references_at new at) (references_at old at) reference
  pub gone : references_at new at ≡ [] → new at ≡ None
  pub known : references_at new at ≢ [] → what_in (new at) ≡ what_in (old at)
  pub full : references_at new at ≢ [] → full_in (new at) ≡ full_in (old at)
  pub elsewhere : (other : ℕ) → other ≢ at → new other ≡ old other

-- an address is full
pub record Marks (old new : Book) (at : ℕ) : Type 0 where
  pub there : new at ≡ option_map (λ (kept : Kept). record kept { full = true }) (old at)
  pub elsewhere : (other : ℕ) → other ≢ at → new other ≡ old other

-- ---- what a call on a book answers, where the book tells what it holds

-- a reference more is one that the book may hold
abbrev pub MayHaveMore : Option Book → ℕ → Reference → Type 0
MayHaveMore told at reference = (book : Book) → told ≡ Some book → count_at book at reference < greatest_count reference

-- a reference is there
abbrev pub HasReference : Option Book → ℕ → Reference → Type 0
HasReference told at reference = (book : Book) → told ≡ Some book → 0 < count_at book at reference

-- the address has some reference
abbrev pub HasSome : Option Book → ℕ → Type 0
HasSome told at = (book : Book) → told ≡ Some book → 0 < length (references_at book at)

-- the book then tells what an edit makes of what it told
abbrev pub Turns : (Book → Book → Type 0) → Option Book → Option Book → Type 0
Turns edit old new = (book : Book) → old ≡ Some book → (after : Book) × (new ≡ Some after) × edit book after
