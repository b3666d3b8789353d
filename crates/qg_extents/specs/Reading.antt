-- What the steps of reading a book do (this project's own).
use Rattle.std.specs.Prelude.{◌≡◌, ◌≢◌, ℕ, ◌+◌, ◌<◌, ◌≤◌, ◌⊎◌, Bool, true, false, ◌&&◌, List, length, Option, Some}
use Rattle.std.specs.Prelude.{None, ◌==◌, slice_index_or}
use Rattle.qg_items.specs.declared.extent.Reference.{Reference}
use Rattle.qg_tree_items.specs.Types.{ExtentPart}
use Rattle.qg_tree_items.specs.Owed.{part_address}
use Rattle.qg_refs.specs.declared.counted.Counted.{Counted}
use Rattle.qg_refs.specs.Counts.{count_of, greatest_count, HasSoManyMore, IsRefList}
use Rattle.qg_extents.specs.declared.head.Head.{Head}
use Rattle.qg_extents.specs.declared.gather.Gathered.{Gathered}
use Rattle.qg_extents.specs.BookRecords.{are_counted, is_count, is_sound_record, refs_told, tells_full, told_count}
use Rattle.qg_extents.specs.BookRecords.{told_in}
use Rattle.qg_extents.specs.BookRecords.{told_sum, what_told}

-- the parts from an index on, up to another, are those of one address
pub record IsRun (parts : List ExtentPart) (from to : ℕ) : Type 0 where
  pub some : from < to
  pub bound : to ≤ length parts
  pub same : (k : ℕ) (d : ExtentPart) → from ≤ k → k < to
      → part_address (slice_index_or parts k d) ≡ part_address (slice_index_or parts from d)
  pub next : (d : ExtentPart) → to < length parts
      → part_address (slice_index_or parts to d) ≢ part_address (slice_index_or parts from d)

-- what a sound record tells; a node has so many bytes
pub record IsHeadOf (nodesize : ℕ) (part : ExtentPart) (head : Head) : Type 0 where
  pub sound : is_sound_record part ≡ true
  pub what : Some head.what ≡ what_told nodesize part
  pub full : head.full ≡ tells_full part
  pub refs : head.refs ≡ refs_told part

-- a reference that was not there is put, and its count taken of what is left
pub record IsTaken (old new : Gathered) (reference : Reference) (count : ℕ) : Type 0 where
  pub counted : is_count (reference, count) ≡ true
  pub absent : count_of old.references reference ≡ 0
  pub left : new.left + count ≡ old.left
  pub put : HasSoManyMore old.references new.references reference count

-- or it has no count that it may have, is there already, or has more than is left
abbrev pub IsRefused : Gathered → Reference → ℕ → Type 0
IsRefused old reference count =
    (is_count (reference, count) ≡ false) ⊎ (0 < count_of old.references reference) ⊎ (old.left < count)

-- what a part tells is taken: a reference with its count, or none
abbrev pub IsPartTaken : Gathered → Gathered → Option (Reference × ℕ) → Type 0
IsPartTaken old new None = new ≡ old
IsPartTaken old new (Some told) = IsTaken old new told.0 told.1

-- what a part tells is refused, as only a reference with its count is
abbrev pub IsPartRefused : Gathered → Option (Reference × ℕ) → Type 0
IsPartRefused old None = ⊥
IsPartRefused old (Some told) = IsRefused old told.0 told.1

-- the references that parts tell are counted, and this is the sum
abbrev pub adds_up : ℕ → List ExtentPart → Bool
adds_up refs here = are_counted (told_in here) && (refs == told_sum (told_in here))

-- a list of these references
pub record IsGathered (refs : ℕ) (here : List ExtentPart) (references : List Counted) : Type 0 where
  pub sound : adds_up refs here ≡ true
  pub list : IsRefList references
  pub some : 0 < length references
  pub fitting : (reference : Reference) → count_of references reference ≤ greatest_count reference
  pub count : (reference : Reference) → count_of references reference ≡ told_count (told_in here) reference
