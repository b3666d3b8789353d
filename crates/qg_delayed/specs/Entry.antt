-- What waits of one address (this project's own).
use Rattle.std.specs.Prelude.{◌≡◌, ℕ, ◌+◌, ◌-◌, ◌<◌, ◌≤◌, true, false, List, [], Option, Some, None, ◌==◌}
use Rattle.std.specs.Prelude.{if◌then◌else◌, ◌⊎◌, ◌||◌, ◌&&◌, not}
use Rattle.std.specs.BTreeMap.{is_at}
use Rattle.std.specs.List.Sorted.{IsStrictlySortedBy}
use Rattle.std.specs.Map.{keys_of, lookup}
use Rattle.std.specs.Ordering.{nat_cmp}
use Rattle.qg_items.specs.declared.extent.Reference.{Reference}
use Rattle.qg_refs.specs.declared.kept.What.{What}
use Rattle.qg_refs.specs.Counts.{greatest_count}
use Rattle.qg_delayed.specs.declared.change.Change.{Change}
use Rattle.qg_delayed.specs.declared.head.Head.{Head}
use Rattle.qg_delayed.specs.declared.entry.Entry.{Entry}
use Rattle.qg_delayed.specs.Changes.{ChangesAscend, change_of, with_change, sum_below, sum_now}

-- what it says of what is there
abbrev pub what_of : Entry → What
what_of entry = record { bytes = entry.bytes; level = entry.level; generation = entry.generation }

-- what is known: nothing where no reference is there
abbrev pub known_in : Entry → Option What
known_in entry = if entry.total == 0 then None else Some (what_of entry)

-- an entry as a book's head is told, with nothing changed
abbrev pub entry_of : Option Head → Entry
entry_of None = record {
  bytes = 0;
  generation = 0;
  total = 0;
  others = 0;
  changes = [];
  level = None;
  full = false;
  was_full = false;
  begun = true;
}
entry_of (Some head) = record {
  bytes = head.what.bytes;
  generation = head.what.generation;
  total = head.total;
  others = head.total;
  changes = [];
  level = head.what.level;
  full = head.full;
  was_full = head.full;
  begun = false;
}

-- one more of the reference of a change; where nothing was there, with what is told of it
abbrev pub with_one_more : What → Change → Entry → Entry
with_one_more what change entry = record entry {
  bytes = if entry.total == 0 then what.bytes else entry.bytes;
  generation = if entry.total == 0 then what.generation else entry.generation;
  level = if entry.total == 0 then what.level else entry.level;
  changes = with_change (record change { now = change.now + 1 }) entry.changes;
  total = entry.total + 1;
}

-- one less. Where it was the last of all, what comes then begins anew, with no mark
abbrev pub with_one_less : Change → Entry → Entry
with_one_less change entry = record entry {
  changes = with_change (record change { now = change.now - 1 }) entry.changes;
  total = entry.total - 1;
  begun = entry.begun || (entry.total - 1 == 0);
  full = entry.full && not (entry.total - 1 == 0);
}

-- changes ascend; the total is that of the others and of those in the list; all is in the list where all came since
-- the last commit, and something is there where not; the book below has something where not, and where it has the
-- mark; nothing is full that isn't there, and a mark stays on what is still there; and what is to come may be there so
-- often
pub record IsEntry (entry : Entry) : Type 0 where
  pub ascend : ChangesAscend entry.changes
  pub total : entry.total ≡ entry.others + sum_now entry.changes
  pub begun : entry.begun ≡ true → entry.others ≡ 0
  pub some : entry.begun ≡ false → 0 < entry.total
  pub had : (entry.begun ≡ false) ⊎ (entry.was_full ≡ true) → 0 < entry.others + sum_below entry.changes
  pub gone : entry.total ≡ 0 → entry.full ≡ false
  pub marked : entry.begun ≡ false → entry.was_full ≡ true → entry.full ≡ true
  pub fitting : (reference : Reference) (change : Change) → change_of reference entry.changes ≡ Some change
      → (entry.begun ≡ true) ⊎ (change.below < change.now) → change.now ≤ greatest_count change.reference

-- the entry of an address
abbrev pub entry_at : List (ℕ × Entry) → ℕ → Option Entry
entry_at entries at = lookup (is_at (nat_cmp at)) entries

-- addresses ascend, each once, each with an entry
pub record AreEntries (entries : List (ℕ × Entry)) : Type 0 where
  pub ascend : IsStrictlySortedBy nat_cmp (keys_of entries)
  pub each : (at : ℕ) (entry : Entry) → entry_at entries at ≡ Some entry → IsEntry entry

-- entries have this at an address from now on, and are as they were elsewhere
pub record HasAt (old new : List (ℕ × Entry)) (at : ℕ) (entry : Entry) : Type 0 where
  pub each : (q : ℕ) → entry_at new q ≡ (if is_at (nat_cmp at) q then Some entry else entry_at old q)

-- a reference that was looked up and is there so often, taken from the others
abbrev pub with_listed : Reference → ℕ → Entry → Entry
with_listed reference count entry = record entry {
  changes = with_change (record { reference = reference; below = count; now = count }) entry.changes;
  others = entry.others - count;
}
