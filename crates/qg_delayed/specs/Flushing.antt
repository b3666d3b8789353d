-- What a commit makes of the book below (this project's own). Addresses are in bytes.
use Rattle.std.specs.Prelude.{◌≡◌, ℕ, ◌-◌, Bool, not, ◌&&◌, ◌||◌, List, [], ◌∷◌, ◌++◌, replicate, if◌then◌else◌}
use Rattle.std.specs.List.{flat_map}
use Rattle.qg_refs.specs.Book.{Book}
use Rattle.qg_refs.specs.declared.kept.What.{What}
use Rattle.qg_delayed.specs.declared.change.Change.{Change}
use Rattle.qg_delayed.specs.declared.entry.Entry.{Entry}
use Rattle.qg_delayed.specs.declared.edit.Edit.{Edit}
use Rattle.qg_delayed.specs.declared.edit.Edit.TheVariants.{Add, Drop, SetFull}
use Rattle.qg_delayed.specs.Entry.{what_of}
use Rattle.qg_delayed.specs.Merged.{merged}

-- ---- the edits

-- how often the reference of a change comes, and how often it goes: where all came since the last commit, all that the
-- book below has goes, and all that is there now comes
abbrev pub comes : Bool → Change → ℕ
comes begun change = if begun then change.now else change.now - change.below

abbrev pub goes : Bool → Change → ℕ
goes begun change = if begun then change.below else change.below - change.now

-- what comes to an address, and what goes
abbrev pub all_come : ℕ → What → Bool → List Change → List Edit
all_come at what begun changes =
    flat_map (λ (change : Change). replicate (comes begun change) (Add at what change.reference)) changes

abbrev pub all_go : ℕ → Bool → List Change → List Edit
all_go at begun changes =
    flat_map (λ (change : Change). replicate (goes begun change) (Drop at change.reference)) changes

-- the mark is there that the record doesn't have by then
abbrev pub has_new_mark : Entry → Bool
has_new_mark entry = entry.full && (entry.begun || not entry.was_full)

-- it comes
abbrev pub mark_comes : ℕ → Entry → List Edit
mark_comes at entry = if has_new_mark entry then SetFull at ∷ [] else []

-- what comes to an address by its entry, and what goes
abbrev pub come_in : ℕ → Entry → List Edit
come_in at entry = all_come at (what_of entry) entry.begun entry.changes

abbrev pub go_in : ℕ → Entry → List Edit
go_in at entry = all_go at entry.begun entry.changes

-- what comes and goes. What comes is first, so that the record is never without a reference in between; but where all
-- that is there came since the last commit, what the book below has goes first
abbrev pub references_turn : ℕ → Entry → List Edit
references_turn at entry =
    if entry.begun then go_in at entry ++ come_in at entry else come_in at entry ++ go_in at entry

-- the edits of an address
abbrev pub edits_at : ℕ → Entry → List Edit
edits_at at entry = references_turn at entry ++ mark_comes at entry

-- those of all addresses, ascending
abbrev pub edits_of : List (ℕ × Entry) → List Edit
edits_of entries = flat_map (λ (entry : ℕ × Entry). edits_at entry.0 entry.1) entries

-- ---- what a commit makes

-- a book is the one below with all changes made
abbrev pub IsFlushed : Book → Book → List (ℕ × Entry) → Type 0
IsFlushed below after entries = (at : ℕ) → after at ≡ merged below entries at
