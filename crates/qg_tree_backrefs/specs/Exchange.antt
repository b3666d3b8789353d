-- References that are given and taken, and what that makes of a book (this project's own). Addresses are in bytes.
use Rattle.std.specs.Prelude.{◌≡◌, ⊤, ℕ, ◌+◌, ◌<◌, ◌≤◌, Bool, false, ◌||◌, List, [], ◌∷◌, ◌++◌, Option, Some, None}
use Rattle.std.specs.Prelude.{◌==◌, if◌then◌else◌}
use Rattle.std.specs.List.{All, count_by, filter_map}
use Rattle.qg_items.specs.declared.extent.Reference.{Reference}
use Rattle.std.specs.Option.{option_or}
use Rattle.qg_image.specs.Record.{same_reference}
use Rattle.qg_image.specs.Owed.{Owing}
use Rattle.qg_cow_refs.specs.Children.{way_to}
use Rattle.qg_refs.specs.declared.kept.What.{What}
use Rattle.qg_refs.specs.declared.kept.Kept.{Kept}
use Rattle.qg_refs.specs.Book.{Book, IsBook, count_at, full_in, what_in}
use Rattle.qg_refs.specs.Counts.{greatest_count}
use Rattle.qg_backref_rule.specs.OwedLists.{owings_told}
use Rattle.qg_tree_backrefs.specs.declared.coming.Coming.{Coming}
use Rattle.qg_tree_backrefs.specs.declared.lists.Lists.{Lists}

-- ---- references in a list

-- those to an address
abbrev pub those_at : List Owing → ℕ → List Reference
those_at owings at = filter_map (λ owing. if owing.address == at then Some owing.reference else None) owings

-- how often a list has one reference
unfoldable pub times : List Owing → ℕ → Reference → ℕ
times owings at reference = count_by (same_reference reference) (those_at owings at)

-- ---- references that are given

-- some reference to an address is there
abbrev pub IsKnown : Book → ℕ → Type 0
IsKnown book at = (reference : Reference) × (0 < count_at book at reference)

-- a book may have each reference of a list besides, and what each leads to is known
pub record CanGive (book : Book) (gains : List Owing) : Type 0 where
  pub room : (at : ℕ) (reference : Reference)
      → count_at book at reference + times gains at reference ≤ greatest_count reference
  pub known : All (λ owing. IsKnown book owing.address) gains

-- a book has each reference of a list besides, and nothing else changes
pub record Gives (old new : Book) (gains : List Owing) : Type 0 where
  pub counts : (at : ℕ) (reference : Reference)
      → count_at new at reference ≡ count_at old at reference + times gains at reference
  pub known : (at : ℕ) → what_in (new at) ≡ what_in (old at)
  pub full : (at : ℕ) → full_in (new at) ≡ full_in (old at)

-- ---- references that are taken

-- a book has each reference of a list, as often as the list has it
pub record CanTake (book : Book) (losses : List Owing) : Type 0 where
  pub there : (at : ℕ) (reference : Reference) → times losses at reference ≤ count_at book at reference

-- a book has each reference of a list no more. What is still kept is known as before, and full as before
pub record Takes (old new : Book) (losses : List Owing) : Type 0 where
  pub counts : (at : ℕ) (reference : Reference)
      → count_at new at reference + times losses at reference ≡ count_at old at reference
  pub known : (at : ℕ) (kept : Kept) → new at ≡ Some kept → what_in (old at) ≡ Some kept.what
  pub full : (at : ℕ) (kept : Kept) → new at ≡ Some kept → full_in (old at) ≡ kept.full

-- ---- both

-- a node that becomes full, what is gained where something is known, and what is lost
pub record Exchange : Type 0 where
  pub full : Option ℕ
  pub gains : List Owing
  pub losses : List Owing

-- what lists tell
abbrev pub exchange_told : Lists → Exchange
exchange_told lists =
    record { full = lists.full; gains = owings_told lists.gains.items; losses = owings_told lists.losses.items }

-- the first reference to a node that comes, if one does
abbrev pub ways_to : Option Coming → List Owing
ways_to None = []
ways_to (Some coming) = way_to coming.address coming.tree ∷ []

-- what is known of it, at its address
abbrev pub what_comes : Option Coming → ℕ → Option What
what_comes None at = None
what_comes (Some coming) at = if at == coming.address then Some coming.what else None

-- no reference to it is there yet
abbrev pub IsNew : Book → Option Coming → Type 0
IsNew book None = ⊤
IsNew book (Some coming) = (reference : Reference) → count_at book coming.address reference ≡ 0

-- this address becomes full
abbrev pub turns_full : Option ℕ → ℕ → Bool
turns_full None at = false
turns_full (Some full) at = at == full

-- a node that has references becomes full, if there is one, and nothing else changes
pub record IsMarked (old new : Book) (full : Option ℕ) : Type 0 where
  pub counts : (at : ℕ) (reference : Reference) → count_at new at reference ≡ count_at old at reference
  pub known : (at : ℕ) → what_in (new at) ≡ what_in (old at)
  pub mark : (at : ℕ) → full_in (new at) ≡ (full_in (old at) || turns_full full at)

-- the node that comes had no reference and has its first one, and nothing else changes
pub record Begins (old new : Book) (coming : Option Coming) : Type 0 where
  pub first : IsNew old coming
  pub counts : (at : ℕ) (reference : Reference)
      → count_at new at reference ≡ count_at old at reference + times (ways_to coming) at reference
  pub known : (at : ℕ) → what_in (new at) ≡ option_or (what_in (old at)) (what_comes coming at)
  pub full : (at : ℕ) → full_in (new at) ≡ full_in (old at)

-- what is lost is there, what is gained may be there besides and is known, and the node that comes is new
pub record CanExchange (book : Book) (exchange : Exchange) (coming : Option Coming) : Type 0 where
  pub there : CanTake book exchange.losses
  pub room : CanGive book exchange.gains
  pub first : IsNew book coming

-- what is left is a book: all is gained and lost, no reference else changes, and what has none is not kept. Of the node
-- that comes there was none before. What is kept of another is known as before; it is full where it was or becomes so
pub record Exchanges (old new : Book) (exchange : Exchange) (coming : Option Coming) : Type 0 where
  pub book : IsBook new
  pub counts : (at : ℕ) (reference : Reference)
      → count_at new at reference + times exchange.losses at reference
      ≡ count_at old at reference + times (ways_to coming ++ exchange.gains) at reference
  pub first : IsNew old coming
  pub known : (at : ℕ) (kept : Kept) → new at ≡ Some kept
      → option_or (what_in (old at)) (what_comes coming at) ≡ Some kept.what
  pub full : (at : ℕ) (kept : Kept) → new at ≡ Some kept → kept.full ≡ (full_in (old at) || turns_full exchange.full at)
  pub gone : (at : ℕ) → ((reference : Reference) → count_at new at reference ≡ 0) → new at ≡ None
