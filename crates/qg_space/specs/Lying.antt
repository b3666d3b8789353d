-- How what is held lies, as it is kept (this project's own). Addresses and lengths are in bytes.
use Rattle.std.specs.Prelude.{◌≡◌, ℕ, ◌+◌, ◌≤◌, Bool, ◌&&◌, ◌||◌, true, false, not, List, [], ◌∷◌, map, length, take}
use Rattle.std.specs.Prelude.{if◌then◌else◌, IsTrue}
use Rattle.std.specs.List.{AllWithin, filter, count_by}
use Rattle.qg_super.specs.declared.sizes.Sizes.{Sizes}
use Rattle.qg_super.specs.Places.{data_begin, is_run, is_served, slot_at}
use Rattle.qg_image.specs.declared.element.Element.{Element}
use Rattle.qg_space.specs.Run.{Run}
use Rattle.qg_space.specs.declared.slots.Slot.{Slot}
use Rattle.qg_space.specs.Holding.{Holding, is_one_of}

-- ---- runs

-- the extents of runs
abbrev pub extents_of : List Run → List Element
extents_of runs = map (λ run. run.extent) runs

-- the extents of those runs that the present state holds
abbrev pub present_of : List Run → List Element
present_of runs = extents_of (filter (λ run. run.present) runs)

-- the extents of those runs that the last commit holds
abbrev pub held_of : List Run → List Element
held_of runs = extents_of (filter (λ run. run.held) runs)

-- a run that the last commit holds too
abbrev pub with_held : Run → Run
with_held run = record run { held = true }

-- a run that the present state doesn't hold where it is one of some extents
abbrev pub given_back : List Element → Run → Run
given_back extents run = record run { present = run.present && not (is_one_of extents run.extent) }

-- the present state or the last commit holds a run
abbrev pub is_used : Run → Bool
is_used run = run.present || run.held

-- the run of an extent that both hold
abbrev pub run_of_both : Element → Run
run_of_both extent = record { extent = extent; present = true; held = true }

-- where an extent ends
abbrev pub end_of : Element → ℕ
end_of extent = extent.address + extent.bytes

-- from an address on runs ascend, each of them whole sectors that the present state or the last commit holds, and ended
-- where the next one begins or before
abbrev pub LieApart : Sizes → ℕ → List Run → Type 0
LieApart sizes from [] = Unit {0}
LieApart sizes from (run ∷ runs) =
    IsTrue (is_run sizes run.extent.address run.extent.bytes) × (from ≤ run.extent.address)
    × IsTrue (run.present || run.held) × LieApart sizes (end_of run.extent) runs

-- extents follow one another from an address on, with nothing between them
abbrev pub ArePacked : ℕ → List Element → Type 0
ArePacked from [] = Unit {0}
ArePacked from (extent ∷ extents) = (extent.address ≡ from) × ArePacked (end_of extent) extents

-- where the last of some extents ends, and an address where there are none
abbrev pub end_of_last : ℕ → List Element → ℕ
end_of_last from [] = from
end_of_last from (extent ∷ extents) = end_of_last (end_of extent) extents

-- the first runs, so many, follow one another from the begin of the data area on
pub record IsPackedFront (runs : List Run) (count : ℕ) : Type 0 where
  pub within : count ≤ length runs
  pub packed : ArePacked data_begin (take count (extents_of runs))

-- an edit left the extents before a place
pub record SameBefore (place : ℕ) (old new : List Run) : Type 0 where
  pub within : place ≤ length new
  pub same : take place (extents_of new) ≡ take place (extents_of old)

-- ---- slots

-- the addresses of slots that pass a test; the first of them has this number
abbrev pub slots_where : (Slot → Bool) → Sizes → ℕ → List Slot → List ℕ
slots_where test sizes k [] = []
slots_where test sizes k (slot ∷ slots) = if test slot then slot_at sizes k ∷ slots_where test sizes
    (k + 1) slots else slots_where test sizes (k + 1) slots

-- neither the present state nor the last commit holds a slot
abbrev pub is_unused : Slot → Bool
is_unused slot = not (slot.present || slot.held)

-- the last commit holds a slot where the present state does
abbrev pub committed_slot : Slot → Slot
committed_slot slot = record { present = slot.present; held = slot.present }

-- ---- both

-- what is held by runs and by the slots of an image, all of them in order
abbrev pub holding_of : Sizes → List Run → List Slot → Holding
holding_of sizes runs slots = record {
  sizes = sizes;
  runs = present_of runs;
  held_runs = held_of runs;
  slots = slots_where (λ slot. slot.present) sizes 0 slots;
  held_slots = slots_where (λ slot. slot.held) sizes 0 slots;
}

-- the runs lie apart, and the first ones, so many, are packed; each slot is there, so many are unused, and none before
-- a number is
pub record IsSound (sizes : Sizes) (runs : List Run) (packed : ℕ) (slots : List Slot) (unused first : ℕ) : Type 0 where
  pub served : IsTrue (is_served sizes)
  pub apart : LieApart sizes data_begin runs
  pub front : IsPackedFront runs packed
  pub all : length slots ≡ sizes.slots
  pub counted : unused ≡ count_by is_unused slots
  pub used : AllWithin (λ slot. is_unused slot ≡ false) slots 0 first
