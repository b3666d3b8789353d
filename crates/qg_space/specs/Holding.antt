-- What the present state and the last commit hold of an image, and what is free of it (this project's own). Addresses
-- and lengths are in bytes.
use Rattle.std.specs.Prelude.{ℕ, ◌+◌, ◌≤◌, Bool, IsTrue, ◌&&◌, not, List, [], ◌∷◌, ◌++◌, map, Option, ◌==◌, nat_le}
use Rattle.std.specs.Prelude.{if◌then◌else◌}
use Rattle.std.specs.List.{list_any, filter, count_by, range_with_len}
use Rattle.std.specs.Option.{option_map}
use Rattle.qg_super.specs.declared.sizes.Sizes.{Sizes}
use Rattle.qg_super.specs.Places.{is_run, is_slot, slot_at, sector_at}
use Rattle.qg_image.specs.declared.element.Element.{Element}
use Rattle.qg_image.specs.Space.{overlaps, least}

-- the runs and the node slots that the present state holds, and those that the last commit holds. Each list ascends
pub record Holding : Type 0 where
  pub sizes : Sizes
  pub runs : List Element
  pub held_runs : List Element
  pub slots : List ℕ
  pub held_slots : List ℕ

-- of an image of some sizes nothing is held yet
abbrev pub nothing_held : Sizes → Holding
nothing_held sizes = record { sizes = sizes; runs = []; held_runs = []; slots = []; held_slots = [] }

-- ---- runs

-- a run of whole sectors overlaps none of some extents
unfoldable pub is_clear : Sizes → List Element → ℕ → ℕ → Bool
is_clear sizes extents address bytes = is_run sizes address bytes && not (list_any (overlaps address bytes) extents)

-- the run of so many bytes with the least address that overlaps none of some extents
unfoldable pub first_clear : Sizes → List Element → ℕ → Option ℕ
first_clear sizes extents bytes =
    option_map sector_at (least (λ k. is_clear sizes extents (sector_at k) bytes) 0 sizes.sectors)

-- a run of whole sectors is free
abbrev pub is_free_run : Holding → ℕ → ℕ → Bool
is_free_run holding address bytes = is_clear holding.sizes (holding.runs ++ holding.held_runs) address bytes

-- the free run of so many bytes with the least address
abbrev pub first_run : Holding → ℕ → Option ℕ
first_run holding bytes = first_clear holding.sizes (holding.runs ++ holding.held_runs) bytes

-- an extent is this run, whole
abbrev pub is_that_run : ℕ → ℕ → Element → Bool
is_that_run address bytes extent = (extent.address == address) && (extent.bytes == bytes)

-- the present state holds a run, whole
abbrev pub has_run : Holding → ℕ → ℕ → Bool
has_run holding address bytes = list_any (is_that_run address bytes) holding.runs

-- from an address on runs of whole sectors ascend, each ended where the next one begins or before
abbrev pub AscendApart : Sizes → ℕ → List Element → Type 0
AscendApart sizes from [] = Unit {0}
AscendApart sizes from (run ∷ later) = IsTrue (is_run sizes run.address run.bytes) × (from ≤ run.address)
    × AscendApart sizes (run.address + run.bytes) later

-- ascending runs, with this one
abbrev pub with_run : Element → List Element → List Element
with_run run [] = run ∷ []
with_run run (first ∷ later) = if nat_le run.address first.address then run ∷ first ∷ later else first
    ∷ with_run run later

-- the same without a run
abbrev pub without_run : ℕ → ℕ → List Element → List Element
without_run address bytes runs = filter (λ run. not (is_that_run address bytes run)) runs

-- a run is one of some extents, whole
abbrev pub is_one_of : List Element → Element → Bool
is_one_of extents run = list_any (λ (extent : Element). is_that_run extent.address extent.bytes run) extents

-- runs without each of some
abbrev pub without_runs : List Element → List Element → List Element
without_runs gone runs = filter (λ run. not (is_one_of gone run)) runs

-- ---- slots

-- a node slot is free
unfoldable pub is_free_slot : Holding → ℕ → Bool
is_free_slot holding address = is_slot holding.sizes address
    && not (list_any (λ slot. slot == address) (holding.slots ++ holding.held_slots))

-- the free slot with the least address
unfoldable pub first_slot : Holding → Option ℕ
first_slot holding = option_map (slot_at holding.sizes)
    (least (λ k. is_free_slot holding (slot_at holding.sizes k)) 0 holding.sizes.slots)

-- the free slots, ascending
unfoldable pub free_list : Holding → List ℕ
free_list holding = filter (is_free_slot holding) (map (slot_at holding.sizes) (range_with_len 0 holding.sizes.slots))

-- how many slots are free
unfoldable pub free_slots : Holding → ℕ
free_slots holding = count_by (is_free_slot holding)
    (map (slot_at holding.sizes) (range_with_len 0 holding.sizes.slots))

-- the present state holds a slot
abbrev pub has_slot : Holding → ℕ → Bool
has_slot holding address = list_any (λ slot. slot == address) holding.slots

-- how many slots the present state has
unfoldable pub taken_slots : Holding → ℕ
taken_slots holding = count_by (has_slot holding) (map (slot_at holding.sizes) (range_with_len 0 holding.sizes.slots))

-- slots, without this one
abbrev pub without_slot : ℕ → List ℕ → List ℕ
without_slot address slots = filter (λ slot. not (slot == address)) slots
