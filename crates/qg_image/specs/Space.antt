-- Which runs of sectors and which node slots are free: those that neither the present state nor the last commit holds
-- (this project's own). Addresses and lengths are in bytes.
use Rattle.std.specs.Prelude.{ℕ, zero, suc, ◌+◌, Bool, true, false, ◌&&◌, not, List, ◌++◌, map, Option, Some, None}
use Rattle.std.specs.Prelude.{◌==◌, nat_lt}
use Rattle.std.specs.List.{list_any, flat_map, count_by, range_with_len}
use Rattle.qg_super.specs.Places.{is_run, is_slot, slot_at, sector_at}
use Rattle.qg_image.specs.Table.{has_key}
use Rattle.qg_image.specs.declared.element.Element.{Element}
use Rattle.qg_image.specs.State.{State}
use Rattle.qg_image.specs.Reach.{extent_of}

-- the extents that the present files name
unfoldable pub present_extents : State → List Element
present_extents state = flat_map (λ entry. flat_map (λ file. map extent_of file.1.pieces) entry.1.files)
    state.subvolumes

-- two ranges share a byte
abbrev pub overlaps : ℕ → ℕ → Element → Bool
overlaps address bytes element = nat_lt address (element.address + element.bytes)
    && nat_lt element.address (address + bytes)

-- a run of whole sectors is free
unfoldable pub is_free_run : State → ℕ → ℕ → Bool
is_free_run state address bytes =
    is_run state.sizes address bytes
    && not (list_any (overlaps address bytes) (present_extents state ++ state.held.extents))

-- a node slot is free
unfoldable pub is_free_slot : State → ℕ → Bool
is_free_slot state address =
    is_slot state.sizes address && not (has_key address state.layout)
    && not (list_any (λ node. node == address) state.held.nodes)

-- how many slots are free
unfoldable pub free_slots : State → ℕ
free_slots state = count_by (is_free_slot state) (map (slot_at state.sizes) (range_with_len 0 state.sizes.slots))

-- the least of so many numbers, from one on, that passes the test
unfoldable pub least : (ℕ → Bool) → ℕ → ℕ → Option ℕ
least test from zero = None
least test from (suc count) = elim (test from) [ true ↦ Some from | false ↦ least test (from + 1) count ]

-- the free run of so many bytes with the least address
unfoldable pub first_run : State → ℕ → Option ℕ
first_run state bytes = address_of (least (λ k. is_free_run state (sector_at k) bytes) 0 state.sizes.sectors) where
  address_of : Option ℕ → Option ℕ
  address_of None = None
  address_of (Some k) = Some (sector_at k)
