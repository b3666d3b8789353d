-- Which nodes name each extent: for each extent a list of indices (this project's own). Addresses are in bytes.
use Rattle.std.specs.Prelude.{◌≡◌, ◌↔◌, ◌⊎◌, ℕ, List, Some, slice_get}
use Rattle.std.specs.List.{Contains}
use Rattle.qg_image.specs.declared.element.Element.{Element}
use Rattle.qg_qgroup_counts.specs.Above.{list_at}
use Rattle.qg_qgroup_counts.specs.declared.surveyed.Surveyed.{Surveyed}

-- an extent's list has the indices of exactly those nodes that name it
abbrev pub AreNamers : List Surveyed → List Element → List (List ℕ) → Type 0
AreNamers nodes extents lists =
    (place index : ℕ) (extent : Element) → slice_get extents place ≡ Some extent
    → Contains (list_at lists place) index
    ↔ ((node : Surveyed) × (slice_get nodes index ≡ Some node) × Contains node.extents extent.address)

-- ---- on the way there

-- no list has more than it had but for one index
abbrev pub HasAtMost : ℕ → List (List ℕ) → List (List ℕ) → Type 0
HasAtMost index old new =
    (place other : ℕ) → Contains (list_at new place) other → Contains (list_at old place) other ⊎ (index ≡ other)

-- the lists of extents that begin at some addresses have an index more, and no other list
abbrev pub HasNoted : List Element → List ℕ → ℕ → List (List ℕ) → List (List ℕ) → Type 0
HasNoted extents named index old new =
    (place other : ℕ) (extent : Element) → slice_get extents place ≡ Some extent
    → Contains (list_at new place) other
    ↔ (Contains (list_at old place) other ⊎ (Contains named extent.address × (index ≡ other)))
