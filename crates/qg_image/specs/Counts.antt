-- What a quota group counts, for each group anew (btrfs-qgroup(8), "referenced" and "exclusive"). Counters are in
-- bytes.
use Rattle.std.specs.Prelude.{◌≡◌, ℕ, Bool, ◌&&◌, not, List, Some}
use Rattle.std.specs.List.{All, list_any, filter, flat_map, sum_by}
use Rattle.qg_num.specs.declared.counters.Counters.{Counters}
use Rattle.qg_image.specs.Table.{keys_of}
use Rattle.qg_image.specs.declared.element.Element.{Element}
use Rattle.qg_image.specs.declared.quota.Quota.{Quota}
use Rattle.qg_image.specs.State.{State, Layout, layout_of}
use Rattle.qg_image.specs.Reach.{reach, reaches, distinct}
use Rattle.qg_image.specs.Members.{Hierarchy, hierarchy_of, members, is_member}

-- what some member reaches, each once
unfoldable pub reach_of_group : Layout → Hierarchy → ℕ → List Element
reach_of_group layout hierarchy group = distinct (flat_map (reach layout) (members hierarchy group))

-- some subvolume that is no member reaches what begins at an address
unfoldable pub is_reached_outside : Layout → Hierarchy → ℕ → ℕ → Bool
is_reached_outside layout hierarchy group address =
    list_any (λ sub. not (is_member hierarchy group sub) && reaches layout sub address) (keys_of layout.roots)

-- the sum of the bytes of nodes and data extents
abbrev pub bytes_of : List Element → ℕ
bytes_of elements = sum_by (λ element. element.bytes) elements

-- the bytes of all that some member reaches, each once
unfoldable pub referenced : Layout → Hierarchy → ℕ → ℕ
referenced layout hierarchy group = bytes_of (reach_of_group layout hierarchy group)

-- the bytes of those of them that no subvolume outside the members reaches
unfoldable pub exclusive : Layout → Hierarchy → ℕ → ℕ
exclusive layout hierarchy group =
    bytes_of (filter (λ element. not (is_reached_outside layout hierarchy group element.address))
    (reach_of_group layout hierarchy group))

-- a group's direct count
abbrev pub direct_count : Layout → Hierarchy → ℕ → Counters
direct_count layout hierarchy group = record {
  rfer = referenced layout hierarchy group;
  excl = exclusive layout hierarchy group;
}

-- what a group's counters are to be, while quota is this: its direct count, over all addresses
abbrev pub due_counters : Layout → Quota → ℕ → Counters
due_counters layout quota group = direct_count layout (hierarchy_of quota) group

-- each group of a state stores the counters that are due
abbrev pub StoresCounts : State → Type 0
StoresCounts state = (quota : Quota) → state.quota ≡ Some quota
    → All (λ entry. entry.1.counters ≡ due_counters (layout_of state) quota entry.0) quota.groups
