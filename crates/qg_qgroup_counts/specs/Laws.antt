-- What portions count of a layout (btrfs-qgroup(8), "referenced" and "exclusive"; the form is this project's own).
use Rattle.std.specs.Prelude.{◌≡◌, ℕ, List, length, slice_index_or}
use Rattle.std.specs.List.Sorted.{IsStrictlyIncreasing}
use Rattle.qg_image.specs.Table.{keys_of}
use Rattle.qg_image.specs.declared.element.Element.{Element}
use Rattle.qg_image.specs.Counts.{direct_count}
use Rattle.qg_image.specs.Members.{Hierarchy, is_member}
use Rattle.qg_image.specs.State.{Layout}
use Rattle.qg_qgroup_counts.specs.declared.counting.Portion.{Portion}
use Rattle.qg_qgroup_counts.specs.AllReached.{AreAllReached}
use Rattle.qg_qgroup_counts.specs.Telling.{ArePortionsOf}
use Rattle.qg_qgroup_counts.specs.Groups.{counted_for}

-- the number of the subvolume at an index
abbrev pub number_at : List (ℕ × ℕ) → ℕ → ℕ
number_at roots index = slice_index_or (keys_of roots) index 0

-- where elements lie apart, all that subvolumes reach is among them, and portions tell who reaches each, the counters
-- of those subvolumes that are members of a group are its direct count, in any hierarchy
abbrev pub GroupsAreDirect : Type 0
GroupsAreDirect = (layout : Layout) (hierarchy : Hierarchy) (rows : List (List ℕ)) (elements : List Element)
    (portions : List Portion) (group : ℕ)
    → IsStrictlyIncreasing (keys_of layout.roots) → AreAllReached layout elements
    → ArePortionsOf layout rows elements portions
    → counted_for rows (length layout.roots) portions
    (λ index. is_member hierarchy group (number_at layout.roots index))
    ≡ direct_count layout hierarchy group
