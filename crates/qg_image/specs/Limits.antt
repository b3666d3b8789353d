-- Reservations and limits of quota groups (btrfs-qgroup(8), "limits"; how much is reserved is this project's own). All
-- in bytes.
use Rattle.std.specs.Prelude.{ℕ, ◌+◌, Bool, List, Option, Some, None, nat_lt, slice_get, if◌then◌else◌}
use Rattle.std.specs.List.{filter, filter_map, sum_by}
use Rattle.std.specs.Option.{option_map}
use Rattle.qg_num.specs.declared.counters.Which.{Which}
use Rattle.qg_num.specs.declared.counters.Which.TheVariants.{Rfer, Excl}
use Rattle.qg_image.specs.ItemMeaning.{some_passes}
use Rattle.qg_image.specs.declared.quota.Quota.{Quota}
use Rattle.qg_image.specs.declared.quota.Group.{Group}
use Rattle.qg_image.specs.State.{Accepted}
use Rattle.qg_image.specs.Members.{Hierarchy, hierarchy_of, is_member}

-- what accepted commands reserved into members of a group
unfoldable pub bytes_reserved : Hierarchy → List Accepted → ℕ → ℕ
bytes_reserved hierarchy pending group =
    sum_by (λ accepted. accepted.amount) (filter (λ accepted. is_member hierarchy group accepted.sub) pending)

-- a limit is set, and a number is greater than it
abbrev pub passes_limit : ℕ → Option ℕ → Bool
passes_limit n limit = some_passes (λ max. nat_lt max n) limit

-- the limit of a group that so many bytes more would pass beside those reserved, by the stored counters, referenced
-- before exclusive
abbrev pub limit_passed : ℕ → ℕ → Group → Option Which
limit_passed reserved n group =
    if passes_limit (group.counters.rfer + reserved + n) group.max_rfer then Some Rfer
    else (if passes_limit (group.counters.excl + reserved + n) group.max_excl then Some Excl else None)

-- the first of some groups over its limit if so many bytes more were reserved into each, by what is reserved into it
-- already
unfoldable pub first_over : (ℕ → ℕ) → ℕ → List (ℕ × Group) → Option (ℕ × Which)
first_over reserved n groups =
    slice_get (filter_map (λ entry. option_map (λ which. (entry.0, which)) (limit_passed (reserved entry.0) n entry.1))
    groups) 0

-- the least group over its limit if so many bytes more were reserved into a subvolume: of the groups that it is a
-- member of
unfoldable pub over : Quota → List Accepted → ℕ → ℕ → Option (ℕ × Which)
over quota pending sub n =
    first_over (bytes_reserved (hierarchy_of quota) pending) n
    (filter (λ entry. is_member (hierarchy_of quota) entry.0 sub) quota.groups)
