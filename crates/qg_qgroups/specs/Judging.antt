-- What a reservation is answered by the limits of groups (btrfs-qgroup(8), "limits").
use Rattle.std.specs.Prelude.{ℕ, List, map, Option, Some, None, unwrap_or}
use Rattle.std.specs.Option.{option_map}
use Rattle.qg_num.specs.declared.counters.Counters.{Counters}
use Rattle.qg_num.specs.declared.counters.Which.{Which}
use Rattle.qg_image.specs.Table.{value_at}
use Rattle.qg_image.specs.declared.quota.Group.{Group}
use Rattle.qg_qgroups.specs.declared.judging.ReservationAnswer.{ReservationAnswer}
use Rattle.qg_qgroups.specs.declared.judging.ReservationAnswer.TheVariants.{Over, Path}

-- the group that is over its limit, and over which; none where a path is answered
abbrev pub over_in : ReservationAnswer → Option (ℕ × Which)
over_in (Over group which) = Some (group, which)
over_in (Path path) = None

-- where a path is answered, this holds of it
abbrev pub IfPath : ReservationAnswer → (List ℕ → Type 0) → Type 0
IfPath (Over group which) P = Unit {0}
IfPath (Path path) P = P path

-- the stored counters of a group, in bytes; nothing is counted where it isn't there
abbrev pub counters_at : List (ℕ × Group) → ℕ → Counters
counters_at groups group = unwrap_or (option_map (λ found. found.counters) (value_at group groups))
    (record { rfer = 0; excl = 0 })

-- groups with their stored counters
abbrev pub counted_path : List (ℕ × Group) → List ℕ → List (ℕ × Counters)
counted_path groups path = map (λ group. (group, counters_at groups group)) path
