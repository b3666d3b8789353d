-- The limits that are set for quota groups (btrfs-qgroup(8), "limits"), and the bytes that reservations hold in them
-- (how much is reserved is this project's own). All in bytes.
use Rattle.std.specs.Prelude.{◌≡◌, ℕ, ◌+◌, ◌*◌, List, [], map, Option, None, unwrap_or, ◌==◌, if◌then◌else◌}
use Rattle.std.specs.List.{count_by}
use Rattle.qg_num.specs.declared.counters.Counters.{Counters}
use Rattle.qg_num.specs.declared.counters.Which.{Which}
use Rattle.qg_num.specs.declared.counters.Which.TheVariants.{Rfer, Excl}
use Rattle.qg_image.specs.Table.{value_at}
use Rattle.qg_image.specs.declared.quota.Group.{Group}
use Rattle.qg_image.specs.Limits.{first_over}
use Rattle.qg_qgroups.specs.declared.limits.Maxima.{Maxima}

-- the limits that are set and the bytes that are held, each by the group's number, ascending
pub record Limited : Type 0 where
  pub maxima : List (ℕ × Maxima)
  pub held : List (ℕ × ℕ)

-- nothing is set, and nothing is held
abbrev pub nothing_limited : Limited
nothing_limited = record { maxima = []; held = [] }

-- no limit
abbrev pub no_maxima : Maxima
no_maxima = record { rfer = None; excl = None }

-- what is set for a group, no limit where it is not listed
abbrev pub maxima_at : List (ℕ × Maxima) → ℕ → Maxima
maxima_at maxima group = unwrap_or (value_at group maxima) no_maxima

-- the same of what is set
abbrev pub maxima_of : Limited → ℕ → Maxima
maxima_of limited group = maxima_at limited.maxima group

-- the limit on referenced bytes, or that on exclusive bytes
abbrev pub max_in : Which → Maxima → Option ℕ
max_in Rfer maxima = maxima.rfer
max_in Excl maxima = maxima.excl

-- the same with another limit on referenced bytes, or another on exclusive bytes
abbrev pub with_max : Which → Option ℕ → Maxima → Maxima
with_max Rfer max maxima = record maxima { rfer = max }
with_max Excl max maxima = record maxima { excl = max }

-- how many bytes are held for a group, 0 where it is not listed
abbrev pub bytes_at : List (ℕ × ℕ) → ℕ → ℕ
bytes_at held group = unwrap_or (value_at group held) 0

-- the same of what is held
abbrev pub held_of : Limited → ℕ → ℕ
held_of limited group = bytes_at limited.held group

-- each group has the limits that it had
abbrev pub SameMaxima : Limited → Limited → Type 0
SameMaxima old new = (group : ℕ) → maxima_of new group ≡ maxima_of old group

-- so many bytes are held for each group as were
abbrev pub SameHeld : Limited → Limited → Type 0
SameHeld old new = (group : ℕ) → held_of new group ≡ held_of old group

-- a group has these limits, and all others have those that they had
abbrev pub IsSetAt : List (ℕ × Maxima) → List (ℕ × Maxima) → ℕ → Maxima → Type 0
IsSetAt old new group both = (other : ℕ) → maxima_at new other ≡ (if other == group then both else maxima_at old other)

-- a group has this limit, and its other one and those of all others are as they were
abbrev pub HasMax : Limited → Limited → ℕ → Which → Option ℕ → Type 0
HasMax old new group which max = IsSetAt old.maxima new.maxima group (with_max which max (maxima_of old group))

-- how often a path names a group; a path that ascends names each once
abbrev pub times_named : List ℕ → ℕ → ℕ
times_named path group = count_by (λ named. named == group) path

-- how many bytes are held for a group after so many more are for each on a path
abbrev pub bytes_after : List (ℕ × ℕ) → List ℕ → ℕ → ℕ → ℕ
bytes_after held path n group = bytes_at held group + n * times_named path group

-- so many bytes more are held for each group of a path, and as many as before for all others
abbrev pub HoldsMore : Limited → Limited → List ℕ → ℕ → Type 0
HoldsMore old new path n = (group : ℕ) → held_of new group ≡ bytes_after old.held path n group

-- a group as it is limited, with these counters; what commit last changed them plays no part
abbrev pub limited_group : Limited → ℕ × Counters → ℕ × Group
limited_group limited entry = (
  entry.0,
  record {
    counters = entry.1;
    max_rfer = (maxima_of limited entry.0).rfer;
    max_excl = (maxima_of limited entry.0).excl;
    stamp = 0;
  },
)

-- the first group of a path, with counters, that is over its limit if so many bytes more were reserved into each
abbrev pub first_over_of : Limited → List (ℕ × Counters) → ℕ → Option (ℕ × Which)
first_over_of limited path n = first_over (held_of limited) n (map (limited_group limited) path)
