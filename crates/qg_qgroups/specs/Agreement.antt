-- What is set and held by a machine's quota (this project's own). All in bytes.
use Rattle.std.specs.Prelude.{◌≡◌, ℕ, List, map}
use Rattle.qg_num.specs.declared.counters.Counters.{Counters}
use Rattle.qg_image.specs.declared.quota.Group.{Group}
use Rattle.qg_qgroups.specs.Limit.{Limited, held_of, maxima_of}

-- a group of a quota has the limits that are set, and as many bytes are held for it as are reserved into it
pub record IsLimitedAs (limited : Limited) (reserved : ℕ → ℕ) (entry : ℕ × Group) : Type 0 where
  pub rfer : (maxima_of limited entry.0).rfer ≡ entry.1.max_rfer
  pub excl : (maxima_of limited entry.0).excl ≡ entry.1.max_excl
  pub held : held_of limited entry.0 ≡ reserved entry.0

-- groups of a quota with their stored counters
abbrev pub counted_groups : List (ℕ × Group) → List (ℕ × Counters)
counted_groups entries = map (λ entry. (entry.0, entry.1.counters)) entries
