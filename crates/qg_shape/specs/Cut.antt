-- Where a list is cut so that both parts fill a node (this project's own). Weights are in bytes.
use Rattle.std.specs.Prelude.{◌≡◌, ℕ, ◌+◌, ◌*◌, ◌≤◌, ◌<◌, List, [], ◌++◌}
use Rattle.std.specs.List.{sum_by}
use Rattle.qg_shape.specs.declared.joining.Joined.{Joined}
use Rattle.qg_shape.specs.declared.joining.Joined.TheVariants.{Whole, Parted}

-- so many bytes fill a node of so much room: they fit, and are a quarter of it at least
pub record Fills (room bytes : ℕ) : Type 0 where
  pub fits : bytes ≤ room
  pub full : room ≤ 4 * bytes

-- so many bytes are no more than `below` less than an aim, and no more than `above` greater
pub record IsNear (below above aim bytes : ℕ) : Type 0 where
  pub from : aim ≤ bytes + below
  pub upto : bytes ≤ aim + above

-- a front that is as near to the aim fills a node, and so does what is left of `total`
pub record IsAim (below above room total aim : ℕ) : Type 0 where
  pub fits : aim + above ≤ room
  pub full : room + 4 * below ≤ 4 * aim
  pub rest_fits : total + below ≤ room + aim
  pub rest_full : 4 * (aim + above) + room ≤ 4 * total

-- a list was cut in two parts that fill a node each
pub record IsCut {A : Type 0} (weight : A → ℕ) (room : ℕ) (all front rest : List A) : Type 0 where
  pub whole : front ++ rest ≡ all
  pub front_fills : Fills room (sum_by weight front)
  pub rest_fills : Fills room (sum_by weight rest)

-- two lists in one that fits
pub record IsOne {A : Type 0} (weight : A → ℕ) (room : ℕ) (all new_left new_right : List A) : Type 0 where
  pub all_left : new_left ≡ all
  pub none : new_right ≡ []
  pub fits : sum_by weight all ≤ room

-- what became of two lists, by what was answered
abbrev pub AreJoined : {A : Type 0} → (A → ℕ) → ℕ → List A → List A → List A → Joined → Type 0
AreJoined weight room all new_left new_right Whole = IsOne weight room all new_left new_right
AreJoined weight room all new_left new_right Parted = (room < sum_by weight all)
    × IsCut weight room all new_left new_right
