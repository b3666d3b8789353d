-- How groups and relations are kept (this project's own).
use Rattle.std.specs.Prelude.{◌≡◌, ℕ, ◌^◌, ◌<◌, ◌≤◌, List, IsTrue}
use Rattle.std.specs.BTreeSet.{BTreeSet, IsOrdered}
use Rattle.std.specs.List.{All}
use Rattle.qg_machine.specs.Members.{Hierarchy, level_of_group}
use Rattle.qg_machine.specs.GroupChange.{has_pair}
use Rattle.qg_qgroups.specs.Groups.{IsSound, has_number, pair_cmp}

-- the groups, and the relations as pairs of a member and its parent
abbrev pub seen : BTreeSet ℕ → BTreeSet (ℕ × ℕ) → Hierarchy
seen groups up = record { groups = groups.keys; pairs = up.keys }

-- both numbers of each pair have 64 bits
abbrev pub PairsFit : BTreeSet (ℕ × ℕ) → Type 0
PairsFit pairs = All (λ pair. (pair.0 < 2 ^ 64) × (pair.1 < 2 ^ 64)) pairs.keys

-- groups are all of level 0
abbrev pub AreSubvolumes : List ℕ → Type 0
AreSubvolumes groups = (group : ℕ) → IsTrue (has_number group groups) → level_of_group group ≡ 0

-- a group is one of some, none of them is greater, and its level isn't 0
pub record IsLastAbove (groups : List ℕ) (last : ℕ) : Type 0 where
  pub there : IsTrue (has_number last groups)
  pub greatest : (group : ℕ) → IsTrue (has_number group groups) → group ≤ last
  pub above : 0 < level_of_group last

-- the relations are kept twice: as pairs of a member and its parent, and the other way round
pub record AreKept (groups : BTreeSet ℕ) (up down : BTreeSet (ℕ × ℕ)) : Type 0 where
  pub sound : IsSound (seen groups up)
  pub turned : (member parent : ℕ) → has_pair parent member down.keys ≡ has_pair member parent up.keys
  pub ordered : IsOrdered pair_cmp down
  pub up_fit : PairsFit up
  pub down_fit : PairsFit down
