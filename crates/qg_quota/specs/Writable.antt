-- Quota that can be written as items, so that it is read again (this project's own).
use Rattle.std.specs.Prelude.{ℕ, ◌≤◌, ◌<◌, ◌^◌, Option, IfSome}
use Rattle.std.specs.List.{All}
use Rattle.qg_image.specs.declared.quota.Group.{Group}
use Rattle.qg_image.specs.declared.quota.Quota.{Quota}
use Rattle.qg_image.specs.Members.{hierarchy_of}
use Rattle.qg_qgroups.specs.Groups.{IsSound}

-- groups and relations are sound, so groups ascend by number; and no commit past this generation changed a group's
-- counters
pub record AreWritableQuota (generation : ℕ) (quota : Quota) : Type 0 where
  pub sound : IsSound (hierarchy_of quota)
  pub stamped : All (λ entry. entry.1.stamp ≤ generation) quota.groups

-- a group's number, its stamp and its counters fit their fields
pub record CountersFit (entry : ℕ × Group) : Type 0 where
  pub number : entry.0 < 2 ^ 64
  pub stamp : entry.1.stamp < 2 ^ 64
  pub rfer : entry.1.counters.rfer < 2 ^ 64
  pub excl : entry.1.counters.excl < 2 ^ 64

-- and so do its limits, where they are set
pub record LimitsFit (most_rfer most_excl : Option ℕ) : Type 0 where
  pub max_rfer : IfSome most_rfer (λ most. most < 2 ^ 64)
  pub max_excl : IfSome most_excl (λ most. most < 2 ^ 64)

-- all that is kept of a group fits its fields
pub record GroupFits (entry : ℕ × Group) : Type 0 where
  pub counters : CountersFit entry
  pub limits : LimitsFit entry.1.max_rfer entry.1.max_excl

-- both numbers of a relation do
abbrev pub PairFits : ℕ × ℕ → Type 0
PairFits pair = (pair.0 < 2 ^ 64) × (pair.1 < 2 ^ 64)
