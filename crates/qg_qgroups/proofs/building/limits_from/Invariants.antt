use Rattle.std.proofs.Common.{◌≡◌, ℕ, take}
use Rattle.qg_qgroups.specs.Limit.{held_of, maxima_at, maxima_of}
use Rattle.qg_qgroups.specs.Tracked.{limits_by}
use Rattle.qg_qgroups.proofs.building.limits_from.Given as goal

-- the limits of those so far are set, and nothing is held
abbrev pub invariant-loop-number : goal.invariant-loop-number
invariant-loop-number l = record {
  limits : (group : ℕ) → maxima_of l.limits group ≡ maxima_at (limits_by (take l.number-index l.groups)) group;
  held : (group : ℕ) → held_of l.limits group ≡ 0;
}
