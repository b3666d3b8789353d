use Rattle.std.proofs.Common.{ℕ, ◌<◌}
use Rattle.qg_owner_rule.specs.Housed.{IsHoused}
use Rattle.qg_owner_rule.proofs.housed.first_homeless.Given as goal

abbrev pub invariant-loop-i : goal.invariant-loop-i
invariant-loop-i l = (before : ℕ) → before < l.i → IsHoused l.housed before
