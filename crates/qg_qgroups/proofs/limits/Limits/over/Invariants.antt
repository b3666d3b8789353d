use Rattle.std.proofs.Common.{◌≡◌, drop}
use Rattle.qg_qgroups.specs.Limit.{first_over_of}
use Rattle.qg_qgroups.proofs.limits.Limits.over.Given as goal

abbrev pub invariant-loop-entry : goal.invariant-loop-entry
invariant-loop-entry l = first_over_of l.self l.path l.n ≡ first_over_of l.self (drop l.entry-index l.path) l.n
