use Rattle.std.proofs.Common.{◌≡◌, ◌++◌}
use Rattle.qg_qgroups.proofs.numbers.groups_of.Given as goal

abbrev pub invariant-loop-number : goal.invariant-loop-number
invariant-loop-number l = l.groups ++ l.number-iterator ≡ l.numbers.keys
