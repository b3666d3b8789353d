use Rattle.std.proofs.Common.{◌≡◌, ◌++◌}
use Rattle.qg_qgroups.proofs.numbers.subvolumes_of.Given as goal

abbrev pub invariant-loop-number : goal.invariant-loop-number
invariant-loop-number l = l.subs ++ l.number-iterator ≡ l.numbers.keys
