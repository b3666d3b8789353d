use Rattle.std.proofs.Common.{◌≡◌, ◌++◌}
use Rattle.qg_qgroups.proofs.pairs.pairs_of.Given as goal

abbrev pub invariant-loop-pair : goal.invariant-loop-pair
invariant-loop-pair l = l.pairs ++ l.pair-iterator ≡ l.numbers.keys
