use Rattle.std.proofs.Common.{◌≡◌, drop}
use Rattle.qg_machine.specs.GroupChange.{has_pair}
use Rattle.qg_qgroups.proofs.refusing.are_related.Given as goal

abbrev pub invariant-loop-pair : goal.invariant-loop-pair
invariant-loop-pair l = has_pair l.member l.parent l.pairs ≡ has_pair l.member l.parent (drop l.pair-index l.pairs)
