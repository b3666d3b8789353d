use Rattle.std.proofs.Common.{◌≡◌, length}
use Rattle.qg_qgroup_counts.proofs.Turning.{TurnedFirst}
use Rattle.qg_qgroup_counts.proofs.above.turn.Given as goal

abbrev pub invariant-loop-parent : goal.invariant-loop-parent
invariant-loop-parent l = record {
  same : length l.above ≡ length l.initial.above;
  turned : TurnedFirst l.parent l.below l.above;
}
