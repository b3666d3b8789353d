use Rattle.std.proofs.Common.{◌+◌, ℕ, List}
use Rattle.qg_qgroup_counts.specs.Reached.{AreWays, IsSized, AreSettledFrom}
use Rattle.qg_qgroup_counts.proofs.Settling.{SettledFirst}
use Rattle.qg_qgroup_counts.proofs.level.settle_level.Given as goal

abbrev pub invariant-loop-i : goal.invariant-loop-i
invariant-loop-i l = record {
  sized : IsSized l.nodes l.ways l.reached;
  settled : (roots : List (ℕ × ℕ)) → AreWays l.nodes roots l.ways
      → AreSettledFrom l.nodes roots (l.level + 1) l.initial.reached
      → SettledFirst l.nodes roots l.level l.i l.reached.numbers.items l.reached.sets.rows.items;
}
