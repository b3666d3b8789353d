use Rattle.std.proofs.Common.{◌+◌, ◌-◌, ℕ, List}
use Rattle.qg_qgroup_counts.specs.Reached.{AreWays, IsSized, AreSettledFrom}
use Rattle.qg_qgroup_counts.proofs.reached.settle_all.Given as goal

abbrev pub invariant-loop-depth : goal.invariant-loop-depth
invariant-loop-depth l = record {
  sized : IsSized l.nodes l.ways l.reached;
  settled : (roots : List (ℕ × ℕ)) → AreWays l.nodes roots l.ways
      → AreSettledFrom l.nodes roots (l.highest - l.depth + 1) l.reached;
}
