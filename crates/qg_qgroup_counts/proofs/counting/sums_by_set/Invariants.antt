use Rattle.std.proofs.Common.{◌≡◌, ℕ, Bool, length, take}
use Rattle.qg_qgroup_counts.specs.Portions.{sum_where, bytes_where}
use Rattle.qg_qgroup_counts.proofs.counting.sums_by_set.Given as goal

abbrev pub invariant-loop-portion : goal.invariant-loop-portion
invariant-loop-portion l = record {
  same : length l.sums.items ≡ l.fn.count;
  sums : (test : ℕ → Bool) → sum_where test 0 l.sums.items ≡ bytes_where test (take l.portion-index l.portions);
}
