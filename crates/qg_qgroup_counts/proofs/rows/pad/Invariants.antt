use Rattle.std.proofs.Common.{◌≡◌, ℕ, length, get_or}
use Rattle.qg_qgroup_counts.proofs.rows.pad.Given as goal

abbrev pub invariant-loop-word : goal.invariant-loop-word
invariant-loop-word l = record {
  length : length l.row ≡ l._word;
  same : (word : ℕ) → get_or l.row word 0 ≡ get_or l.initial.row word 0;
}
