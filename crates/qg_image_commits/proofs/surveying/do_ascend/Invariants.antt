use Rattle.std.proofs.Common.{ℕ, ◌+◌, ◌<◌, get_or}
use Rattle.qg_qgroup_counts.specs.declared.surveyed.Surveyed.{Surveyed}
use Rattle.qg_image_commits.proofs.surveying.do_ascend.Given as goal

abbrev pub invariant-loop-i : goal.invariant-loop-i
invariant-loop-i l = (k : ℕ) (d : Surveyed) → k + 1 < l.i
    → (get_or l.nodes k d).linked.address < (get_or l.nodes (k + 1) d).linked.address
