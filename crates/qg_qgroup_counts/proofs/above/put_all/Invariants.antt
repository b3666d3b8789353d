use Rattle.std.proofs.Common.{take}
use Rattle.qg_qgroup_counts.specs.Above.{HaveOneMore}
use Rattle.qg_qgroup_counts.proofs.above.put_all.Given as goal

abbrev pub invariant-loop-place : goal.invariant-loop-place
invariant-loop-place l = HaveOneMore (take l.place-index l.places) l.parent l.initial.above l.above
