use Rattle.std.proofs.Common.{◌≡◌, take}
use Rattle.qg_qgroups.specs.Judging.{counted_path}
use Rattle.qg_qgroups.proofs.judging.counted.Given as goal

abbrev pub invariant-loop-group : goal.invariant-loop-group
invariant-loop-group l = l.counted ≡ counted_path l.groups (take l.group-index l.path)
