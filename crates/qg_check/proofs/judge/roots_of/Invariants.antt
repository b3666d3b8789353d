use Rattle.std.proofs.Common.{◌≡◌, map, take}
use Rattle.qg_shared_walk.specs.Gathered.{root_at}
use Rattle.qg_check.proofs.judge.roots_of.Given as goal

abbrev pub invariant-loop-entry : goal.invariant-loop-entry
invariant-loop-entry l = l.roots.items ≡ map root_at (take l.entry-index l.subvolumes)
