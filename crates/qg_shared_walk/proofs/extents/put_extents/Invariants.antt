use Rattle.std.proofs.Common.{◌≡◌, ◌++◌, take}
use Rattle.qg_shared_walk.proofs.extents.put_extents.Given as goal

abbrev pub invariant-loop-extent : goal.invariant-loop-extent
invariant-loop-extent l = l.named.items ≡ l.initial.named.items ++ take l.extent-index l.extents
