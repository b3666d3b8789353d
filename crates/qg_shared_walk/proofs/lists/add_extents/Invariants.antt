use Rattle.std.proofs.Common.{◌≡◌, ◌++◌, map, take}
use Rattle.qg_shared_walk.specs.Marked.{extent_thing}
use Rattle.qg_shared_walk.proofs.lists.add_extents.Given as goal

abbrev pub invariant-loop-extent : goal.invariant-loop-extent
invariant-loop-extent l = l.things.items ≡ l.initial.things.items ++ map extent_thing (take l.extent-index l.extents)
