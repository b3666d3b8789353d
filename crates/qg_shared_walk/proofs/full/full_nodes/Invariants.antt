use Rattle.std.proofs.Common.{◌≡◌, take}
use Rattle.std.specs.List.{filter_map}
use Rattle.qg_shared_walk.specs.Marked.{full_address}
use Rattle.qg_shared_walk.proofs.full.full_nodes.Given as goal

abbrev pub invariant-loop-part : goal.invariant-loop-part
invariant-loop-part l = l.full.items ≡ filter_map full_address (take l.part-index l.parts)
