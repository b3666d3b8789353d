use Rattle.std.proofs.Common.{◌≡◌, take}
use Rattle.qg_extents.specs.Written.{refs_of}
use Rattle.qg_extents.proofs.items.total.Given as goal

abbrev pub invariant-loop-entry : goal.invariant-loop-entry
invariant-loop-entry l = l.refs ≡ refs_of (take l.entry-index l.references)
