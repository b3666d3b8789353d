use Rattle.std.proofs.Common.{take}
use Rattle.qg_extent_read.specs.Kept.{AreOnce}
use Rattle.qg_extent_read.proofs.Entries.{IsListSoFar}
use Rattle.qg_extent_read.proofs.references.list_of.Given as goal

abbrev pub invariant-loop-entry : goal.invariant-loop-entry
invariant-loop-entry l = AreOnce l.counts → IsListSoFar l.list (take l.entry-index l.counts)
