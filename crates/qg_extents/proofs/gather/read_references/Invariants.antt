use Rattle.std.proofs.Common.{take}
use Rattle.qg_extents.specs.BookRecords.{told_in}
use Rattle.qg_extents.proofs.Telling.{IsSoFar}
use Rattle.qg_extents.proofs.gather.read_references.Given as goal

abbrev pub invariant-loop-part : goal.invariant-loop-part
invariant-loop-part l = IsSoFar l.refs l.gathered.left (told_in (take l.part-index l.here)) l.gathered.references
