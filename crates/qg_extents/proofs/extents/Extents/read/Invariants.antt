use Rattle.std.proofs.Common.{◌-◌, ◌≤◌, length, take}
use Rattle.qg_extents.specs.Table.{book_of}
use Rattle.qg_extents.specs.BookRecords.{IsTold}
use Rattle.qg_extents.proofs.Records.{HaveEntries}
use Rattle.qg_extents.proofs.Runs.{IsDone}
use Rattle.qg_extents.proofs.extents.Extents.read.Given as goal

abbrev pub invariant-loop-from : goal.invariant-loop-from
invariant-loop-from l = record {
  bound : l.from ≤ length l.parts;
  done : IsDone l.from l.parts;
  told : IsTold l.nodesize (take l.from l.parts) (book_of l.extents);
  have : HaveEntries (take l.from l.parts) (take l.from l.parts);
}

abbrev pub decreases-loop-from : goal.decreases-loop-from
decreases-loop-from l = length l.parts - l.from
