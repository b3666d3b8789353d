use Rattle.std.proofs.Common.{◌≡◌, ◌≤◌, drop}
use Rattle.qg_delayed.specs.Entry.{what_of}
use Rattle.qg_delayed.specs.Flushing.{all_come, come_in}
use Rattle.qg_delayed.specs.LookUps.{Unwritten}
use Rattle.qg_delayed.specs.Making.{LeftByEdits}
use Rattle.qg_delayed.proofs.OneByOne.{Going}
use Rattle.qg_delayed.proofs.making.make_comes.Given as goal

abbrev pub invariant-loop-change : goal.invariant-loop-change
invariant-loop-change g l = record {
  going : Going g.B.RefBook.stands g.B.RefBook.holds g.B.RefBook.has_room g.B.RefBook.edits
      (come_in l.at l.entry)
      (all_come l.at (what_of l.entry) l.entry.begun (drop l.change-index l.changes))
      l.initial.book l.initial.land
      l.initial.disk l.book l.land l.disk;
  left : LeftByEdits g.B.RefBook.edits l.initial.land l.initial.disk l.land l.disk;
  unwritten : Unwritten g.D.Disk.history g.D.Disk.size l.initial.disk l.disk;
  faults : g.D.Disk.faults l.disk ≡ g.D.Disk.faults l.initial.disk;
  rise : l.initial.reads ≤ l.reads;
}
