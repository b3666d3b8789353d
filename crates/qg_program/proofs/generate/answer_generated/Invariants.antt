use Rattle.std.proofs.Common.{◌≡◌, ◌+◌, ◌≤◌, List, [], length}
use Rattle.qg_device.specs.History.{Event, Recorded}
use Rattle.qg_image.specs.State.{State}
use Rattle.qg_store.specs.Stored.{IsReady, IsStoreOf}
use Rattle.qg_program.proofs.Loaded.{HasRun}
use Rattle.qg_program.proofs.generate.answer_generated.Given as goal

abbrev pub invariant-lines : goal.invariant-lines
invariant-lines g l = record {
  ready : IsReady l.session.store (g.D.Disk.history l.disk) (g.D.Disk.size l.disk);
  blank : l.text ≡ [];
  few : l.tally.done + l.tally.refused + length l.generator ≤ length l.initial.generator;
  ran : (state : State) (events : List Event) → IsStoreOf l.fn.session.store state (g.D.Disk.history l.fn.disk)
      → g.D.Disk.history l.fn.disk ≡ Recorded events
      → HasRun state l.initial.generator l.generator l.tally l.session.store events (g.D.Disk.history l.disk);
  later : g.D.Disk.faults l.disk ≡ g.D.Disk.faults l.fn.disk;
}

abbrev pub decreases-lines : goal.decreases-lines
decreases-lines g l = length l.generator
