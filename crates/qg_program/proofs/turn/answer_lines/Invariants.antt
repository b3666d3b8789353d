use Rattle.std.proofs.Common.{◌≡◌, List}
use Rattle.qg_device.specs.History.{Event, Recorded}
use Rattle.qg_script.specs.Feeding.{IsWithinLimit, most_to_come}
use Rattle.qg_script.specs.Lines.{CountsTaken, pending}
use Rattle.qg_image.specs.State.{State}
use Rattle.qg_store.specs.Stored.{IsReady, IsStoreOf}
use Rattle.qg_program.specs.Putting.{PutsReplies}
use Rattle.qg_program.specs.Turning.{StandsOver}
use Rattle.qg_program.proofs.Answered.{HasAnswered}
use Rattle.qg_program.proofs.turn.answer_lines.Given as goal

abbrev pub invariant-loop-text : goal.invariant-loop-text
invariant-loop-text g l = record {
  ready : IsReady l.session.store (g.D.Disk.history l.disk) (g.D.Disk.size l.disk);
  answered : (state : State) (opened : List Event)
      → IsStoreOf l.initial.session.store state (g.D.Disk.history l.initial.disk)
      → g.D.Disk.history l.initial.disk ≡ Recorded opened
      → HasAnswered state (g.S.Source.bytes_left l.initial.source) opened
      (pending l.feed (g.S.Source.bytes_left l.source)) l.session.store
      (g.D.Disk.history l.disk) (g.K.Sink.bytes_held l.initial.sink) (g.K.Sink.bytes_held l.sink);
  stands : StandsOver l.initial.session.store (g.D.Disk.history l.initial.disk)
      → StandsOver l.session.store (g.D.Disk.history l.disk);
  replied : PutsReplies (g.K.Sink.bytes_held l.initial.sink) (g.K.Sink.bytes_held l.sink);
  counted : CountsTaken (g.S.Source.bytes_left l.initial.source) (g.S.Source.bytes_left l.source) 0 l.feed.taken;
  within : IsWithinLimit l.feed;
  source_later : g.S.Source.faults l.source ≡ g.S.Source.faults l.initial.source;
  sink_later : g.K.Sink.faults l.sink ≡ g.K.Sink.faults l.initial.sink;
  disk_later : g.D.Disk.faults l.disk ≡ g.D.Disk.faults l.initial.disk;
}

abbrev pub decreases-loop-text : goal.decreases-loop-text
decreases-loop-text g l = most_to_come l.feed
