use Rattle.std.proofs.Common.{Ok, Err, ap, inr, ◌∙◌, arith}
use Rattle.qg_device.proofs.Causes.{end-last}
use Rattle.qg_program.specs.declared.status.Status.TheVariants as status
use Rattle.qg_program.proofs.Answered.{answered-none, answered-more, answered-all, answered-failed, counted-none}
use Rattle.qg_program.proofs.Answered.{counted-on, pending-none, taken-by, taken-whole, within-none}
use Rattle.qg_program.proofs.Left.{leaves-all, leaves-failed}
use Rattle.qg_program.proofs.Replied.{failure-behind, replies-more, replies-none}
use Rattle.qg_program.proofs.turn.answer_lines.Goals as goal

pub loop-text-init : goal.loop-text-init
loop-text-init g c = record {
  ready = c.requires.ready;
  answered = λ state opened stands known. answered-none state _ opened _ _ _ _ (rw c.new-feed.ensures (pending-none _))
      stands known;
  stands = λ is. is;
  replied = replies-none _;
  counted = rw c.new-feed.ensures (counted-none _);
  within = rw c.new-feed.ensures within-none;
  source_later = omega arith;
  sink_later = omega arith;
  disk_later = omega arith;
}

pub loop-text-preserved : goal.loop-text-preserved
loop-text-preserved g c = record {
  ready = rw c.in-Ok-true.is at c.turn.ensures.ready;
  answered = λ state opened stands known.
      let so_far = c.loop-text.invariant.answered state opened stands known in
      answered-more _ so_far (rw c.in-Ok-true.field-0-test at c.in-Ok-true.ensures.ok so_far.present so_far.events
      so_far.stands so_far.known);
  stands = λ is. rw c.in-Ok-true.is at c.turn.ensures.stands (c.loop-text.invariant.stands is);
  replied = replies-more _ _ _ c.loop-text.invariant.replied (rw c.in-Ok-true.is at c.turn.ensures.puts.replied);
  counted = counted-on _ _ _ _ _ c.loop-text.invariant.counted c.turn.ensures.takes.counted;
  within = c.turn.ensures.takes.within;
  source_later = c.in-Ok-true.ensures.causes.source.fine ∙ c.loop-text.invariant.source_later;
  sink_later = c.in-Ok-true.ensures.causes.sink.fine ∙ c.loop-text.invariant.sink_later;
  disk_later = c.in-Ok-true.ensures.causes.disk.fine ∙ c.loop-text.invariant.disk_later;
}

pub returns-in-Ok-false-clause-follows : goal.returns-in-Ok-false-clause-follows
returns-in-Ok-false-clause-follows g c = λ state events opened input stands opens known told.
    let so_far = c.loop-text.invariant.answered state opened stands known in
    answered-all input _ c.turn.new.session.store so_far told opens
    (rw c.in-Ok-false.field-0-test at c.in-Ok-false.ensures.ok so_far.present so_far.events so_far.stands so_far.known)

pub returns-in-Ok-false-clause-crashes : goal.returns-in-Ok-false-clause-crashes
returns-in-Ok-false-clause-crashes g c = λ state events opened after stands opens known now sound rests.
    let so_far = c.loop-text.invariant.answered state opened stands known in
    leaves-all _ c.turn.new.session.store so_far (record { opens = opens; stands = sound; rests = rests }) now
    (rw c.in-Ok-false.field-0-test at c.in-Ok-false.ensures.ok so_far.present so_far.events so_far.stands so_far.known)

pub returns-in-Ok-false-clause-takes : goal.returns-in-Ok-false-clause-takes
returns-in-Ok-false-clause-takes g c =
    let over = c.turn.ensures.takes.over (c.in-Ok-false.is ∙ ap Ok c.in-Ok-false.field-0-test) in
    let counted = counted-on _ _ _ _ _ c.loop-text.invariant.counted c.turn.ensures.takes.counted in
    taken-whole c.turn.new.feed _ _ counted c.turn.ensures.takes.within over.0 over.1

pub returns-in-Ok-false-clause-causes : goal.returns-in-Ok-false-clause-causes
returns-in-Ok-false-clause-causes g c =
    let earlier = c.loop-text.invariant in
    let causes = c.in-Ok-false.ensures.causes in
    record {
      source = inr ((λ is. absurd cc), causes.source.fine ∙ earlier.source_later);
      sink = inr ((λ is. absurd cc), causes.sink.fine ∙ earlier.sink_later);
      disk = inr ((λ is. absurd cc), causes.disk.fine ∙ earlier.disk_later);
    }

pub returns-in-Err-clause-follows : goal.returns-in-Err-clause-follows
returns-in-Err-clause-follows g c = λ state events opened input stands opens known told.
    let so_far = c.loop-text.invariant.answered state opened stands known in
    let counted = counted-on _ _ _ _ _ c.loop-text.invariant.counted c.turn.ensures.takes.counted in
    answered-failed _ input c.turn.new.feed _ c.turn.new.session.store _ _ so_far told opens
    (record { counted = rw told at counted; within = c.turn.ensures.takes.within })
    (λ is. c.turn.ensures.takes.too_long (c.in-Err.is ∙ ap Err is))
    (λ is. c.turn.ensures.takes.no_newline (c.in-Err.is ∙ ap Err is))
    (c.in-Err.ensures.err so_far.present so_far.events so_far.stands so_far.known)

pub returns-in-Err-clause-crashes : goal.returns-in-Err-clause-crashes
returns-in-Err-clause-crashes g c = λ state events opened after stands opens known now sound rests.
    let so_far = c.loop-text.invariant.answered state opened stands known in
    let counted = counted-on _ _ _ _ _ c.loop-text.invariant.counted c.turn.ensures.takes.counted in
    leaves-failed _ c.turn.new.feed _ c.turn.new.session.store so_far
    (record { opens = opens; stands = sound; rests = rests }) now counted
    c.turn.ensures.takes.within (λ is. c.turn.ensures.takes.too_long (c.in-Err.is ∙ ap Err is))
    (c.in-Err.ensures.err so_far.present so_far.events so_far.stands so_far.known)

pub returns-in-Err-clause-takes : goal.returns-in-Err-clause-takes
returns-in-Err-clause-takes g c =
    let counted = counted-on _ _ _ _ _ c.loop-text.invariant.counted c.turn.ensures.takes.counted in
    taken-by _ c.turn.new.feed _ _ counted c.turn.ensures.takes.within
    (λ is. c.turn.ensures.takes.too_long (c.in-Err.is ∙ ap Err is)) c.in-Err.ensures.ends.1

pub returns-in-Err-clause-sound : goal.returns-in-Err-clause-sound
returns-in-Err-clause-sound g c = λ stands is. c.turn.ensures.sound (c.loop-text.invariant.stands stands) (c.in-Err.is
    ∙ ap Err is)

pub returns-in-Err-clause-told : goal.returns-in-Err-clause-told
returns-in-Err-clause-told g c = λ is. failure-behind _ _ _ c.loop-text.invariant.replied
    (c.turn.ensures.puts.told (c.in-Err.is ∙ ap Err is))

pub returns-in-Err-clause-causes : goal.returns-in-Err-clause-causes
returns-in-Err-clause-causes g c =
    let earlier = c.loop-text.invariant in
    let causes = c.in-Err.ensures.causes in
    record {
      source = end-last status.Source (g.S.Source.faults c.args.source.now) (g.S.Source.faults c.loop-text.source)
          (g.S.Source.faults c.turn.new.source) c.in-Err.status earlier.source_later causes.source.met;
      sink = end-last status.Sink (g.K.Sink.faults c.args.sink.now) (g.K.Sink.faults c.loop-text.sink)
          (g.K.Sink.faults c.turn.new.sink) c.in-Err.status earlier.sink_later causes.sink.met;
      disk = end-last status.Disk (g.D.Disk.faults c.args.disk.now) (g.D.Disk.faults c.loop-text.disk)
          (g.D.Disk.faults c.turn.new.disk) c.in-Err.status earlier.disk_later causes.disk.met;
    }
