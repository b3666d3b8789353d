use Rattle.std.proofs.Common.{Bool, ap, arith, length}
use Rattle.std.proofs.lemmas.Result.{err_from_is_err_and}
use Rattle.qg_program.specs.declared.generate.Tally.{Tally}
use Rattle.qg_device.proofs.Causes.{cause-handed}
use Rattle.qg_program.proofs.Loaded.{counted-one, run-all, run-more, run-none, run-stopped}
use Rattle.qg_program.proofs.generate.answer_generated.Goals as goal

pub lines-init : goal.lines-init
lines-init g c = record {
  ready = c.requires.ready;
  blank = c.requires.blank;
  few = omega arith;
  ran = λ state events stands told. run-none state _ _ events _ stands told;
  later = omega arith;
}

pub lines-preserved : goal.lines-preserved
lines-preserved g c =
    let left = ap length c.in-Some.ensures.given in
    let one = counted-one c.lines.tally c.in_ok-done.done in
    record {
      ready = c.in_ok-done.ensures.ready;
      blank = c.in_ok-done.ensures.blank;
      few = rw c.count.ensures (omega (arith, c.lines.invariant.few, left, one));
      ran = λ state events stands told.
          let so_far = c.lines.invariant.ran state events stands told in
          rw c.count.ensures (run-more state _ _ c.in-Some.command _ c.lines.tally c.in_ok-done.done
          c.in-Some.ensures.given so_far
          (c.in_ok-done.ensures.answered so_far.run.after so_far.run.made.after so_far.run.stands
          so_far.run.made.told));
      later = omega (arith, c.lines.invariant.later, c.in_ok-done.ensures.cause.fine);
    }

pub lines-preserved-in_ok-done : goal.lines-preserved-in_ok-done
lines-preserved-in_ok-done g c =
    let left = ap length c.in-Some.ensures.given in
    let one = counted-one c.lines.tally c.in_ok-done.done in
    record {
      ready = c.in_ok-done.ensures.ready;
      blank = c.in_ok-done.ensures.blank;
      few = rw c.count.ensures (omega (arith, c.lines.invariant.few, left, one));
      ran = λ state events stands told.
          let so_far = c.lines.invariant.ran state events stands told in
          rw c.count.ensures (run-more state _ _ c.in-Some.command _ c.lines.tally c.in_ok-done.done
          c.in-Some.ensures.given so_far
          (c.in_ok-done.ensures.answered so_far.run.after so_far.run.made.after so_far.run.stands
          so_far.run.made.told));
      later = omega (arith, c.lines.invariant.later, c.in_ok-done.ensures.cause.fine);
    }

pub lines-smaller : goal.lines-smaller
lines-smaller g c = let left = ap length c.in-Some.ensures.given in omega (arith, left)

pub count-requires : goal.count-requires
count-requires g c =
    let left = ap length c.in-Some.ensures.given in
    omega (arith, c.lines.invariant.few, left, c.requires.few)

pub returns-in_default-clause-run : goal.returns-in_default-clause-run
returns-in_default-clause-run g c = λ state events stands told.
    run-all state _ _ c.lines.tally c.in_default.ensures.none (c.lines.invariant.ran state events stands told)

pub returns-in_err-done-clause-stopped : goal.returns-in_err-done-clause-stopped
returns-in_err-done-clause-stopped g c = λ state events stands told.
    let found = err_from_is_err_and c.from_residual.result c.from_residual.ensures.1 in
    let so_far = c.lines.invariant.ran state events stands told in
    rw found.1 (run-stopped state _ _ c.in-Some.command _ c.lines.tally _ c.in-Some.ensures.given so_far
    (c.in_err-done.ensures.so_far so_far.run.after so_far.run.made.after so_far.run.stands so_far.run.made.told))

pub returns-in_err-done-clause-sound : goal.returns-in_err-done-clause-sound
returns-in_err-done-clause-sound g c = λ state events stands told.
    let found = err_from_is_err_and c.from_residual.result c.from_residual.ensures.1 in
    let so_far = c.lines.invariant.ran state events stands told in
    rw found.1 (rw found.2 (c.in_err-done.ensures.sound so_far.run.after so_far.run.made.after so_far.run.stands
    so_far.run.made.told))

pub returns-in_default-clause-cause : goal.returns-in_default-clause-cause
returns-in_default-clause-cause g c = record { fine = c.lines.invariant.later; met = tt }

pub returns-in_err-done-clause-cause : goal.returns-in_err-done-clause-cause
returns-in_err-done-clause-cause g c =
    let found = err_from_is_err_and c.from_residual.result c.from_residual.ensures.1 in
    rw found.1 (rw found.2 (cause-handed Bool Tally (g.D.Disk.faults c.args.disk.now) (g.D.Disk.faults c.lines.disk)
    (g.D.Disk.faults c.is_done.new.disk) _
    c.lines.invariant.later c.in_err-done.ensures.cause))
