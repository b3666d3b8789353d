use Rattle.std.proofs.Common.{inl, inr, refl, sym, subst, ◌∙◌}
use Rattle.std.proofs.lemmas.Option.{none-some}
use Rattle.qg_device.specs.History.{content}
use Rattle.qg_device.proofs.Causes.{end-by, end-last}
use Rattle.qg_walk.specs.Fault.{TellsFailure}
use Rattle.qg_program.specs.declared.status.Status.TheVariants as status
use Rattle.qg_program.proofs.Left.{leaves-unopened, rests-told}
use Rattle.qg_program.proofs.Judged.{follows-unopened, looked-unsound, state-sound, untouched-judged}
use Rattle.qg_program.proofs.Replied.{failure-put}
use Rattle.qg_program.proofs.run.run.Goals as goal

pub returns-in-Ok-clause-follows : goal.returns-in-Ok-clause-follows
returns-in-Ok-clause-follows g c = λ events input state told source stands.
    let opens = c.in-Ok.ensures.repaired events told in
    c.answer_lines.ensures.follows state events _ input (c.in-Ok.ensures.opened events state told stands)
    (record { super = opens.super; chosen = opens.chosen; repaired = refl }) opens.repaired source

pub returns-in-Err-clause-follows : goal.returns-in-Err-clause-follows
returns-in-Err-clause-follows g c = λ events input state told source stands.
    let silent = c.refuse.ensures.silent
    (subst (TellsFailure c.in-Err.fault) stands.sound (c.in-Err.ensures.refused events told)) in
    follows-unopened c.refuse.result state input silent.0 (c.open.ensures.touches events told) silent.1 source

pub returns-in-Ok-clause-crashes : goal.returns-in-Ok-clause-crashes
returns-in-Ok-clause-crashes g c = λ events after state told now stands.
    let opens = c.in-Ok.ensures.repaired events told in
    let outlives = c.open.ensures.crashes events told in
    let rests = rw c.in-Ok.is at outlives.rests state stands in
    c.answer_lines.ensures.crashes state events _ after (c.in-Ok.ensures.opened events state told stands)
    (record { super = opens.super; chosen = opens.chosen; repaired = refl }) opens.repaired now stands
    (rests-told _ _ state opens.repaired rests)

pub returns-in-Err-clause-crashes : goal.returns-in-Err-clause-crashes
returns-in-Err-clause-crashes g c = λ events after state told now stands.
    let silent = c.refuse.ensures.silent
    (subst (TellsFailure c.in-Err.fault) stands.sound (c.in-Err.ensures.refused events told)) in
    let outlives = c.open.ensures.crashes events told in
    leaves-unopened state events after _ _ (outlives.crashes after state now stands)
    (λ image left. outlives.early after image now left) _ silent.1
    c.refuse.result silent.0

pub returns-in-Err-clause-unsound : goal.returns-in-Err-clause-unsound
returns-in-Err-clause-unsound g c = λ events told image sound.
    let silent = c.refuse.ensures.silent
    (subst (TellsFailure c.in-Err.fault) sound (c.in-Err.ensures.refused events told)) in
    elim silent.0 [
      | inl is ↦ absurd cc
      | inr is ↦ absurd cc
    ]

pub returns-in-Err-clause-refuses : goal.returns-in-Err-clause-refuses
returns-in-Err-clause-refuses g c = λ events failure told unsound. (
  record {
    put = c.refuse.ensures.refuses failure
        (subst (TellsFailure c.in-Err.fault) unsound (c.in-Err.ensures.refused events told));
    looked_at = looked-unsound events failure _ unsound (c.open.ensures.touches events told);
    unwritten = λ judged.
        let judges = c.refuse.ensures.judged judged in
        untouched-judged c.in-Err.fault (c.in-Err.ensures.unwritten events told) judges.0 judges.1;
  },
  refl,
)

pub returns-in-Ok-clause-refuses : goal.returns-in-Ok-clause-refuses
returns-in-Ok-clause-refuses g c =
    λ events failure told unsound. absurd (none-some failure (sym (c.in-Ok.ensures.sound events told) ∙ unsound))

pub returns-in-Ok-clause-unsound : goal.returns-in-Ok-clause-unsound
returns-in-Ok-clause-unsound g c = λ events told image sound.
    let found = state-sound (content events) sound in
    let opens = c.in-Ok.ensures.repaired events told in
    c.answer_lines.ensures.sound (record {
      state = found.0;
      events = _;
      told = opens.repaired;
      stands = c.in-Ok.ensures.opened events found.0 told found.1;
    }) image

pub returns-in-Ok-clause-causes : goal.returns-in-Ok-clause-causes
returns-in-Ok-clause-causes g c =
    let causes = c.answer_lines.ensures.causes in
    record {
      source = causes.source;
      sink = causes.sink;
      disk = end-last status.Disk (g.D.Disk.faults c.args.disk.now) (g.D.Disk.faults c.open.new.disk)
          (g.D.Disk.faults c.answer_lines.new.disk) c.answer_lines.result c.in-Ok.ensures.cause.fine causes.disk;
    }

pub returns-in-Err-clause-causes : goal.returns-in-Err-clause-causes
returns-in-Err-clause-causes g c =
    record {
      source = inr ((λ is. let ends = rw is at c.refuse.ensures.ends in absurd cc), refl);
      sink = c.refuse.ensures.sink_fault;
      disk = end-by status.Disk (g.D.Disk.faults c.args.disk.now) (g.D.Disk.faults c.open.new.disk) c.in-Err.fault
          c.refuse.result c.refuse.ensures.disk.1 c.refuse.ensures.disk.0 c.in-Err.ensures.cause;
    }

pub returns-in-Err-clause-told : goal.returns-in-Err-clause-told
returns-in-Err-clause-told g c = λ is. failure-put _ _ (c.refuse.ensures.told is)
