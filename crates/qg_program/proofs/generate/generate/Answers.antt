use Rattle.std.proofs.Common.{inl, inr, refl, sym, subst, ◌∙◌, arith}
use Rattle.std.proofs.lemmas.Option.{none-some}
use Rattle.qg_device.specs.History.{content}
use Rattle.qg_device.proofs.Causes.{end-by, end-last}
use Rattle.qg_walk.specs.Fault.{TellsFailure}
use Rattle.qg_program.specs.declared.status.Status.TheVariants as status
use Rattle.qg_program.proofs.Drawn.{lines-unopened}
use Rattle.qg_program.proofs.Generated.{generates-unopened, refuse-generates}
use Rattle.qg_program.proofs.Judged.{looked-unsound, state-sound, untouched-judged}
use Rattle.qg_program.proofs.Left.{rests-told}
use Rattle.qg_program.proofs.generate.generate.Goals as goal

pub returns-in-Ok-clause-generates : goal.returns-in-Ok-clause-generates
returns-in-Ok-clause-generates g c = λ events state few told stands.
    let opens = c.in-Ok.ensures.repaired events told in
    c.run_generated.ensures.generates state events _ (c.in-Ok.ensures.opened events state told stands)
    (record { super = opens.super; chosen = opens.chosen; repaired = refl }) opens.repaired

pub returns-in-Err-clause-generates : goal.returns-in-Err-clause-generates
returns-in-Err-clause-generates g c = λ events state few told stands.
    let silent = c.refuse.ensures.silent
    (subst (TellsFailure c.in-Err.fault) stands.sound (c.in-Err.ensures.refused events told)) in
    generates-unopened c.refuse.result state c.args.seed c.args.count silent.0 (c.open.ensures.touches events told)
    silent.1

pub returns-in-Ok-clause-crashes : goal.returns-in-Ok-clause-crashes
returns-in-Ok-clause-crashes g c = λ events after state few told now stands.
    let opens = c.in-Ok.ensures.repaired events told in
    let outlives = c.open.ensures.crashes events told in
    let rests = rw c.in-Ok.is at outlives.rests state stands in
    c.run_generated.ensures.crashes state events _ after (c.in-Ok.ensures.opened events state told stands)
    (record { super = opens.super; chosen = opens.chosen; repaired = refl }) opens.repaired now stands
    (rests-told _ _ state opens.repaired rests)

pub returns-in-Err-clause-crashes : goal.returns-in-Err-clause-crashes
returns-in-Err-clause-crashes g c = λ events after state few told now stands.
    let silent = c.refuse.ensures.silent
    (subst (TellsFailure c.in-Err.fault) stands.sound (c.in-Err.ensures.refused events told)) in
    let outlives = c.open.ensures.crashes events told in
    lines-unopened state c.args.seed c.args.count events after _ _ (outlives.crashes after state now stands)
    (λ image left. outlives.early after image now left) silent.1 c.refuse.result silent.0

pub returns-in-Err-clause-unsound : goal.returns-in-Err-clause-unsound
returns-in-Err-clause-unsound g c = λ events told image sound.
    let silent = c.refuse.ensures.silent
    (subst (TellsFailure c.in-Err.fault) sound (c.in-Err.ensures.refused events told)) in
    elim silent.0 [
      | inl is ↦ absurd cc
      | inr is ↦ absurd cc
    ]

pub returns-in-Err-clause-refuses : goal.returns-in-Err-clause-refuses
returns-in-Err-clause-refuses g c = λ events failure few told unsound. record {
  put = c.refuse.ensures.refuses failure
      (subst (TellsFailure c.in-Err.fault) unsound (c.in-Err.ensures.refused events told));
  looked_at = looked-unsound events failure _ unsound (c.open.ensures.touches events told);
  unwritten = λ judged.
      let judges = c.refuse.ensures.judged judged in
      untouched-judged c.in-Err.fault (c.in-Err.ensures.unwritten events told) judges.0 judges.1;
}

pub returns-in-Ok-clause-refuses : goal.returns-in-Ok-clause-refuses
returns-in-Ok-clause-refuses g c =
    λ events failure few told unsound. absurd (none-some failure (sym (c.in-Ok.ensures.sound events told) ∙ unsound))

pub returns-in-Ok-clause-unsound : goal.returns-in-Ok-clause-unsound
returns-in-Ok-clause-unsound g c = λ events told image sound.
    let found = state-sound (content events) sound in
    let opens = c.in-Ok.ensures.repaired events told in
    c.run_generated.ensures.sound (record {
      state = found.0;
      events = _;
      told = opens.repaired;
      stands = c.in-Ok.ensures.opened events found.0 told found.1;
    }) image

pub returns-in-Ok-clause-disk_fault : goal.returns-in-Ok-clause-disk_fault
returns-in-Ok-clause-disk_fault g c =
    end-last status.Disk (g.D.Disk.faults c.args.disk.now) (g.D.Disk.faults c.open.new.disk)
    (g.D.Disk.faults c.run_generated.new.disk) c.run_generated.result c.in-Ok.ensures.cause.fine
    c.run_generated.ensures.disk_fault

pub returns-in-Err-clause-disk_fault : goal.returns-in-Err-clause-disk_fault
returns-in-Err-clause-disk_fault g c =
    end-by status.Disk (g.D.Disk.faults c.args.disk.now) (g.D.Disk.faults c.open.new.disk) c.in-Err.fault
    c.refuse.result c.refuse.ensures.disk.1 c.refuse.ensures.disk.0 c.in-Err.ensures.cause

-- ---- no more lines than may be drawn

pub run_generated-requires-clause-few : goal.run_generated-requires-clause-few
run_generated-requires-clause-few g c = omega arith

pub returns-in-Ok-clause-sizes : goal.returns-in-Ok-clause-sizes
returns-in-Ok-clause-sizes g c =
    (λ is. absurd (c.run_generated.ensures.ends.1 is), λ many. absurd (omega (arith, many)))

pub returns-in-Err-clause-sizes : goal.returns-in-Err-clause-sizes
returns-in-Err-clause-sizes g c = (
  λ is. let ends = rw is at c.refuse.ensures.ends in
      absurd cc,
  λ many. absurd (omega (arith, many)),
)

pub returns-in-Ok-clause-untouched : goal.returns-in-Ok-clause-untouched
returns-in-Ok-clause-untouched g c = λ is. absurd (c.run_generated.ensures.ends.1 is)

pub returns-in-Err-clause-untouched : goal.returns-in-Err-clause-untouched
returns-in-Err-clause-untouched g c = λ is. let ends = rw is at c.refuse.ensures.ends in absurd cc

pub returns-in-Ok-clause-told : goal.returns-in-Ok-clause-told
returns-in-Ok-clause-told g c = λ is. (omega arith, c.run_generated.ensures.told is)

pub returns-in-Err-clause-told : goal.returns-in-Err-clause-told
returns-in-Err-clause-told g c = λ is. (omega arith, c.refuse.ensures.told is)

pub returns-in-Ok-clause-ends : goal.returns-in-Ok-clause-ends
returns-in-Ok-clause-ends g c = c.run_generated.ensures.ends.0

pub returns-in-Err-clause-ends : goal.returns-in-Err-clause-ends
returns-in-Err-clause-ends g c = refuse-generates c.refuse.result c.refuse.ensures.ends
