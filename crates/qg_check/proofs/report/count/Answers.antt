use Rattle.std.proofs.Common.{refl, ◌∙◌}
use Rattle.qg_device.specs.History.{content}
use Rattle.qg_check.proofs.Staging.{tells_same, fails_handed}
use Rattle.qg_check.proofs.report.count.Goals as goal

-- ---- what is judged is fit

pub judge-requires-clause-served : goal.judge-requires-clause-served
judge-requires-clause-served g c = c.in_ok-whole.ensures.fit.served

pub judge-requires-clause-slots : goal.judge-requires-clause-slots
judge-requires-clause-slots g c = c.in_ok-whole.ensures.fit.nodes

pub judge-requires-clause-parts : goal.judge-requires-clause-parts
judge-requires-clause-parts g c = c.in_ok-whole.ensures.fit.parts

pub judge-requires-clause-subvolumes : goal.judge-requires-clause-subvolumes
judge-requires-clause-subvolumes g c = c.in_ok-whole.ensures.fit.subvolumes

pub judge-requires-clause-tracked : goal.judge-requires-clause-tracked
judge-requires-clause-tracked g c = c.in_ok-whole.ensures.fit.tracked

-- ---- the verdict

pub returns-in_err-whole-clause-failure : goal.returns-in_err-whole-clause-failure
returns-in_err-whole-clause-failure g c = λ events told.
    fails_handed c.from_residual.result c.in_err-whole.field-0.0 _ c.from_residual.ensures.1
    (c.in_err-whole.ensures.failure events told)

pub returns-in_err-judge-clause-failure : goal.returns-in_err-judge-clause-failure
returns-in_err-judge-clause-failure g c = λ events told.
    let fault = c.in_err-judge.field-0.0 in
    let whole = c.in_ok-whole.ensures.whole events told in
    fails_handed c.from_residual-in_err-judge.result fault _ c.from_residual-in_err-judge.ensures.1
    (tells_same fault whole.left (c.in_err-judge.ensures.failure (content events) whole.read))

pub returns-clause-failure : goal.returns-clause-failure
returns-clause-failure g c = λ events told.
    let whole = c.in_ok-whole.ensures.whole events told in
    whole.left ∙ c.in_ok-judge.ensures.failure (content events) whole.read

pub returns-clause-at : goal.returns-clause-at
returns-clause-at g c = λ events told.
    let whole = c.in_ok-whole.ensures.whole events told in
    record {
      sound = returns-clause-failure g c events told;
      super = c.in_ok-whole.whole.superblock;
      chosen = whole.chosen;
      at = refl;
    }
