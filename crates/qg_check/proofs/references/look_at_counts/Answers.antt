use Rattle.std.proofs.Common.{◌≤◌, List, length, subst, arith}
use Rattle.std.specs.List.{All}
use Rattle.std.proofs.lemmas.List.{take_all}
use Rattle.std.proofs.lemmas.List.Elements.{All-more}
use Rattle.qg_image.specs.declared.part.ExtentPart.{ExtentPart}
use Rattle.qg_check.specs.Counts.{CountFits}
use Rattle.qg_check.proofs.references.look_at_counts.Goals as goal

pub loop-part-preserved : goal.loop-part-preserved
loop-part-preserved c =
    All-more CountFits c.args.parts.now c.loop-part.part-index c.part-item.result c.loop-part-test.true
    c.loop-part.invariant
    (subst CountFits c.part-item.is c.look_at_count.ensures)

pub returns : goal.returns
returns c =
    let parts = c.args.parts.now in
    let i = c.loop-part.part-index in
    let end : length parts ≤ i = omega (arith, c.loop-part-test.false) in
    subst (λ (list : List ExtentPart). All CountFits list) (take_all i parts end) c.loop-part.invariant
