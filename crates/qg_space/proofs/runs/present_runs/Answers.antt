use Rattle.std.proofs.Common.{◌++◌, ◌∷◌, [], sym, ap, ◌∙◌}
use Rattle.qg_image.specs.declared.element.Element.{Element}
use Rattle.qg_space.proofs.Taken.{present-less, present-more}
use Rattle.qg_space.proofs.runs.present_runs.Goals as goal
use Rattle.qg_space.proofs.runs.present_runs.Goals.{then-is_present+in_ok-push, else-is_present}

pub loop-run-preserved : goal.loop-run-preserved
loop-run-preserved c =
    elim c.if-is_present.branch [
      | then-is_present+in_ok-push w ↦
          present-more c.args.runs.now c.loop-run.run-index c.run-item.result c.loop-run.list c.if-is_present.list
          c.loop-run-test.true c.run-item.is (sym c.is_present.ensures ∙ w.if-is_present.true) c.loop-run.invariant
          (w.list-is ∙ w.in_ok-push.ensures.ok ∙ ap (λ (e : Element). c.loop-run.list ++ e ∷ []) w.extent.ensures)
      | else-is_present w ↦
          present-less c.args.runs.now c.loop-run.run-index c.run-item.result c.loop-run.list c.if-is_present.list
          c.loop-run-test.true c.run-item.is (sym c.is_present.ensures ∙ w.if-is_present.false) c.loop-run.invariant
          w.list-is
    ]
