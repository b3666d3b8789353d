use Rattle.std.proofs.Common.{◌++◌, ◌∷◌, [], sym, ap, ◌∙◌}
use Rattle.std.proofs.lemmas.Bool.{not-false, not-true}
use Rattle.qg_tree_read.specs.Tree.{Root}
use Rattle.qg_image_changes.proofs.OpenedFits.{others-more, others-same}
use Rattle.qg_image_changes.proofs.opening.others_of.Goals as goal
use Rattle.qg_image_changes.proofs.opening.others_of.Goals.{then-ne+in_ok-push, else-ne}

pub loop-entry-preserved : goal.loop-entry-preserved
loop-entry-preserved c =
    elim c.if-ne.branch [
      | then-ne+in_ok-push w ↦
          others-more c.args.next c.args.number c.args.roots.now c.loop-entry.entry-index c.entry-item.result
          c.loop-entry.trees.items c.if-ne.trees.items c.loop-entry-test.true c.entry-item.is c.loop-entry.invariant
          (not-true _ (sym c.ne.ensures ∙ w.if-ne.true))
          (ap (λ v. v.items) w.trees-is ∙ w.in_ok-push.ensures.items
          ∙ ap (λ (tree : Root). c.loop-entry.trees.items ++ tree ∷ []) w.at.ensures)
      | else-ne w ↦
          others-same c.args.next c.args.number c.args.roots.now c.loop-entry.entry-index c.entry-item.result
          c.loop-entry.trees.items c.if-ne.trees.items c.loop-entry-test.true c.entry-item.is c.loop-entry.invariant
          (not-false _ (sym c.ne.ensures ∙ w.if-ne.false)) (ap (λ v. v.items) w.trees-is)
    ]
