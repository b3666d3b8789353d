use Rattle.std.proofs.Common.{List, ◌∷◌, [], ◌++◌, ap, sym, ◌∙◌}
use Rattle.qg_image.specs.declared.element.Element.{Element}
use Rattle.qg_shared_walk.proofs.Naming.{named_more, named_none}
use Rattle.qg_shared_walk.proofs.extents.extents_of_items.Goals as goal
use Rattle.qg_shared_walk.proofs.extents.extents_of_items.Goals.{in-Some+in_ok-push, in_default}

pub loop-item-preserved : goal.loop-item-preserved
loop-item-preserved c =
    let item = c.item-item in
    let loop = c.loop-item in
    elim c.match-piece_in.branch [
      | in-Some+in_ok-push w ↦
          w.extents-is ∙ w.in_ok-push.ensures.ok
          ∙ ap (λ (extents : List Element). extents ++ w.extent_of.result ∷ []) loop.invariant
          ∙ sym (named_more c.args.items.now loop.item-index item.result w.in-Some.piece w.extent_of.result
          c.loop-item-test.true item.is (sym w.in-Some.is ∙ c.piece_in.ensures) w.extent_of.ensures)
      | in_default w ↦
          w.extents-is ∙ loop.invariant
          ∙ sym (named_none c.args.items.now loop.item-index item.result c.loop-item-test.true item.is
          (sym w.in_default.is ∙ c.piece_in.ensures))
    ]
