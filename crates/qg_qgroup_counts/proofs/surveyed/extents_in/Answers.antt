use Rattle.std.proofs.Common.{ℕ, List, [], ◌∷◌, ◌++◌, sym, ap, ◌∙◌}
use Rattle.std.specs.Prelude.{Option}
use Rattle.std.specs.Option.{option_and_then}
use Rattle.qg_num.specs.declared.piece.Piece.{Piece}
use Rattle.qg_node.specs.declared.item.Item.{Item}
use Rattle.qg_image.specs.ItemMeaning.{file_part}
use Rattle.qg_image.specs.Reach.{piece_of_part}
use Rattle.qg_qgroup_counts.proofs.Pieces.{named_some, named_none}
use Rattle.qg_qgroup_counts.proofs.surveyed.extents_in.Goals as goal
use Rattle.qg_qgroup_counts.proofs.surveyed.extents_in.Goals.{in-Some+in_ok-push, in_default}

abbrev tells : Item → Option Piece
tells = λ item. option_and_then piece_of_part (file_part item)

pub loop-item-preserved : goal.loop-item-preserved
loop-item-preserved c =
    let items = c.args.items.now in
    let i = c.loop-item.item-index in
    let item = c.item-item.result in
    let short = c.loop-item-test.true in
    elim c.match-piece_in.branch [
      | in-Some+in_ok-push w ↦
          w.extents-is ∙ w.in_ok-push.ensures.ok
          ∙ ap (λ (extents : List ℕ). extents ++ w.in-Some.piece.extent ∷ []) c.loop-item.invariant
          ∙ sym (named_some tells items i item short c.item-item.is w.in-Some.piece (sym c.piece_in.ensures
          ∙ w.in-Some.is))
      | in_default w ↦
          w.extents-is ∙ c.loop-item.invariant
          ∙ sym (named_none tells items i item short c.item-item.is (sym c.piece_in.ensures ∙ w.in_default.is))
    ]
