use Rattle.std.proofs.Common.{◌∷◌, [], ◌++◌, map, take, sym, ap, ◌∙◌, arith}
use Rattle.std.proofs.lemmas.List.{take_more, length-map, get_or-map}
use Rattle.qg_machine.specs.FileChange.{moved}
use Rattle.qg_file_edits.proofs.changes.moved_pieces.Goals as goal

pub loop-piece-preserved : goal.loop-piece-preserved
loop-piece-preserved c =
    let move = moved c.args.from c.args.off in
    let items = c.as_slice-piece-items.result.now in
    let i = c.loop-piece.piece-index in
    let piece = c.piece-item.result in
    let short = c.loop-piece-test.true in
    let is = ap move c.piece-item.is ∙ sym (get_or-map move items i piece (move piece) short) in
    c.in_ok-push.ensures.ok ∙ ap (λ zs. zs ++ move piece ∷ []) c.loop-piece.invariant
    ∙ ap (λ z. take i (map move items) ++ z ∷ []) is
    ∙ sym (take_more (map move items) i (move piece) (omega (arith, length-map items move, short)))
