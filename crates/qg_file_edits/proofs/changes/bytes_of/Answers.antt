use Rattle.std.proofs.Common.{◌≡◌, ◌<◌, ◌^◌, List, refl, subst}
use Rattle.std.proofs.lemmas.List.{take_all}
use Rattle.qg_num.specs.declared.piece.Piece.{Piece}
use Rattle.qg_image.specs.FilesOf.{pieces_bytes}
use Rattle.qg_file_edits.proofs.Items.{is-at}
use Rattle.qg_file_edits.proofs.Sums.{sum-more}
use Rattle.qg_file_edits.proofs.changes.bytes_of.Goals as goal

pub loop-piece-init : goal.loop-piece-init
loop-piece-init c small = refl

pub loop-piece-preserved : goal.loop-piece-preserved
loop-piece-preserved c small =
    let piece = c.piece-item.result in
    let i = c.loop-piece.piece-index in
    let pieces = c.args.pieces.now in
    let at = is-at pieces i piece c.loop-piece-test.true c.piece-item.is in
    sum-more pieces i piece at c.loop-piece.sum c.saturating_add-sum.result c.loop-piece.invariant
    c.saturating_add-sum.ensures small

pub returns : goal.returns
returns c small =
    let all = take_all c.loop-piece.piece-index c.args.pieces.now c.loop-piece-test.false in
    subst (λ (xs : List Piece). pieces_bytes xs < 2 ^ 64 → c.loop-piece.sum ≡ pieces_bytes xs) all
    c.loop-piece.invariant small
