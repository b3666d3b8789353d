use Rattle.qg_grammar.specs.ReplyText.{line, piece_text}
use Rattle.qg_script.proofs.Adding.{front_of_items, front_before, after_items, stopped}
use Rattle.qg_script.proofs.reply.write_file.Goals as goal

pub returns-in_err-write_piece : goal.returns-in_err-write_piece
returns-in_err-write_piece c =
    let part = front_of_items (λ piece. line (piece_text piece)) c.args.pieces.now c.loop-piece.piece-index
    c.piece-item.result
    c.loop-piece-test.true c.piece-item.is c.loop-piece.invariant c.in_err-write_piece.ensures.no_memory in
    stopped _ c.from_residual.ensures.0 (front_before _ part)

pub returns : goal.returns
returns c =
    after_items (λ piece. line (piece_text piece)) c.args.pieces.now c.loop-piece.piece-index _ c.loop-piece-test.false
    c.loop-piece.invariant c.write_number_line.ensures
