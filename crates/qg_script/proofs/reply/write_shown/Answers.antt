use Rattle.qg_grammar.specs.ReplyText.{line, row_text}
use Rattle.qg_script.proofs.Adding.{front_of_items, front_before, after_items, stopped}
use Rattle.qg_script.proofs.reply.write_shown.Goals as goal

pub returns-in_err-write_row : goal.returns-in_err-write_row
returns-in_err-write_row c =
    let part = front_of_items (λ row. line (row_text row)) c.args.rows.now c.loop-row.row-index c.row-item.result
    c.loop-row-test.true c.row-item.is c.loop-row.invariant c.in_err-write_row.ensures.no_memory in
    stopped _ c.from_residual.ensures.0 (front_before _ part)

pub returns : goal.returns
returns c =
    after_items (λ row. line (row_text row)) c.args.rows.now c.loop-row.row-index _ c.loop-row-test.false
    c.loop-row.invariant c.add.ensures
