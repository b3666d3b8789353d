use Rattle.qg_grammar.specs.ReplyText.{row_text}
use Rattle.qg_script.proofs.Adding.{front_after, front_before, then_added, stopped}
use Rattle.qg_script.proofs.reply.write_row.Goals as goal

pub returns-in_err-write_group : goal.returns-in_err-write_group
unfolding row_text
returns-in_err-write_group c =
    stopped _ c.from_residual.ensures.0
    (front_before _ (front_before _
    (front_before _ (front_before _ (front_before _ c.in_err-write_group.ensures.no_memory)))))

pub returns-in_err-write_number : goal.returns-in_err-write_number
unfolding row_text
returns-in_err-write_number c =
    let part = front_after c.in_ok-write_group.ensures c.in_err-write_number.ensures.no_memory in
    stopped _ c.from_residual-in_err-write_number.ensures.0
    (front_before _ (front_before _ (front_before _ (front_before _ part))))

pub returns-in_err-write_number-2 : goal.returns-in_err-write_number-2
unfolding row_text
returns-in_err-write_number-2 c =
    let part = front_after (then_added _ c.in_ok-write_group.ensures c.in_ok-write_number.ensures)
    c.in_err-write_number-2.ensures.no_memory in
    stopped _ c.from_residual-in_err-write_number-2.ensures.0 (front_before _ (front_before _ (front_before _ part)))

pub returns-in_err-write_limit : goal.returns-in_err-write_limit
unfolding row_text
returns-in_err-write_limit c =
    let part = front_after (then_added _ (then_added _ c.in_ok-write_group.ensures c.in_ok-write_number.ensures)
    c.in_ok-write_number-2.ensures) c.in_err-write_limit.ensures.no_memory in
    stopped _ c.from_residual-in_err-write_limit.ensures.0 (front_before _ (front_before _ part))

pub returns-in_err-write_limit-2 : goal.returns-in_err-write_limit-2
unfolding row_text
returns-in_err-write_limit-2 c =
    let part = front_after (then_added _
    (then_added _ (then_added _ c.in_ok-write_group.ensures c.in_ok-write_number.ensures)
    c.in_ok-write_number-2.ensures) c.in_ok-write_limit.ensures) c.in_err-write_limit-2.ensures.no_memory in
    stopped _ c.from_residual-in_err-write_limit-2.ensures.0 (front_before _ part)

pub returns : goal.returns
unfolding row_text
returns c =
    then_added _ (then_added _
    (then_added _ (then_added _ (then_added _ c.in_ok-write_group.ensures c.in_ok-write_number.ensures)
    c.in_ok-write_number-2.ensures) c.in_ok-write_limit.ensures) c.in_ok-write_limit-2.ensures) c.add.ensures
