use Rattle.qg_script.proofs.Adding.{front_after, front_before, then_added, stopped}
use Rattle.qg_script.proofs.failure.write_differs.Goals as goal

pub returns-in_err-add : goal.returns-in_err-add
returns-in_err-add c =
    stopped _ c.from_residual.ensures.0 (front_before _ c.in_err-add.ensures.no_memory)

pub returns-in_err-write_next_group : goal.returns-in_err-write_next_group
returns-in_err-write_next_group c =
    let part = front_after c.in_ok-add.ensures c.in_err-write_next_group.ensures.no_memory in
    stopped _ c.from_residual-in_err-write_next_group.ensures.0
    (front_before _ (front_before _ (front_before _ (front_before _ part))))

pub returns-in_err-write_word : goal.returns-in_err-write_word
returns-in_err-write_word c =
    let part = front_after (then_added _ c.in_ok-add.ensures c.in_ok-write_next_group.ensures)
    c.in_err-write_word.ensures.no_memory in
    rw (← c.which_word.ensures)
    (stopped _ c.from_residual-in_err-write_word.ensures.0 (front_before _ (front_before _ (front_before _ part))))

pub returns-in_err-write_number : goal.returns-in_err-write_number
returns-in_err-write_number c =
    let part = front_after (then_added _ (then_added _ c.in_ok-add.ensures c.in_ok-write_next_group.ensures)
    c.in_ok-write_word.ensures) c.in_err-write_number.ensures.no_memory in
    rw (← c.which_word.ensures) (stopped _ c.from_residual-in_err-write_number.ensures.0
    (front_before _ (front_before _ part)))

pub returns-in_err-write_number-2 : goal.returns-in_err-write_number-2
returns-in_err-write_number-2 c =
    let part = front_after (then_added _
    (then_added _ (then_added _ c.in_ok-add.ensures c.in_ok-write_next_group.ensures) c.in_ok-write_word.ensures)
    c.in_ok-write_number.ensures) c.in_err-write_number-2.ensures.no_memory in
    rw (← c.which_word.ensures) (stopped _ c.from_residual-in_err-write_number-2.ensures.0 (front_before _ part))

pub returns : goal.returns
returns c =
    rw (← c.which_word.ensures)
    (then_added _ (then_added _
    (then_added _ (then_added _ (then_added _ c.in_ok-add.ensures c.in_ok-write_next_group.ensures)
    c.in_ok-write_word.ensures) c.in_ok-write_number.ensures) c.in_ok-write_number-2.ensures) c.add-2.ensures)
