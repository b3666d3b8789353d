use Rattle.qg_script.proofs.Adding.{front_after, front_before, then_added, stopped}
use Rattle.qg_script.proofs.words.write_group.Goals as goal

pub returns-in_err-write_decimal : goal.returns-in_err-write_decimal
returns-in_err-write_decimal c =
    let part = front_before _ (front_before _ c.in_err-write_decimal.ensures.no_memory) in
    rw (← c.level.ensures.value) (stopped _ c.from_residual.ensures.0 part)

pub returns-in_err-add : goal.returns-in_err-add
returns-in_err-add c =
    let part = front_before _ (front_after c.in_ok-write_decimal.ensures c.in_err-add.ensures.no_memory) in
    rw (← c.level.ensures.value) (stopped _ c.from_residual-in_err-add.ensures.0 part)

pub returns : goal.returns
returns c =
    rw (← c.level.ensures.value, ← c.id.ensures)
    (then_added _ (then_added _ c.in_ok-write_decimal.ensures c.in_ok-add.ensures) c.write_decimal-2.ensures)
