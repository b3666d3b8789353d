use Rattle.qg_script.proofs.Adding.{front_after, front_before, then_added, stopped}
use Rattle.qg_script.proofs.report.write_sound.Goals as goal

pub returns-in_err-add : goal.returns-in_err-add
returns-in_err-add c =
    stopped _ c.from_residual.ensures.0 (front_before _ c.in_err-add.ensures.no_memory)

pub returns-in_err-write_number : goal.returns-in_err-write_number
returns-in_err-write_number c =
    let part = front_after c.in_ok-add.ensures c.in_err-write_number.ensures.no_memory in
    rw (← c.value.ensures) (stopped _ c.from_residual-in_err-write_number.ensures.0 (front_before _ part))

pub returns : goal.returns
returns c =
    rw (← c.value.ensures) (then_added _ (then_added _ c.in_ok-add.ensures c.in_ok-write_number.ensures)
    c.add-2.ensures)
