use Rattle.qg_grammar.specs.ScriptText.{then_number}
use Rattle.qg_script.proofs.Adding.{front_of_items, front_after, front_before, after_items, then_added, stopped}
use Rattle.qg_script.proofs.reply.write_owners.Goals as goal

pub returns-in_err-add : goal.returns-in_err-add
returns-in_err-add c = stopped _ c.from_residual.ensures.0 (front_before _ c.in_err-add.ensures.no_memory)

pub returns-in_err-write_number : goal.returns-in_err-write_number
returns-in_err-write_number c =
    let failed = rw c.value.ensures at c.in_err-write_number.ensures.no_memory in
    let part = front_of_items then_number c.args.owners.now c.loop-owner.owner-index c.owner-item.result
    c.loop-owner-test.true c.owner-item.is c.loop-owner.invariant failed in
    stopped _ c.from_residual-in_err-write_number.ensures.0 (front_after c.in_ok-add.ensures (front_before _ part))

pub returns : goal.returns
returns c =
    let last = after_items then_number c.args.owners.now c.loop-owner.owner-index _ c.loop-owner-test.false
    c.loop-owner.invariant c.add-2.ensures in
    then_added _ c.in_ok-add.ensures last
