use Rattle.std.proofs.Common.{arith}
use Rattle.qg_super.proofs.Slots.{IsSlotAt-is_slot}
use Rattle.qg_space.proofs.Marks.{SlotsFit-is_served}
use Rattle.qg_space.proofs.slots.number_of.Goals as goal

pub overflow_sub-result : goal.overflow_sub-result
overflow_sub-result c =
    let slot = IsSlotAt-is_slot c.args.sizes.now c.args.at c.requires.slot in
    omega (arith, slot.begin)

pub nonzero_div-result : goal.nonzero_div-result
nonzero_div-result c =
    let fit = SlotsFit-is_served c.args.sizes.now c.requires.served in
    omega (arith, fit.some)

pub returns-clause-bound : goal.returns-clause-bound
returns-clause-bound c =
    let slot = IsSlotAt-is_slot c.args.sizes.now c.args.at c.requires.slot in
    rw c.value.ensures slot.number

pub returns-clause-at : goal.returns-clause-at
returns-clause-at c =
    let slot = IsSlotAt-is_slot c.args.sizes.now c.args.at c.requires.slot in
    rw c.value.ensures slot.there
