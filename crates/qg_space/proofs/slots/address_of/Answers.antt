use Rattle.std.proofs.Common.{◌≤◌, arith}
use Rattle.std.proofs.Math.Nat.{mul-le-mul_left}
use Rattle.qg_space.proofs.Marks.{SlotsFit-is_served}
use Rattle.qg_space.proofs.slots.address_of.Goals as goal

pub overflow_mul-number : goal.overflow_mul-number
overflow_mul-number c =
    let fit = SlotsFit-is_served c.args.sizes.now c.requires.served in
    let few : c.args.number ≤ c.args.sizes.now.slots = omega arith in
    let most = mul-le-mul_left c.args.sizes.now.nodesize few in
    omega (arith, most, fit.within)

pub overflow_add-number : goal.overflow_add-number
overflow_add-number c =
    let fit = SlotsFit-is_served c.args.sizes.now c.requires.served in
    let few : c.args.number ≤ c.args.sizes.now.slots = omega arith in
    let most = mul-le-mul_left c.args.sizes.now.nodesize few in
    omega (arith, most, fit.within)
