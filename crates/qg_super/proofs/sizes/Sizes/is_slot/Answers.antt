use Rattle.std.proofs.Common.{arith}
use Rattle.qg_super.proofs.Served.{SizesFit-is_served}
use Rattle.qg_super.proofs.sizes.Sizes.is_slot.Goals as goal

pub nonzero_rem-offset : goal.nonzero_rem-offset
nonzero_rem-offset c = let served = SizesFit-is_served c.args.self.now c.requires in omega (arith, served.least)

pub nonzero_div-result : goal.nonzero_div-result
nonzero_div-result c = let served = SizesFit-is_served c.args.self.now c.requires in omega (arith, served.least)
