use Rattle.std.proofs.Common.{sym, arith}
use Rattle.qg_super.proofs.Served.{SizesFit-is_served}
use Rattle.qg_reach.proofs.SpaceRule.{WholeRun-is_extent}
use Rattle.qg_reach.proofs.space.first_fits.Goals as goal

pub overflow_add-result : goal.overflow_add-result
overflow_add-result c =
    let run = WholeRun-is_extent c.args.sizes.now c.extent-item-2.result (sym c.if-is_extent.ensures) in
    let served = SizesFit-is_served c.args.sizes.now c.requires in
    omega arith
