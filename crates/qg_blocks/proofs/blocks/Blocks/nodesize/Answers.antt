use Rattle.std.proofs.Common.{arith}
use Rattle.qg_super.proofs.Served.{SizesFit-is_served}
use Rattle.qg_blocks.proofs.blocks.Blocks.nodesize.Goals as goal

pub overflow_cast-result : goal.overflow_cast-result
overflow_cast-result c = omega (arith, (SizesFit-is_served c.self.inside.shelf.sizes c.self.invariant.0).nodesize)
