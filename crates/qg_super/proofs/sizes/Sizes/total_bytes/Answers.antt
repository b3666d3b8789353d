use Rattle.std.proofs.Common.{arith}
use Rattle.qg_super.proofs.Served.{SizesFit-is_served}
use Rattle.qg_super.proofs.sizes.Sizes.total_bytes.Goals as goal

pub overflow_mul-result : goal.overflow_mul-result
overflow_mul-result c =
    let served = SizesFit-is_served c.args.self.now c.requires in
    omega arith

pub overflow_add-result : goal.overflow_add-result
overflow_add-result c =
    let served = SizesFit-is_served c.args.self.now c.requires in
    omega arith
