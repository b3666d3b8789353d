use Rattle.std.proofs.Common.{arith}
use Rattle.qg_extent_read.proofs.saying.are_bytes.Goals as goal

pub returns : goal.returns
returns c = λ i. omega (arith, c.type_inv.bytes i)
