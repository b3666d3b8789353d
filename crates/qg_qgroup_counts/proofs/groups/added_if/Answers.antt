use Rattle.std.proofs.Common.{arith}
use Rattle.qg_qgroup_counts.proofs.SetWeights.{given_is, given_not}
use Rattle.qg_qgroup_counts.proofs.groups.added_if.Goals as goal

pub returns-then-counted : goal.returns-then-counted
returns-then-counted c = omega (arith, given_is c.args.counted c.args.bytes c.if-counted.true)

pub returns-else-counted : goal.returns-else-counted
returns-else-counted c = omega (arith, given_not c.args.counted c.args.bytes c.if-counted.false)
