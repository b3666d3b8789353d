use Rattle.std.proofs.Common.{rules}
use Rattle.std.proofs.lemmas.Bool.{ltb-true, ltb-false}
use Rattle.qg_quota.proofs.Search.{number-parted}
use Rattle.qg_quota.proofs.rules.place_of.Goals as goal

pub returns-clause-before : goal.returns-clause-before
returns-clause-before g c =
    let point = number-parted c.args.group c.args.entries.now c.partition_point.result c.requires
    c.partition_point.ensures.partitioned (λ a r f k. search rules) in
    λ k d low high. ltb-true _ _ (point.0 k d low high)

pub returns-clause-behind : goal.returns-clause-behind
returns-clause-behind g c =
    let point = number-parted c.args.group c.args.entries.now c.partition_point.result c.requires
    c.partition_point.ensures.partitioned (λ a r f k. search rules) in
    λ k d low high. ltb-false _ _ (point.1 k d low high)
