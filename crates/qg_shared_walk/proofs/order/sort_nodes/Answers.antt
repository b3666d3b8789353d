use Rattle.std.proofs.Common.{rules}
use Rattle.std.proofs.lemmas.List.Sorted.{IsNonDecreasingBy-from_sort_by_key}
use Rattle.qg_shared_walk.specs.declared.nodes.NodeRead.{NodeRead}
use Rattle.qg_shared_walk.proofs.order.sort_nodes.Goals as goal

pub returns-clause-ascending : goal.returns-clause-ascending
returns-clause-ascending c =
    IsNonDecreasingBy-from_sort_by_key (λ (read : NodeRead). read.linked.address) _
    c.sort_unstable_by_key.ensures.sorted (λ a r q k. search rules)
