use Rattle.std.proofs.Common.{◌≡◌, ◌++◌, map}
use Rattle.qg_quota.specs.Written.{item_of_relation}
use Rattle.qg_quota.proofs.writing.put_relations.Given as goal

abbrev pub invariant-loop-pair : goal.invariant-loop-pair
invariant-loop-pair l = l.items ++ map item_of_relation l.pair-iterator ≡ l.fn.items
    ++ map item_of_relation l.related.keys
