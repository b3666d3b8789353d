use Rattle.std.proofs.Common.{rules}
use Rattle.std.proofs.lemmas.List.Sorted.{answers_always}
use Rattle.qg_refs.specs.declared.counted.Counted.{Counted}
use Rattle.qg_refs.specs.Order.{precedes}
use Rattle.qg_backref_rule.proofs.InOrder.{order_of}
use Rattle.qg_backref_rule.proofs.order.sort_counted.Goals as goal

pub returns-clause-sorted : goal.returns-clause-sorted
returns-clause-sorted c =
    c.sort_unstable_by.ensures.sorted (λ a b. precedes a.reference b.reference)
    (order_of (λ (e : Counted). e.reference)) (answers_always _ _ _ (λ f a r f' q. search rules))
