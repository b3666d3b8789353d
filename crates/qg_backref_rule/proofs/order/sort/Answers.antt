use Rattle.std.proofs.Common.{rules}
use Rattle.std.proofs.lemmas.List.Sorted.{answers_always}
use Rattle.qg_items.specs.declared.extent.Reference.{Reference}
use Rattle.qg_refs.specs.Order.{precedes}
use Rattle.qg_backref_rule.proofs.InOrder.{order_of}
use Rattle.qg_backref_rule.proofs.order.sort.Goals as goal

pub returns-clause-sorted : goal.returns-clause-sorted
returns-clause-sorted c = c.sort_unstable_by.ensures.sorted precedes (order_of (λ (r : Reference). r))
    (answers_always _ _ _ (λ f a r f' q. search rules))
