use Rattle.std.proofs.Common.{rules}
use Rattle.std.proofs.lemmas.List.Sorted.{answers_always, IsNonDecreasingBy-from_sort_by_key}
use Rattle.qg_backref_rule.specs.declared.thing.Thing.{Thing}
use Rattle.qg_backref_rule.proofs.Things.{kind_at-sorted}
use Rattle.qg_backref_rule.proofs.thing.sort_things.Goals as goal

pub returns-clause-same : goal.returns-clause-same
returns-clause-same c a =
    kind_at-sorted c.args.things.now.items c.sort_by_key.new.self.items
    (c.sort_by_key.ensures.stable (λ (t : Thing). t.address) (answers_always _ _ _ (λ f x r f' q. search rules))) a

pub returns-clause-ascending : goal.returns-clause-ascending
returns-clause-ascending c =
    IsNonDecreasingBy-from_sort_by_key (λ (t : Thing). t.address) _ c.in_ok-sort_by_key.ensures.sorted
    (λ x r f' q. search rules)
