use Rattle.std.proofs.Common.{◌≡◌, rules, sym, subst, List}
use Rattle.std.specs.List.Sorted.{IsNonDecreasingBy, IsPermutation}
use Rattle.std.specs.Result.{IfOk}
use Rattle.std.proofs.lemmas.List.Sorted.{IsNonDecreasingBy-from_sort_by_key}
use Rattle.qg_backref_rule.specs.declared.owing.Owing.{Owing}
use Rattle.qg_backref_rule.proofs.Layouts.{disagreement_told, told_moved}
use Rattle.qg_backref_rule.proofs.failure.owed_failure.Goals as goal

pub first_disagreement-requires-clause-owings : goal.first_disagreement-requires-clause-owings
first_disagreement-requires-clause-owings c =
    subst (λ (ws : List Owing). IsNonDecreasingBy (λ (o : Owing). o.address) ws) (sym c.as_slice.ensures.value)
    (IsNonDecreasingBy-from_sort_by_key (λ (o : Owing). o.address) _ c.sort_unstable_by_key.ensures.sorted
    (λ a r q k. search rules))

pub returns : goal.returns
returns c = λ layout told.
    let moved = subst (IsPermutation c.args.owings.now.items) (sym c.as_slice.ensures.value)
    c.sort_unstable_by_key.ensures.permutation in
    let same = disagreement_told layout c.as_slice.result.now c.args.things.now c.args.parts.now
    (told_moved layout c.args.owings.now.items c.as_slice.result.now c.args.things.now moved told) in
    subst (λ d. IfOk c.first_disagreement.result (λ found. found ≡ d)) (sym same) c.first_disagreement.ensures
