use Rattle.std.proofs.Common.{ℕ, List, ◌∷◌, [], ◌++◌, get_or, ap, sym, ◌∙◌}
use Rattle.std.specs.List.{filter}
use Rattle.std.proofs.lemmas.List.{get_or_default, take_all}
use Rattle.qg_quota.specs.QuotaKinds.{rises}
use Rattle.qg_quota.proofs.Lists.{filter-more}
use Rattle.qg_quota.proofs.reading.pairs_of.Goals as goal

pub loop-pair-preserved : goal.loop-pair-preserved
loop-pair-preserved c =
    let relations = c.args.relations.now in
    let i = c.loop-pair.pair-index in
    let short = c.loop-pair-test.true in
    let pair = get_or relations i (0, 0) in
    c.in_ok-put_rising.ensures ∙ ap (λ (list : List (ℕ × ℕ)). list ++ filter rises (pair ∷ [])) c.loop-pair.invariant
    ∙ sym (filter-more rises relations i pair short (get_or_default relations i (0, 0) pair short))

pub returns : goal.returns
returns c = c.loop-pair.invariant
    ∙ ap (filter rises) (take_all c.loop-pair.pair-index c.args.relations.now c.loop-pair-test.false)
