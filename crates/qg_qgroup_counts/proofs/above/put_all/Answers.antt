use Rattle.std.proofs.Common.{ℕ, ◌+◌, ◌<◌, List, [], ◌∷◌, ◌++◌, length, take, get_or, set, sym, ap, subst, ◌∙◌, arith}
use Rattle.std.proofs.lemmas.List.{take_all, get_or_default}
use Rattle.qg_qgroup_counts.specs.Above.{HaveOneMore}
use Rattle.qg_qgroup_counts.proofs.Turning.{one_more_more}
use Rattle.qg_qgroup_counts.proofs.above.put_all.Goals as goal

pub loop-place-preserved : goal.loop-place-preserved
loop-place-preserved c =
    let places = c.args.places.now in
    let lists = c.loop-place.above in
    let i = c.loop-place.place-index in
    let short = c.loop-place-test.true in
    let at = get_or places i 0 in
    let inside : at < length lists = omega (arith, c.requires i 0 short, c.loop-place.auto.above) in
    let list = get_or_default lists at c.index-above-place.result [] inside in
    let written = c.in_ok-push.ensures.ok ∙ ap (λ (l : List ℕ). l ++ c.args.parent ∷ []) list in
    subst (λ (l : List ℕ). HaveOneMore (take (i + 1) places) c.args.parent c.args.above.now (set lists at l))
    (sym written)
    (one_more_more places i at c.args.parent c.args.above.now lists short (get_or_default places i 0 at short) inside
    c.loop-place.invariant)

pub returns : goal.returns
returns c =
    subst (λ (places : List ℕ). HaveOneMore places c.args.parent c.args.above.now c.loop-place.above)
    (take_all c.loop-place.place-index c.args.places.now c.loop-place-test.false) c.loop-place.invariant
