use Rattle.std.proofs.Common.{◌<◌, length, get_or, subst, arith}
use Rattle.std.proofs.lemmas.List.{take_all, get_or_default}
use Rattle.qg_owner_rule.specs.Marks.{HaveAlso}
use Rattle.qg_owner_rule.proofs.Marking.{also_more}
use Rattle.qg_owner_rule.proofs.marks.add_marks.Goals as goal

pub loop-place-preserved : goal.loop-place-preserved
loop-place-preserved c =
    let places = c.args.places.now in
    let i = c.loop-place.place-index in
    let short = c.loop-place-test.true in
    let at = get_or places i 0 in
    let inside : at < length c.loop-place.rows = omega (arith, c.requires i 0 short, c.loop-place.auto.rows) in
    also_more places i at c.args.marks c.args.rows.now c.loop-place.rows short (get_or_default places i 0 at short)
    inside c.loop-place.invariant

pub returns : goal.returns
returns c =
    subst (λ places. HaveAlso places c.args.marks c.args.rows.now c.loop-place.rows)
    (take_all c.loop-place.place-index c.args.places.now c.loop-place-test.false) c.loop-place.invariant
