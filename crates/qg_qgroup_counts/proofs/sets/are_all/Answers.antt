use Rattle.std.proofs.Common.{◌≡◌, Bool, true, false, not, refl, sym, subst, ◌∙◌}
use Rattle.std.specs.Prelude.{◌==◌}
use Rattle.std.specs.List.{All}
use Rattle.std.proofs.lemmas.Bool.{eqb-true, true≢false}
use Rattle.std.proofs.lemmas.List.{take_all, get_or_default}
use Rattle.qg_qgroup_counts.proofs.Words.{all_more}
use Rattle.qg_qgroup_counts.proofs.sets.are_all.Goals as goal

is-true : (b : Bool) → not b ≡ false → b ≡ true
is-true true is = refl
is-true false wrong = absurd (true≢false wrong)

pub loop-other-preserved : goal.loop-other-preserved
loop-other-preserved c =
    let sets = c.args.sets.now in
    let i = c.loop-other.other-index in
    let short = c.loop-other-test.true in
    let item = c.other-item.result in
    let same = eqb-true item c.args.set (is-true (item == c.args.set) (sym c.ne.ensures ∙ c.if-ne.false)) in
    all_more (λ other. other ≡ c.args.set) sets i 0 short c.loop-other.invariant
    (get_or_default sets i 0 item short ∙ sym c.other-item.is ∙ same)

pub returns : goal.returns
returns c = λ _.
    subst (All (λ other. other ≡ c.args.set))
    (take_all c.loop-other.other-index c.args.sets.now c.loop-other-test.false)
    c.loop-other.invariant
