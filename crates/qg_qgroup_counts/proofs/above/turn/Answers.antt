use Rattle.std.proofs.Common.{ℕ, ◌<◌, List, [], length, get_or, refl, sym, subst, ◌∙◌}
use Rattle.std.specs.List.{All}
use Rattle.std.proofs.lemmas.List.{get_or_default}
use Rattle.qg_qgroup_counts.specs.Above.{HaveOneMore}
use Rattle.qg_qgroup_counts.proofs.Turning.{turned_none, turned_more, turned_all}
use Rattle.qg_qgroup_counts.proofs.above.turn.Goals as goal

pub loop-parent-init : goal.loop-parent-init
loop-parent-init c =
    record { same = refl; turned = turned_none c.args.below.now c.args.above.now c.requires.empty }

pub put_all-requires : goal.put_all-requires
put_all-requires c =
    let item = c.index-below-parent.result in
    let k = c.loop-parent.parent in
    let is = c.as_slice.ensures ∙ c.index-below-parent.is in
    subst (All (λ (place : ℕ). place < length c.loop-parent.above)) (sym is)
    (subst (λ (n : ℕ). All (λ (place : ℕ). place < n) (get_or c.args.below.now k item))
    (sym c.loop-parent.invariant.same) (c.requires.inside k item c.loop-parent-test.true))

pub loop-parent-preserved : goal.loop-parent-preserved
loop-parent-preserved c =
    let k = c.loop-parent.parent in
    let below = c.args.below.now in
    let item = c.index-below-parent.result in
    let is = c.as_slice.ensures ∙ c.index-below-parent.is ∙ get_or_default below k item [] c.loop-parent-test.true in
    record {
      same = c.put_all.auto.above ∙ c.loop-parent.invariant.same;
      turned = turned_more k below c.loop-parent.above c.put_all.new.above c.loop-parent.invariant.turned
          (subst (λ (places : List ℕ). HaveOneMore places k c.loop-parent.above c.put_all.new.above) is
          c.in_ok-put_all.ensures);
    }

pub returns-clause-turned : goal.returns-clause-turned
returns-clause-turned c =
    turned_all c.loop-parent.parent c.args.below.now c.loop-parent.above c.loop-parent-test.false
    c.loop-parent.invariant.turned
