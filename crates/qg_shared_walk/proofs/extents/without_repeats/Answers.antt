use Rattle.std.proofs.Common.{◌++◌, ◌∷◌, [], ◌<◌, sym, ap, ◌∙◌, arith}
use Rattle.std.proofs.lemmas.Bool.{not-true, not-false}
use Rattle.qg_reach.proofs.ExtentSets.{set_first, set_next, set_again}
use Rattle.qg_shared_walk.proofs.extents.without_repeats.Goals as goal
use Rattle.qg_shared_walk.proofs.extents.without_repeats.Goals.{then-i-eq0+in_ok-push, then-i-eq0-via-then-i-eq0}
use Rattle.qg_shared_walk.proofs.extents.without_repeats.Goals.{then-i-eq0-via-else-i-eq0+then-ne, else-i-eq0+else-ne}

pub loop-i-preserved : goal.loop-i-preserved
loop-i-preserved c =
    let sorted = c.args.sorted.now in
    let x = c.index-sorted-i.result in
    elim c.if-i-eq0.branch [
      | then-i-eq0+in_ok-push w ↦
          let pushed = w.extents-is ∙ w.in_ok-push.ensures.ok ∙ ap (λ set. set ++ x ∷ []) c.loop-i.invariant in
          elim w.then-i-eq0.branch [
            | then-i-eq0-via-then-i-eq0 w' ↦ pushed
                ∙ sym (set_first sorted c.loop-i.i x c.requires c.loop-i-test.true c.index-sorted-i.is w'.if-i-eq0.true)
            | then-i-eq0-via-else-i-eq0+then-ne w' ↦
                let before = w'.index-sorted-i-else-i-eq0 in
                pushed ∙ sym (set_next sorted c.loop-i.i before.result x c.requires c.loop-i-test.true
                c.index-sorted-i.is before.is (not-true _ (sym w'.if-ne.ensures)))
          ]
      | else-i-eq0+else-ne w ↦
          let before = w.index-sorted-i-else-i-eq0 in
          let some : 0 < c.loop-i.i = omega arith in
          w.extents-is ∙ c.loop-i.invariant
          ∙ sym (set_again sorted c.loop-i.i before.result x some c.loop-i-test.true c.index-sorted-i.is before.is
          (not-false _ (sym w.if-ne.ensures)))
    ]
