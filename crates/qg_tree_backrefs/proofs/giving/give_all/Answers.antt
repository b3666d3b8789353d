use Rattle.std.proofs.Common.{◌≡◌, false, true, refl, sym, ◌∙◌}
use Rattle.std.specs.Prelude.{None}
use Rattle.std.proofs.lemmas.Bool.{true≢false}
use Rattle.qg_weighed.specs.Table.{book_of}
use Rattle.qg_tree_backrefs.proofs.Gains.{CanGive-one, Gives-more, Gives-none, none_or}
use Rattle.qg_tree_backrefs.proofs.giving.give_all.Goals.{then-not-branch, else-not-branch}
use Rattle.qg_tree_backrefs.proofs.giving.give_all.Goals as goal

pub loop-owing-init : goal.loop-owing-init
loop-owing-init c = record {
  done = λ none. Gives-none (book_of c.args.refs.now.refs);
  proper = λ can. refl;
  held = refl;
}

pub loop-owing-preserved : goal.loop-owing-preserved
loop-owing-preserved c =
    let old = book_of c.args.refs.now.refs in
    let mid = book_of c.loop-owing.refs.refs in
    let new = book_of c.give.new.refs.refs in
    let met = c.loop-owing.invariant in
    elim c.if-not-branch.branch [
      | then-not-branch w ↦
          let failed = w.if-not-branch.true in
          record {
            done = λ none.
                let noted = sym w.or-misfit.ensures ∙ sym w.misfit-is ∙ none in
                absurd (none_or c.loop-owing.misfit c.owing-item.result.address noted);
            proper = λ can.
                let one =
                CanGive-one old mid new c.args.owings.now c.loop-owing.owing-index c.owing-item.result
                c.loop-owing-test.true c.owing-item.is can (met.done (met.proper can)) in
                absurd (true≢false (sym (c.in_ok-give.ensures.proper one) ∙ failed));
            held = c.give.ensures.held ∙ met.held;
          }
      | else-not-branch w ↦
          record {
            done = λ none.
                Gives-more old mid new c.args.owings.now c.loop-owing.owing-index c.owing-item.result
                c.loop-owing-test.true c.owing-item.is
                (met.done (sym w.misfit-is ∙ none)) (c.in_ok-give.ensures.done w.if-not-branch.false);
            proper = λ can. w.misfit-is ∙ met.proper can;
            held = c.give.ensures.held ∙ met.held;
          }
    ]
