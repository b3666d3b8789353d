use Rattle.std.proofs.Common.{◌≡◌, false, true, refl, sym, ◌∙◌}
use Rattle.std.specs.Prelude.{None}
use Rattle.std.proofs.lemmas.Bool.{true≢false}
use Rattle.qg_weighed.specs.Table.{book_of}
use Rattle.qg_tree_backrefs.proofs.Gains.{none_or}
use Rattle.qg_tree_backrefs.proofs.Losses.{CanTake-one, Takes-more, Takes-none}
use Rattle.qg_tree_backrefs.proofs.taking.take_all.Goals.{then-not-take, else-not-take}
use Rattle.qg_tree_backrefs.proofs.taking.take_all.Goals as goal

pub loop-owing-init : goal.loop-owing-init
loop-owing-init c = record {
  done = λ none. Takes-none (book_of c.args.refs.now.refs);
  proper = λ can. refl;
  held = refl;
}

pub loop-owing-preserved : goal.loop-owing-preserved
loop-owing-preserved c =
    let old = book_of c.args.refs.now.refs in
    let mid = book_of c.loop-owing.refs.refs in
    let new = book_of c.take.new.refs.refs in
    let met = c.loop-owing.invariant in
    elim c.if-not-take.branch [
      | then-not-take w ↦
          let failed = w.if-not-take.true in
          record {
            done = λ none.
                let noted = sym w.or-misfit.ensures ∙ sym w.misfit-is ∙ none in
                absurd (none_or c.loop-owing.misfit c.owing-item.result.address noted);
            proper = λ can.
                let one =
                CanTake-one old mid new c.args.owings.now c.loop-owing.owing-index c.owing-item.result
                c.loop-owing-test.true c.owing-item.is can (met.done (met.proper can)) in
                absurd (true≢false (sym (c.take.ensures.proper one) ∙ failed));
            held = c.take.ensures.held ∙ met.held;
          }
      | else-not-take w ↦
          record {
            done = λ none.
                Takes-more old mid new c.args.owings.now c.loop-owing.owing-index c.owing-item.result
                c.loop-owing-test.true c.owing-item.is
                (met.done (sym w.misfit-is ∙ none)) (c.take.ensures.done w.if-not-take.false);
            proper = λ can. w.misfit-is ∙ met.proper can;
            held = c.take.ensures.held ∙ met.held;
          }
    ]
