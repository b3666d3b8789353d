use Rattle.std.proofs.Common.{Global, Vec, append-nil, subst, sym, ap, ◌∙◌}
use Rattle.std.specs.List.{All, Contains}
use Rattle.std.proofs.lemmas.List.Elements.{All-contains, All-push}
use Rattle.std.specs.Prelude.{IsTrue}
use Rattle.qg_super.specs.Places.{is_run}
use Rattle.qg_image.specs.declared.element.Element.{Element}
use Rattle.qg_extents.specs.Table.{book_of}
use Rattle.qg_subvolumes.specs.Dropping.{without_references}
use Rattle.qg_subvolumes.proofs.Naming.{gone-here, gone-more, gone-same, has-run, lacks-run, whole-bytes}
use Rattle.qg_subvolumes.proofs.extents.without_references.Goals as goal
use Rattle.qg_subvolumes.proofs.extents.without_references.Goals.{
  then-how_many-eq0+else-sectors-extent+else-not-has_run+in_ok-push,
  else-how_many-eq0,
  then-sectors-extent-via-then-sectors-extent,
  then-sectors-extent-via-else-sectors-extent+then-not-has_run,
}

pub loop-extent-preserved : goal.loop-extent-preserved
loop-extent-preserved c =
    let book = book_of c.args.refs.now in
    let gone = c.loop-extent.gone.items in
    let extent = c.extent-item.result in
    let items = λ (extents : Vec Element Global). extents.items in
    let P = λ (run : Element). Contains c.args.space.now.runs run in
    elim c.if-how_many-eq0.branch [
      | then-how_many-eq0+else-sectors-extent+else-not-has_run+in_ok-push w ↦
          let pushed = ap items w.gone-is ∙ w.in_ok-push.ensures.items in
          record {
            value = gone-more book c.args.extents.now c.loop-extent.extent-index extent c.loop-extent-test.true
                c.extent-item.is gone c.if-how_many-eq0.gone.items c.loop-extent.invariant.value
                (sym c.how_many.ensures ∙ w.if-how_many-eq0.true) pushed;
            taken = subst (λ xs. All P xs) (sym pushed)
                (All-push P gone extent c.loop-extent.invariant.taken
                (has-run c.args.space.now extent _ (sym w.has_run.ensures ∙ w.if-not-has_run.false)
                w.if-sectors-extent.false));
          }
      | else-how_many-eq0 w ↦ record {
        value = ap items w.gone-is ∙ sym (append-nil gone)
            ∙ gone-same book c.args.extents.now c.loop-extent.extent-index extent c.loop-extent-test.true
            c.extent-item.is gone c.loop-extent.invariant.value
            (λ same. w.if-how_many-eq0.false (c.how_many.ensures ∙ same));
        taken = subst (λ xs. All P xs) (sym (ap items w.gone-is)) c.loop-extent.invariant.taken;
      }
    ]

pub returns-then-sectors-extent-clause-sound : goal.returns-then-sectors-extent-clause-sound
returns-then-sectors-extent-clause-sound c all =
    let book = book_of c.args.refs.now in
    let extent = c.extent-item.result in
    let space = c.args.space.now in
    let here = gone-here book c.args.extents.now c.loop-extent.extent-index extent c.loop-extent-test.true
    c.extent-item.is (sym c.how_many.ensures ∙ c.if-how_many-eq0.true) in
    let parts = All-contains (λ run. Contains space.runs run × IsTrue (is_run space.sizes run.address run.bytes))
    (without_references book c.args.extents.now) extent all here in
    let whole = whole-bytes space.sizes extent.address extent.bytes parts.1 in
    elim c.then-sectors-extent.branch [
      | then-sectors-extent-via-then-sectors-extent w ↦ absurd (w.if-sectors-extent.true whole)
      | then-sectors-extent-via-else-sectors-extent+then-not-has_run w ↦
          absurd (lacks-run space extent _ (sym w.has_run.ensures ∙ w.if-not-has_run.true) w.if-sectors-extent.false
          parts.0)
    ]
