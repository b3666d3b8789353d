use Rattle.std.proofs.Common.{◌+◌, [], ◌∷◌, ◌++◌, map, ap, sym, ◌∙◌, arith}
use Rattle.std.proofs.lemmas.List.{take_all}
use Rattle.qg_super.specs.Places.{data_begin}
use Rattle.qg_super.proofs.Served.{SizesFit-is_served}
use Rattle.qg_super.proofs.Runs.{WholeRun-is_run}
use Rattle.qg_image.specs.declared.element.Element.{Element}
use Rattle.qg_space.specs.Run.{Run}
use Rattle.qg_space.specs.Lying.{run_of_both, end_of}
use Rattle.qg_space.proofs.Both.{fits_at, run_at}
use Rattle.qg_space.proofs.Packed.{walk_is, walk_on, walk_past, walk_front, made_more}
use Rattle.qg_space.proofs.runs.runs_of_both.Goals as goal
use Rattle.qg_space.proofs.runs.runs_of_both.Goals.{then-packed-number+then-value-end, else-packed-number}
use Rattle.qg_space.proofs.runs.runs_of_both.Goals.{else-packed-number-via-then-packed-number+else-value-end}
use Rattle.qg_space.proofs.runs.runs_of_both.Goals.{else-packed-number-via-else-packed-number}

pub new-requires : goal.new-requires
new-requires c = fits_at c.args.sizes.now data_begin c.args.extents.now c.loop-number.number
    c.index-extents-number.result c.requires.served c.requires.apart c.loop-number-test.true c.index-extents-number.is

pub overflow_add-end : goal.overflow_add-end
overflow_add-end c =
    let served = SizesFit-is_served c.args.sizes.now c.requires.served in
    let extent = c.index-extents-number.result in
    let there = run_at c.args.sizes.now data_begin c.args.extents.now c.loop-number.number extent c.requires.apart
    c.loop-number-test.true in
    let whole = WholeRun-is_run c.args.sizes.now _ _ there in
    omega (
      arith,
      whole.within,
      ap (λ (e : Element). end_of e) c.index-extents-number.is,
      c.value-then-value-end.ensures,
    )

pub loop-number-preserved : goal.loop-number-preserved
loop-number-preserved c =
    let extents = c.args.extents.now in
    let n = c.loop-number.number in
    let packed = c.loop-number.packed in
    let extent = c.index-extents-number.result in
    let short = c.loop-number-test.true in
    let is = c.index-extents-number.is in
    let walk = c.loop-number.invariant.1 in (
      made_more extents n extent c.loop-number.runs.items c.push.new.self.items short is c.loop-number.invariant.0
          (c.in_ok-push.ensures.items ∙ ap (λ (r : Run). c.loop-number.runs.items ++ r ∷ []) c.new.ensures),
      elim c.if-packed-number.branch [
        | then-packed-number+then-value-end w ↦
            walk_is extents (n + 1) (packed + 1) c.if-packed-number.packed (end_of extent) c.if-packed-number.end
            w.packed-is (w.end-is ∙ ap (λ k. k + extent.bytes) w.value-then-value-end.ensures)
            (walk_on extents n packed c.loop-number.end extent short is w.if-packed-number.true (sym w.value.ensures
            ∙ w.if-value-end.true) walk)
        | else-packed-number w ↦
            walk_is extents (n + 1) packed c.if-packed-number.packed c.loop-number.end c.if-packed-number.end
            w.packed-is w.end-is
            (walk_past extents n packed c.loop-number.end extent short is (elim w.else-packed-number.branch [
              | else-packed-number-via-then-packed-number+else-value-end other ↦ λ all begins. other.if-value-end.false
                  (other.value.ensures ∙ begins)
              | else-packed-number-via-else-packed-number other ↦ λ all begins. other.if-packed-number.false all
            ]) walk)
      ],
    )

pub returns-clause-runs : goal.returns-clause-runs
returns-clause-runs c = c.loop-number.invariant.0
    ∙ ap (map run_of_both) (take_all c.loop-number.number c.args.extents.now c.loop-number-test.false)

pub returns-clause-front : goal.returns-clause-front
returns-clause-front c =
    let all = c.loop-number.invariant.0
    ∙ ap (map run_of_both) (take_all c.loop-number.number c.args.extents.now c.loop-number-test.false) in
    walk_front c.args.extents.now c.loop-number.runs.items c.loop-number.number c.loop-number.packed c.loop-number.end
    c.loop-number.auto.number-end all c.loop-number.invariant.1

pub returns-clause-most : goal.returns-clause-most
returns-clause-most c = λ extent more begins. c.loop-number.invariant.1.most extent
    (omega (arith, more, c.loop-number-test.false)) (begins ∙ sym c.loop-number.invariant.1.end)
