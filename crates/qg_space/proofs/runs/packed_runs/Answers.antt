use Rattle.std.proofs.Common.{◌≡◌, ◌+◌, suc, take, ap, arith}
use Rattle.qg_super.specs.Places.{data_begin}
use Rattle.qg_super.proofs.Served.{SizesFit-is_served}
use Rattle.qg_image.specs.declared.element.Element.{Element}
use Rattle.qg_space.specs.Run.{Run}
use Rattle.qg_space.specs.Lying.{extents_of, end_of, end_of_last}
use Rattle.qg_space.proofs.Fronts.{whole_at, end_taken, front_more}
use Rattle.qg_space.proofs.runs.packed_runs.Goals as goal

pub overflow_add-end : goal.overflow_add-end
overflow_add-end c =
    let served = SizesFit-is_served c.args.sizes.now c.requires.served in
    let run = c.index-runs-number.result in
    let whole = whole_at c.args.sizes.now data_begin c.args.runs.now c.loop-number.number run c.requires.apart
    c.loop-number-test.true in
    omega (
      arith,
      whole.within,
      ap (λ (r : Run). end_of r.extent) c.index-runs-number.is,
      ap (λ (e : Element). end_of e)
          c.extent-extent.ensures,
      c.value-in-loop-number.ensures,
    )

pub loop-number-preserved : goal.loop-number-preserved
loop-number-preserved c =
    let runs = c.args.runs.now in
    let n = c.loop-number.number in
    let run = c.index-runs-number.result in
    let next : suc n ≡ n + 1 = omega arith in
    let taken = end_taken data_begin runs n run c.loop-number-test.true in
    let more = ap (λ m. end_of_last data_begin (take m (extents_of runs))) next in (
      front_more runs n run c.loop-number-test.true c.index-runs-number.is c.loop-number.invariant.0
          (omega (
            arith,
            ap (λ (e : Element). e.address) c.extent-extent.ensures,
            c.value.ensures,
            c.if-value-end.false,
            c.loop-number.invariant.1,
          )),
      omega (
        arith,
        taken,
        more,
        ap (λ (r : Run). end_of r.extent) c.index-runs-number.is,
        ap
            (λ (e : Element). end_of e) c.extent-extent.ensures,
        c.value-in-loop-number.ensures,
      ),
    )
