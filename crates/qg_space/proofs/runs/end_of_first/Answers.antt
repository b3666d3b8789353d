use Rattle.std.proofs.Common.{◌≡◌, suc, ◌-◌, take, ap, arith}
use Rattle.qg_super.specs.Places.{data_begin}
use Rattle.qg_super.proofs.Served.{SizesFit-is_served}
use Rattle.qg_image.specs.declared.element.Element.{Element}
use Rattle.qg_space.specs.Run.{Run}
use Rattle.qg_space.specs.Lying.{extents_of, end_of, end_of_last}
use Rattle.qg_space.proofs.Fronts.{whole_at, end_taken}
use Rattle.qg_space.proofs.runs.end_of_first.Goals as goal

pub overflow_add-result : goal.overflow_add-result
overflow_add-result c =
    let served = SizesFit-is_served c.args.sizes.now c.requires.served in
    let run = c.index-runs-count.result in
    let whole = whole_at c.args.sizes.now data_begin c.args.runs.now (c.args.count - 1) run c.requires.apart
    (omega arith) in
    omega (
      arith,
      whole.within,
      ap (λ (r : Run). end_of r.extent) c.index-runs-count.is,
      ap (λ (e : Element). end_of e)
          c.extent-last.ensures,
      c.value.ensures,
    )

pub returns : goal.returns
returns c =
    let run = c.index-runs-count.result in
    let last : suc (c.args.count - 1) ≡ c.args.count = omega arith in
    let taken = end_taken data_begin c.args.runs.now (c.args.count - 1) run (omega arith) in
    omega (
      arith,
      taken,
      ap (λ n. end_of_last data_begin (take n (extents_of c.args.runs.now))) last,
      ap
          (λ (r : Run). end_of r.extent) c.index-runs-count.is,
      ap (λ (e : Element). end_of e) c.extent-last.ensures,
      c.value.ensures,
    )
