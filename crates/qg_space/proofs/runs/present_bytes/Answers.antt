use Rattle.std.proofs.Common.{sym, ap, ◌∙◌, arith, cond}
use Rattle.std.specs.List.{sum_by}
use Rattle.std.proofs.lemmas.List.{take_all}
use Rattle.std.proofs.lemmas.List.Sums.{sum_by_more, sum_by_more_le}
use Rattle.qg_super.proofs.Served.{SizesFit-is_served}
use Rattle.qg_image.specs.declared.element.Element.{Element}
use Rattle.qg_space.proofs.Taken.{bytes_if_present, bytes_of_present, bytes_within}
use Rattle.qg_space.proofs.runs.present_bytes.Goals as goal
use Rattle.qg_space.proofs.runs.present_bytes.Goals.{then-is_present, else-is_present}

pub overflow_add-bytes : goal.overflow_add-bytes
overflow_add-bytes c =
    let served = SizesFit-is_served c.args.sizes.now c.requires.served in
    let runs = c.args.runs.now in
    let run = c.run-item.result in
    let here = ap (λ b. cond b run.extent.bytes 0) (sym c.is_present.ensures ∙ c.if-is_present.true) in
    let there = ap bytes_if_present c.run-item.is in
    let within = sum_by_more_le bytes_if_present runs c.loop-run.run-index run c.loop-run-test.true in
    let most = bytes_within c.args.sizes.now runs c.requires.apart in
    omega (arith, here, there, within, most, served.sectors, ap (λ (e : Element). e.bytes) c.extent-bytes.ensures)

pub loop-run-preserved : goal.loop-run-preserved
loop-run-preserved c =
    let runs = c.args.runs.now in
    let run = c.run-item.result in
    let there = ap bytes_if_present c.run-item.is in
    let more = sum_by_more bytes_if_present runs c.loop-run.run-index run c.loop-run-test.true in
    elim c.if-is_present.branch [
      | then-is_present w ↦
          let here = ap (λ b. cond b run.extent.bytes 0) (sym c.is_present.ensures ∙ w.if-is_present.true) in
          omega (arith, here, there, more, w.bytes-is, ap (λ (e : Element). e.bytes) w.extent-bytes.ensures)
      | else-is_present w ↦
          let here = ap (λ b. cond b run.extent.bytes 0) (sym c.is_present.ensures ∙ w.if-is_present.false) in
          omega (arith, here, there, more, w.bytes-is)
    ]

pub returns-clause-bytes : goal.returns-clause-bytes
returns-clause-bytes c =
    let runs = c.args.runs.now in
    c.loop-run.invariant ∙ ap (sum_by bytes_if_present) (take_all c.loop-run.run-index runs c.loop-run-test.false)
    ∙ sym (bytes_of_present runs)

pub returns-clause-most : goal.returns-clause-most
returns-clause-most c =
    let runs = c.args.runs.now in
    let bytes = c.loop-run.invariant
    ∙ ap (sum_by bytes_if_present) (take_all c.loop-run.run-index runs c.loop-run-test.false) in
    omega (arith, bytes, bytes_within c.args.sizes.now runs c.requires.apart)
