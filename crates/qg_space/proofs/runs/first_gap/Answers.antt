use Rattle.std.proofs.Common.{◌≡◌, ◌+◌, ℕ, List, drop, ◌∙◌, sym, ap, subst, Some, arith}
use Rattle.std.proofs.lemmas.List.{take_rest}
use Rattle.qg_super.proofs.Served.{SizesFit-is_served}
use Rattle.qg_super.proofs.Runs.{WholeRun-is_run}
use Rattle.qg_image.specs.declared.element.Element.{Element}
use Rattle.qg_space.specs.Run.{Run}
use Rattle.qg_space.specs.Lying.{end_of}
use Rattle.qg_space.proofs.Gaps.{ArePassed, front_passed, one_more_passed, passed_at, passed_all, first_before}
use Rattle.qg_space.proofs.Gaps.{first_at_end, none_at_end}
use Rattle.qg_space.proofs.runs.first_gap.Goals as goal

pub loop-run-init : goal.loop-run-init
loop-run-init c =
    let sizes = c.args.sizes.now in
    let runs = c.args.runs.now in
    let Passed : List Run → Type 0 = λ later. ArePassed sizes runs later c.args.bytes c.end_of_first-from.result in
    let PassedTo : ℕ → Type 0 = λ from. ArePassed sizes runs (drop c.args.packed runs) c.args.bytes from in
    subst Passed (sym (take_rest runs c.args.packed))
    (subst PassedTo (sym c.end_of_first-from.ensures)
    (front_passed sizes runs c.args.packed c.args.bytes c.requires.some c.requires.apart c.requires.front))

pub overflow_add-from : goal.overflow_add-from
overflow_add-from c =
    let served = SizesFit-is_served c.args.sizes.now c.requires.served in
    let within = c.loop-run.invariant.within in
    let few = c.requires.few in
    omega arith

pub returns-then-from-bytes : goal.returns-then-from-bytes
returns-then-from-bytes c =
    let run = c.run-item.result in
    let passed = passed_at c.args.sizes.now c.args.runs.now _ c.loop-run.run-index c.args.bytes c.loop-run.from run
    c.loop-run-test.true c.run-item.is c.loop-run.invariant in
    ap (λ n. Some n) c.new.ensures
    ∙ sym (first_before c.args.sizes.now c.args.runs.now run _ c.args.bytes c.loop-run.from
    (record { some = c.requires.some; whole = c.requires.whole }) passed
    (omega (arith, ap (λ (e : Element). e.address) c.extent-extent.ensures)))

pub overflow_add-from-in-loop-run : goal.overflow_add-from-in-loop-run
overflow_add-from-in-loop-run c =
    let served = SizesFit-is_served c.args.sizes.now c.requires.served in
    let run = c.run-item.result in
    let passed = passed_at c.args.sizes.now c.args.runs.now _ c.loop-run.run-index c.args.bytes c.loop-run.from run
    c.loop-run-test.true c.run-item.is c.loop-run.invariant in
    let whole = WholeRun-is_run c.args.sizes.now run.extent.address run.extent.bytes passed.apart.0 in
    let within = whole.within in
    omega (arith, ap (λ (e : Element). end_of e) c.extent-extent.ensures)

pub loop-run-preserved : goal.loop-run-preserved
loop-run-preserved c =
    let run = c.run-item.result in
    let passed = passed_at c.args.sizes.now c.args.runs.now _ c.loop-run.run-index c.args.bytes c.loop-run.from run
    c.loop-run-test.true c.run-item.is c.loop-run.invariant in
    let next : c.value-in-loop-run.result + c.extent-extent.result.bytes ≡ end_of run.extent =
    omega (arith, ap (λ (e : Element). end_of e) c.extent-extent.ensures) in
    rw next (one_more_passed c.args.sizes.now c.args.runs.now run _ c.args.bytes c.loop-run.from passed
    (omega (arith, ap (λ (e : Element). e.address) c.extent-extent.ensures)))

pub overflow_add-from-2 : goal.overflow_add-from-2
overflow_add-from-2 c =
    let served = SizesFit-is_served c.args.sizes.now c.requires.served in
    let within = c.loop-run.invariant.within in
    let few = c.requires.few in
    omega arith

pub returns-then-from-bytes-2 : goal.returns-then-from-bytes-2
returns-then-from-bytes-2 c =
    let passed = passed_all c.args.sizes.now c.args.runs.now _ c.loop-run.run-index c.args.bytes c.loop-run.from
    c.loop-run-test.false c.loop-run.invariant in
    ap (λ n. Some n) c.new-then-from-bytes-2.ensures
    ∙ sym (first_at_end c.args.sizes.now c.args.runs.now c.args.bytes c.loop-run.from
    (record { some = c.requires.some; whole = c.requires.whole }) passed (omega arith))

pub returns-else-from-bytes-2 : goal.returns-else-from-bytes-2
returns-else-from-bytes-2 c =
    let passed = passed_all c.args.sizes.now c.args.runs.now _ c.loop-run.run-index c.args.bytes c.loop-run.from
    c.loop-run-test.false c.loop-run.invariant in
    sym (none_at_end c.args.sizes.now c.args.runs.now c.args.bytes c.loop-run.from passed (omega arith))
