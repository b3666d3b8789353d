use Rattle.std.proofs.Common.{ℕ, ◌<◌, List, ◌++◌, length, sym, ap, ◌∙◌, arith}
use Rattle.std.proofs.lemmas.List.{append-nil, take_all}
use Rattle.qg_qgroup_counts.specs.ExtentBytes.{node_portions}
use Rattle.qg_qgroup_counts.proofs.PortionWeights.{pushed_more}
use Rattle.qg_qgroup_counts.proofs.portions.push_nodes.Goals as goal

pub loop-place-init : goal.loop-place-init
loop-place-init c = sym (append-nil c.args.portions.now.items)

pub loop-place-preserved : goal.loop-place-preserved
loop-place-preserved c =
    let sets = c.args.reached.now.numbers.items in
    let i = c.loop-place.place in
    let short : i < length sets = omega (arith, c.requires, c.loop-place-test.true) in
    c.in_ok-push.ensures.items
    ∙ pushed_more c.args.nodesize sets i short c.args.portions.now.items c.loop-place.portions.items
    (record { bytes = c.from.result; set = c.set_of.result }) c.loop-place.invariant c.from.ensures c.set_of.ensures

pub returns : goal.returns
returns c =
    let sets = c.args.reached.now.numbers.items in
    c.loop-place.invariant
    ∙ ap (λ (ns : List ℕ). c.args.portions.now.items ++ node_portions c.args.nodesize ns)
    (take_all c.loop-place.place sets (omega (arith, c.requires, c.loop-place-test.false)))
