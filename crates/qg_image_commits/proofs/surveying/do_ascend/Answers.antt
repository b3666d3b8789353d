use Rattle.std.proofs.Common.{sym, ◌∙◌, arith}
use Rattle.qg_open_image.proofs.Sorted.{not_rising, numbers_rise}
use Rattle.qg_qgroup_counts.specs.declared.surveyed.Surveyed.{Surveyed}
use Rattle.qg_image_commits.proofs.surveying.do_ascend.Goals as goal

pub returns-then-le-clause-no : goal.returns-then-le-clause-no
returns-then-le-clause-no c = λ no.
    not_rising (λ (node : Surveyed). node.linked.address) c.args.nodes.now c.loop-i.i c.index-nodes-i.result
    c.index-nodes-i-in-loop-i.result (omega arith) (omega arith)
    (sym c.le.ensures ∙ c.if-le.true)

pub returns-clause-yes : goal.returns-clause-yes
returns-clause-yes c = λ yes.
    numbers_rise (λ (node : Surveyed). node.linked.address) c.args.nodes.now
    (λ k d h. c.loop-i.invariant k d (omega (arith, h, c.loop-i-test.false)))
