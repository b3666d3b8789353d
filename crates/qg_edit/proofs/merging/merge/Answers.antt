use Rattle.qg_edit.proofs.Cuts.{nodes-joined}
use Rattle.qg_edit.proofs.merging.merge.Goals as goal

pub returns-clause-nodes : goal.returns-clause-nodes
returns-clause-nodes c =
    nodes-joined c.args.nodesize c.args.left.now c.args.right.now c.join.new.left c.join.new.right c.in_ok-join.field-0
    c.requires.size c.requires.left c.requires.right c.requires.level
    (c.is_in_front.ensures.0 c.if-not-is_in_front.false) c.in_ok-join.ensures.joined
