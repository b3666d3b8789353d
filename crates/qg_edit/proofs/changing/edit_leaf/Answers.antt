use Rattle.std.proofs.Common.{sym, subst}
use Rattle.qg_node.specs.declared.node.Node.{Node}
use Rattle.qg_edit.specs.Outcome.{IsNodeFor}
use Rattle.qg_edit.proofs.Leaves.{IsNodeFor-cleared}
use Rattle.qg_edit.proofs.changing.edit_leaf.Goals as goal

pub returns-in-Clear-clause-node : goal.returns-in-Clear-clause-node
returns-in-Clear-clause-node c =
    subst (λ (n : Node). IsNodeFor c.args.nodesize c.args.leaf.now n) (sym c.clear.ensures)
    (IsNodeFor-cleared c.args.nodesize c.args.leaf.now c.requires.size)
