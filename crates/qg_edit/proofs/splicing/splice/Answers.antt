use Rattle.std.proofs.Common.{◌++◌, take, drop, sym, subst, ap, ◌∙◌}
use Rattle.qg_node.specs.declared.node.Node.{Node}
use Rattle.qg_node.specs.Nodes.{header_of, own_pointers}
use Rattle.qg_edit.specs.Outcome.{IsNodeFor, cleared}
use Rattle.qg_edit.proofs.Leaves.{header-pointers, IsNodeFor-cleared, IsNodeFor-header}
use Rattle.qg_edit.proofs.splicing.splice.Goals as goal

pub returns-in-Err-clause-node : goal.returns-in-Err-clause-node
returns-in-Err-clause-node c =
    subst (λ (n : Node). IsNodeFor c.args.nodesize c.args.node.now n) (sym c.clear.ensures)
    (IsNodeFor-header c.args.nodesize c.args.node.now c.put_pointers.new.node (cleared c.put_pointers.new.node)
    (ap header_of c.in-Err.ensures.err
    ∙ header-pointers c.args.node.now (take c.args.from (own_pointers c.args.node.now)
    ++ drop c.args.to (own_pointers c.args.node.now)) c.requires.inner)
    (IsNodeFor-cleared c.args.nodesize c.put_pointers.new.node c.requires.size))
