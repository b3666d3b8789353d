use Rattle.std.proofs.Common.{◌≡◌, ap, subst, sym, ◌∙◌}
use Rattle.std.specs.Prelude.{Some}
use Rattle.qg_node.specs.declared.node.Node.{Node}
use Rattle.qg_blocks.specs.NodesFound.{fresh_at}
use Rattle.qg_edit.specs.Outcome.{cleared}
use Rattle.qg_node_alloc.proofs.Editing.{edited, edited-here}
use Rattle.qg_tree_edits.specs.Editing.{IsRewritten}
use Rattle.qg_tree_edits.proofs.Rewritten.{same_node}
use Rattle.qg_tree_edits.proofs.Shrunk.{cleared-rewritten}
use Rattle.qg_tree_edits.proofs.rooting.clear_at.Goals as goal

pub returns-clause-cleared : goal.returns-clause-cleared
returns-clause-cleared c node is =
    let one : c.clear.new.node ≡ cleared node = c.clear.ensures
    ∙ ap cleared (same_node (fresh_at c.args.land.now.blocks.draft c.args.at) c.get_mut.result.now node
    c.get_mut.ensures.value is) in
    subst (λ (n : Node). IsRewritten c.args.land.now (edited c.args.land.now c.args.at n) c.args.at node) (sym one)
    (cleared-rewritten c.args.land.now c.args.at node c.requires.size)

pub returns-clause-here : goal.returns-clause-here
returns-clause-here c node is =
    let one : c.clear.new.node ≡ cleared node = c.clear.ensures
    ∙ ap cleared (same_node (fresh_at c.args.land.now.blocks.draft c.args.at) c.get_mut.result.now node
    c.get_mut.ensures.value is) in
    edited-here c.args.land.now c.args.at c.clear.new.node c.requires.fresh ∙ ap (λ (n : Node). Some n) one
