use Rattle.std.proofs.Common.{◌∙◌, ℕ, subst, sym, ◌≡◌}
use Rattle.std.specs.Prelude.{Some}
use Rattle.std.proofs.lemmas.Result.{IfOk-weaker}
use Rattle.qg_node.specs.declared.node.Node.{Node}
use Rattle.qg_node.specs.Nodes.{own_items}
use Rattle.qg_shape.specs.Filled.{HasShortBodies}
use Rattle.qg_shape.specs.Parts.{with_items}
use Rattle.qg_edit.specs.Edits.{CanEdit, edited}
use Rattle.qg_tree_edits.proofs.Rewritten.{IsCutThere-edited}
use Rattle.qg_tree_edits.proofs.Naming.{answers-no_disk, names-answers}
use Rattle.qg_tree_edits.specs.Failing.{NamesOnly}
use Rattle.qg_edit.specs.Answering.{IsBrokenByChange, IsChangeable}
use Rattle.qg_tree_edits.proofs.Rewritten.{same_node}
use Rattle.qg_blocks.specs.NodesFound.{fresh_at}
use Rattle.qg_tree_edits.proofs.rewriting.rewrite_leaf.Goals as goal

pub returns-clause-cut : goal.returns-clause-cut
returns-clause-cut c node is =
    IsCutThere-edited c.args.land.now c.args.at c.args.land.now.space.sizes.nodesize c.nodesize-nodesize.result
    c.get_mut.result.now c.edit_leaf.new.leaf node
    (λ (n : Node). with_items n (edited c.args.edit (own_items n))) c.edit_leaf.result
    c.get_mut.ensures.value (c.nodesize-nodesize.ensures ∙ c.requires.sizes.nodesize)
    (IfOk-weaker c.edit_leaf.result _ _ (λ rest left. left.cut) c.edit_leaf.ensures.edited)
    (IfOk-weaker c.edit_leaf.result _ _ (λ rest left. left.rest) c.edit_leaf.ensures.edited) is

-- ---- where a rule is named

pub returns-clause-fails : goal.returns-clause-fails
returns-clause-fails c =
    let was = c.get_mut.result.now in
    let given = c.nodesize-nodesize.result in
    let key = c.args.edit.key in
    let change = c.args.edit.change in
    let here : (node : Node) → fresh_at c.args.land.now.blocks.draft c.args.at ≡ Some node → was ≡ node =
    λ node is. same_node (fresh_at c.args.land.now.blocks.draft c.args.at) was node c.get_mut.ensures.value is in
    let answers = c.edit_leaf.ensures.answers in
    let names = names-answers c.edit_leaf.result (IsChangeable given key change was)
    (IsBrokenByChange given key change was) answers in
    record {
      sound = λ node is such. c.edit_leaf.ensures.sound
          (subst (λ (n : Node). CanEdit c.args.edit (own_items n)) (sym (here node is)) such.0)
          (subst (λ (n : Node). HasShortBodies n) (sym (here node is)) such.1);
      broken = λ node is.
          subst (λ (n : ℕ). NamesOnly (IsBrokenByChange n key change node) c.edit_leaf.result)
          (c.nodesize-nodesize.ensures ∙ c.requires.sizes.nodesize)
          (subst (λ (n : Node). NamesOnly (IsBrokenByChange given key change n) c.edit_leaf.result) (here node is)
          names);
      no_disk = answers-no_disk c.edit_leaf.result (IsChangeable given key change was)
          (IsBrokenByChange given key change was) answers;
    }
