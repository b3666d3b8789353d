use Rattle.std.proofs.Common.{◌∙◌, ◌≡◌, subst, sym}
use Rattle.std.specs.Prelude.{Some}
use Rattle.std.proofs.lemmas.Result.{IfOk-weaker}
use Rattle.qg_node.specs.declared.node.Node.{Node}
use Rattle.qg_node.specs.Nodes.{own_pointers}
use Rattle.qg_shape.specs.Parts.{with_pointers}
use Rattle.qg_edit.specs.Outcome.{spliced}
use Rattle.qg_tree_edits.proofs.Fitting.{none-cut}
use Rattle.qg_tree_edits.proofs.Rewritten.{IsCutThere-edited}
use Rattle.qg_tree_edits.proofs.Naming.{answers-no_disk, names-answers}
use Rattle.qg_tree_edits.specs.Failing.{NamesOnly}
use Rattle.qg_edit.specs.Answering.{CanSplice, IsBrokenUnless}
use Rattle.qg_num.specs.declared.rule.Rule.TheVariants.{Refs}
use Rattle.qg_tree_edits.proofs.Rewritten.{same_node}
use Rattle.qg_blocks.specs.NodesFound.{fresh_at}
use Rattle.qg_tree_edits.proofs.rewriting.rewrite_pointers.Goals as goal

pub splice-requires-clause-within : goal.splice-requires-clause-within
splice-requires-clause-within c = c.requires.within c.get_mut.result.now c.get_mut.ensures.value

pub returns-clause-cut : goal.returns-clause-cut
returns-clause-cut c node is =
    IsCutThere-edited c.args.land.now c.args.at c.args.land.now.space.sizes.nodesize c.nodesize-nodesize.result
    c.get_mut.result.now c.splice.new.node node
    (λ (n : Node). with_pointers n (spliced c.args.from c.args.to c.args.new.now (own_pointers n))) c.splice.result
    c.get_mut.ensures.value (c.nodesize-nodesize.ensures ∙ c.requires.sizes.nodesize)
    (IfOk-weaker c.splice.result _ _ (λ rest left. left.cut) c.splice.ensures.spliced)
    (IfOk-weaker c.splice.result _ _ (λ rest left. left.rest) c.splice.ensures.spliced) is

pub returns-clause-fits : goal.returns-clause-fits
returns-clause-fits c few =
    let node = c.get_mut.result.now in
    let within = c.requires.within node c.get_mut.ensures.value in
    none-cut c.nodesize-nodesize.result c.args.land.now.space.sizes.nodesize c.args.from c.args.to node c.args.new.now
    c.splice.result (c.requires.inner node c.get_mut.ensures.value)
    (c.requires.sound node c.get_mut.ensures.value) (c.nodesize-nodesize.ensures ∙ c.requires.sizes.nodesize) within.0
    within.1 few
    (IfOk-weaker c.splice.result _ _ (λ rest left. left.overfull) c.splice.ensures.spliced)

-- ---- where a rule is named

pub returns-clause-fails : goal.returns-clause-fails
returns-clause-fails c =
    let was = c.get_mut.result.now in
    let from = c.args.from in
    let to = c.args.to in
    let new = c.args.new.now in
    let answers = c.splice.ensures.answers in
    let here : (node : Node) → fresh_at c.args.land.now.blocks.draft c.args.at ≡ Some node → was ≡ node =
    λ node is. same_node (fresh_at c.args.land.now.blocks.draft c.args.at) was node c.get_mut.ensures.value is in
    record {
      sound = λ node is such. c.splice.ensures.sound
          (subst (λ (n : Node). CanSplice from to new n) (sym (here node is)) such);
      broken = λ node is.
          subst (λ (n : Node). NamesOnly (IsBrokenUnless Refs n (CanSplice from to new n)) c.splice.result)
          (here node is)
          (names-answers c.splice.result (CanSplice from to new was)
          (IsBrokenUnless Refs was (CanSplice from to new was)) answers);
      no_disk = answers-no_disk c.splice.result (CanSplice from to new was)
          (IsBrokenUnless Refs was (CanSplice from to new was)) answers;
    }
