use Rattle.std.proofs.Common.{sym, ◌∙◌}
use Rattle.std.proofs.lemmas.Bool.{true≢false}
use Rattle.qg_edit.proofs.Leaves.{answers-misfit, removed, removed-fits, removed-sound}
use Rattle.qg_edit.proofs.Lists.{has_key-goes}
use Rattle.qg_node.specs.Nodes.{own_items}
use Rattle.qg_edit.specs.declared.edit.Change.TheVariants.{Remove}
use Rattle.qg_edit.proofs.changing.remove.Goals as goal

pub returns-in-Ok-clause-edited : goal.returns-in-Ok-clause-edited
returns-in-Ok-clause-edited c = record {
  cut = sym (removed c.args.nodesize c.args.leaf.now c.requires.leaf c.requires.sound c.args.key c.in-Ok.place
      c.remove_item-item.new.node c.in-Ok.ensures.found c.remove_item-item.ensures.left).is;
  overfull = (
    λ some. absurd (true≢false (sym some)),
    λ over. absurd (removed-fits c.args.nodesize c.args.leaf.now c.requires.leaf c.requires.sound c.args.key
        c.in-Ok.place c.remove_item-item.new.node c.in-Ok.ensures.found c.remove_item-item.ensures.left over),
  );
  rest = tt;
}

pub returns-in-Ok-clause-answers : goal.returns-in-Ok-clause-answers
returns-in-Ok-clause-answers c = (
  (removed c.args.nodesize c.args.leaf.now c.requires.leaf c.requires.sound c.args.key c.in-Ok.place
      c.remove_item-item.new.node c.in-Ok.ensures.found c.remove_item-item.ensures.left).can,
  λ over.
      absurd (removed-fits c.args.nodesize c.args.leaf.now c.requires.leaf c.requires.sound c.args.key c.in-Ok.place
      c.remove_item-item.new.node c.in-Ok.ensures.found c.remove_item-item.ensures.left over),
)

pub returns-in-Err-clause-answers : goal.returns-in-Err-clause-answers
returns-in-Err-clause-answers c =
    answers-misfit c.args.nodesize c.args.key Remove c.args.leaf.now c.misfit.result c.misfit.ensures
    (λ can. true≢false (sym can
    ∙ has_key-goes c.args.key (own_items c.args.leaf.now) c.in-Err.field-0 c.in-Err.ensures.absent))

pub returns-in-Ok-clause-can : goal.returns-in-Ok-clause-can
returns-in-Ok-clause-can c =
    (removed c.args.nodesize c.args.leaf.now c.requires.leaf c.requires.sound c.args.key c.in-Ok.place
    c.remove_item-item.new.node c.in-Ok.ensures.found c.remove_item-item.ensures.left).can

pub returns-in-Ok-clause-node : goal.returns-in-Ok-clause-node
returns-in-Ok-clause-node c = removed-sound c.args.nodesize c.args.leaf.now c.requires.leaf c.requires.sound c.args.key
    c.in-Ok.place c.remove_item-item.new.node c.in-Ok.ensures.found c.remove_item-item.ensures.left

pub returns-in-Err-clause-sound : goal.returns-in-Err-clause-sound
returns-in-Err-clause-sound c =
    λ can short. absurd (true≢false (sym can
    ∙ has_key-goes c.args.key (own_items c.args.leaf.now) c.in-Err.field-0 c.in-Err.ensures.absent))
