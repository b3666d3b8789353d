use Rattle.std.proofs.Common.{sym, ◌∙◌}
use Rattle.std.proofs.lemmas.Bool.{not-true, true≢false}
use Rattle.qg_edit.proofs.Leaves.{answers-cut, answers-misfit, inserted, left-of, ok-known}
use Rattle.qg_edit.proofs.Lists.{has_key-there}
use Rattle.qg_node.specs.Nodes.{own_items}
use Rattle.qg_shape.specs.Parts.{with_items}
use Rattle.qg_edit.specs.declared.edit.Change.TheVariants.{Insert}
use Rattle.qg_edit.specs.Edits.{changed}
use Rattle.qg_edit.proofs.changing.insert.Goals as goal

pub cut-requires-clause-ascending : goal.cut-requires-clause-ascending
cut-requires-clause-ascending c =
    (inserted c.args.nodesize c.args.leaf.now c.requires.leaf c.requires.sound c.args.key c.args.body c.in-Err.place
    c.insert_item.new.node c.requires.short c.in-Err.ensures.absent
    c.in_ok-insert_item-in-Err.ensures.ok).ascending

pub returns-in-Ok-clause-sound : goal.returns-in-Ok-clause-sound
returns-in-Ok-clause-sound c =
    λ can short. absurd (true≢false
    (sym (has_key-there c.args.key (own_items c.args.leaf.now) c.in-Ok.field-0 c.in-Ok.ensures.found) ∙ not-true _ can))

pub returns-in_ok-insert_item-in-Err-clause-edited : goal.returns-in_ok-insert_item-in-Err-clause-edited
returns-in_ok-insert_item-in-Err-clause-edited c =
    let made = inserted c.args.nodesize c.args.leaf.now c.requires.leaf c.requires.sound c.args.key c.args.body
    c.in-Err.place c.insert_item.new.node c.requires.short c.in-Err.ensures.absent
    c.in_ok-insert_item-in-Err.ensures.ok in
    left-of c.args.nodesize c.args.leaf.now c.insert_item.new.node
    (with_items c.args.leaf.now (changed c.args.key (Insert c.args.body) (own_items c.args.leaf.now)))
    c.cut.new.node c.cut.result
    made.is made.header c.cut.ensures.cut

pub returns-in_ok-insert_item-in-Err-clause-answers : goal.returns-in_ok-insert_item-in-Err-clause-answers
returns-in_ok-insert_item-in-Err-clause-answers c =
    answers-cut c.args.nodesize c.args.key (Insert c.args.body) c.args.leaf.now c.insert_item.new.node c.cut.result
    (inserted c.args.nodesize c.args.leaf.now c.requires.leaf c.requires.sound c.args.key c.args.body c.in-Err.place
    c.insert_item.new.node c.requires.short c.in-Err.ensures.absent
    c.in_ok-insert_item-in-Err.ensures.ok) c.cut.ensures.answers

pub returns-in-Ok-clause-answers : goal.returns-in-Ok-clause-answers
returns-in-Ok-clause-answers c =
    answers-misfit c.args.nodesize c.args.key (Insert c.args.body) c.args.leaf.now c.misfit.result c.misfit.ensures
    (λ can. true≢false (sym (has_key-there c.args.key (own_items c.args.leaf.now) c.in-Ok.field-0 c.in-Ok.ensures.found)
    ∙ not-true _ can))

pub returns-in_ok-insert_item-in-Err-clause-can : goal.returns-in_ok-insert_item-in-Err-clause-can
returns-in_ok-insert_item-in-Err-clause-can c =
    ok-known _ c.cut.result
    (inserted c.args.nodesize c.args.leaf.now c.requires.leaf c.requires.sound c.args.key c.args.body c.in-Err.place
    c.insert_item.new.node c.requires.short c.in-Err.ensures.absent
    c.in_ok-insert_item-in-Err.ensures.ok).can

pub returns-in_ok-insert_item-in-Err-clause-sound : goal.returns-in_ok-insert_item-in-Err-clause-sound
returns-in_ok-insert_item-in-Err-clause-sound c = λ can short.
    c.cut.ensures.sound ((inserted c.args.nodesize c.args.leaf.now c.requires.leaf c.requires.sound c.args.key
    c.args.body c.in-Err.place c.insert_item.new.node c.requires.short c.in-Err.ensures.absent
    c.in_ok-insert_item-in-Err.ensures.ok).short short)
