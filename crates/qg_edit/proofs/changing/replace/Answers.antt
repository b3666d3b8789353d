use Rattle.std.proofs.Common.{arith, sym, ◌∙◌}
use borrow.Author.Tests.{ltb-false}
use Rattle.std.proofs.lemmas.Bool.{true≢false}
use Rattle.qg_edit.proofs.Leaves.{answers-cut, answers-misfit, err-cut, IsNodeFor-header, left-of, ok-known, replaced}
use Rattle.qg_edit.proofs.Leaves.{replaced-fits}
use Rattle.qg_edit.proofs.Lists.{has_key-goes, item-there}
use Rattle.qg_node.specs.Nodes.{own_items}
use Rattle.qg_shape.specs.Parts.{with_items}
use Rattle.qg_edit.specs.declared.edit.Change.TheVariants.{Replace}
use Rattle.qg_edit.specs.Edits.{changed}
use Rattle.qg_edit.proofs.changing.replace.Goals as goal

pub cut-requires-clause-levelled : goal.cut-requires-clause-levelled
cut-requires-clause-levelled c =
    (replaced c.args.nodesize c.args.leaf.now c.requires.leaf c.requires.sound c.args.key c.args.body c.in-Ok.place
    c.replace_body.new.node c.requires.short c.in-Ok.ensures.found c.replace_body.ensures).levelled

pub cut-requires-clause-ascending : goal.cut-requires-clause-ascending
cut-requires-clause-ascending c =
    (replaced c.args.nodesize c.args.leaf.now c.requires.leaf c.requires.sound c.args.key c.args.body c.in-Ok.place
    c.replace_body.new.node c.requires.short c.in-Ok.ensures.found c.replace_body.ensures).ascending

pub cut-requires-clause-by_one : goal.cut-requires-clause-by_one
cut-requires-clause-by_one c =
    (replaced c.args.nodesize c.args.leaf.now c.requires.leaf c.requires.sound c.args.key c.args.body c.in-Ok.place
    c.replace_body.new.node c.requires.short c.in-Ok.ensures.found c.replace_body.ensures).by_one

pub returns-in-Ok-clause-edited : goal.returns-in-Ok-clause-edited
returns-in-Ok-clause-edited c =
    let made = replaced c.args.nodesize c.args.leaf.now c.requires.leaf c.requires.sound c.args.key c.args.body
    c.in-Ok.place c.replace_body.new.node c.requires.short c.in-Ok.ensures.found c.replace_body.ensures in
    left-of c.args.nodesize c.args.leaf.now c.replace_body.new.node
    (with_items c.args.leaf.now (changed c.args.key (Replace c.args.body) (own_items c.args.leaf.now)))
    c.cut.new.node c.cut.result
    made.is made.header c.cut.ensures.cut

pub returns-in-Ok-clause-answers : goal.returns-in-Ok-clause-answers
returns-in-Ok-clause-answers c =
    answers-cut c.args.nodesize c.args.key (Replace c.args.body) c.args.leaf.now c.replace_body.new.node c.cut.result
    (replaced c.args.nodesize c.args.leaf.now c.requires.leaf c.requires.sound c.args.key c.args.body c.in-Ok.place
    c.replace_body.new.node c.requires.short c.in-Ok.ensures.found c.replace_body.ensures) c.cut.ensures.answers

pub returns-in-Ok-clause-err : goal.returns-in-Ok-clause-err
returns-in-Ok-clause-err c =
    err-cut c.args.nodesize c.args.key (Replace c.args.body) c.args.leaf.now c.replace_body.new.node c.cut.new.node
    c.cut.result (replaced c.args.nodesize c.args.leaf.now c.requires.leaf c.requires.sound c.args.key c.args.body
    c.in-Ok.place c.replace_body.new.node c.requires.short c.in-Ok.ensures.found c.replace_body.ensures)
    c.cut.ensures.err

pub returns-in-Err-clause-answers : goal.returns-in-Err-clause-answers
returns-in-Err-clause-answers c =
    answers-misfit c.args.nodesize c.args.key (Replace c.args.body) c.args.leaf.now c.misfit.result c.misfit.ensures
    (λ can. true≢false (sym can
    ∙ has_key-goes c.args.key (own_items c.args.leaf.now) c.in-Err.field-0 c.in-Err.ensures.absent))

pub returns-in-Ok-clause-can : goal.returns-in-Ok-clause-can
returns-in-Ok-clause-can c =
    ok-known _ c.cut.result (replaced c.args.nodesize c.args.leaf.now c.requires.leaf c.requires.sound c.args.key
    c.args.body c.in-Ok.place c.replace_body.new.node c.requires.short c.in-Ok.ensures.found c.replace_body.ensures).can

pub returns-in-Ok-clause-node : goal.returns-in-Ok-clause-node
returns-in-Ok-clause-node c = IsNodeFor-header c.args.nodesize c.args.leaf.now c.replace_body.new.node c.cut.new.node
    (replaced c.args.nodesize c.args.leaf.now c.requires.leaf c.requires.sound c.args.key c.args.body c.in-Ok.place
    c.replace_body.new.node c.requires.short c.in-Ok.ensures.found c.replace_body.ensures).header c.cut.ensures.node

pub returns-in-Ok-clause-sound : goal.returns-in-Ok-clause-sound
returns-in-Ok-clause-sound c =
    λ can short. c.cut.ensures.sound
    ((replaced c.args.nodesize c.args.leaf.now c.requires.leaf c.requires.sound c.args.key c.args.body c.in-Ok.place
    c.replace_body.new.node c.requires.short c.in-Ok.ensures.found c.replace_body.ensures).short short)

pub returns-in-Err-clause-sound : goal.returns-in-Err-clause-sound
returns-in-Err-clause-sound c =
    λ can short. absurd (true≢false (sym can
    ∙ has_key-goes c.args.key (own_items c.args.leaf.now) c.in-Err.field-0 c.in-Err.ensures.absent))

pub cut-requires-clause-kept : goal.cut-requires-clause-kept
cut-requires-clause-kept c same =
    let at = item-there c.args.key (own_items c.args.leaf.now) c.in-Ok.place c.in-Ok.ensures.found in
    let old = c.body_length.ensures at.0 at.1.0 in
    let new = c.len.ensures in
    let less = ltb-false c.body_length.result c.len.result same in
    replaced-fits c.args.nodesize c.args.leaf.now c.requires.leaf c.requires.sound c.args.body c.in-Ok.place
    c.replace_body.new.node at.0 at.1.0 (omega (arith, old, new, less)) (c.replace_body.ensures at.0 at.1.0)
