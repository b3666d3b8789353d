use Rattle.std.proofs.Common.{List, sym, subst}
use Rattle.std.proofs.lemmas.Bool.{cond-true, cond-false}
use Rattle.std.proofs.lemmas.Result.{on_ok_weaker}
use Rattle.qg_delayed.specs.declared.edit.Edit.{Edit}
use Rattle.qg_delayed.specs.Making.{CanMake, HasMade}
use Rattle.qg_delayed.proofs.OneByOne.{left_none, left_one, made_none}
use Rattle.qg_delayed.proofs.flushing.make_mark.Goals as goal

pub returns-then-not-has_new_mark-clause-made : goal.returns-then-not-has_new_mark-clause-made
returns-then-not-has_new_mark-clause-made g c =
    let b = g.B.RefBook in
    subst (λ (es : List Edit). HasMade b.stands b.holds b.has_room b.edits es c.args.book.now c.args.land.now
    c.args.disk.now c.args.book.now c.args.land.now c.args.disk.now)
    (sym (cond-false _ _ _ (sym c.if-not-has_new_mark.ensures)))
    (made_none b.stands b.holds b.has_room b.edits c.args.book.now c.args.land.now c.args.disk.now c.requires.stood)

pub returns-then-not-has_new_mark-clause-leaves : goal.returns-then-not-has_new_mark-clause-leaves
returns-then-not-has_new_mark-clause-leaves g c = left_none g.B.RefBook.edits c.args.land.now c.args.disk.now

pub make-requires : goal.make-requires
make-requires g c =
    let b = g.B.RefBook in
    subst (λ (es : List Edit). CanMake b.stands b.holds b.has_room b.edits es c.args.book.now c.args.land.now
    c.args.disk.now) (cond-true _ _ _ (sym c.if-not-has_new_mark.ensures)) c.requires

pub returns-clause-made : goal.returns-clause-made
returns-clause-made g c =
    let b = g.B.RefBook in
    on_ok_weaker c.make.result
    (subst (λ (es : List Edit). HasMade b.stands b.holds b.has_room b.edits es c.args.book.now c.args.land.now
    c.args.disk.now c.make.new.book c.make.new.land c.make.new.disk)
    (sym (cond-true _ _ _ (sym c.if-not-has_new_mark.ensures)))) c.make.ensures.made

pub returns-clause-leaves : goal.returns-clause-leaves
returns-clause-leaves g c =
    left_one g.B.RefBook.edits c.args.land.now c.args.disk.now c.make.new.land c.make.new.disk c.make.ensures.leaves
