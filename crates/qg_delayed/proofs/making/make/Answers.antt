use Rattle.std.proofs.Common.{[], ◌∷◌, sym, subst}
use Rattle.std.proofs.lemmas.Result.{IfOk-weaker}
use Rattle.qg_refs.specs.Book.{Turns}
use Rattle.qg_delayed.specs.declared.edit.Edit.{Edit}
use Rattle.qg_delayed.specs.Making.{Makes, MayAll}
use Rattle.qg_delayed.proofs.OneByOne.{made_one}
use Rattle.qg_delayed.proofs.making.make.Goals as goal

pub add-requires : goal.add-requires
add-requires g c = record {
  stands = c.requires.stood;
  room = c.requires.room.0;
  fits = λ book told. (subst (λ (e : Edit). MayAll (e ∷ []) book) c.in-Add.is (c.requires.may book told)).0;
}

pub returns-in-Add-clause-made : goal.returns-in-Add-clause-made
returns-in-Add-clause-made g c =
    let b = g.B.RefBook in
    let after = c.add.new in
    let told = b.holds c.args.book.now c.args.land.now c.args.disk.now in
    let now = b.holds after.self after.land after.disk in
    IfOk-weaker c.add.result _ _
    (λ _ turns. made_one b.stands b.holds b.has_room b.edits c.args.edit.now c.args.book.now c.args.land.now
    c.args.disk.now after.self after.land after.disk c.add.ensures.stands c.add.ensures.leaves
    (subst (λ (e : Edit). Turns (Makes e) told now) (sym c.in-Add.is) turns)
    (λ book is. g.met.B.RecordBook.sound after.self after.land after.disk book c.add.ensures.stands is)
    (g.met.B.RecordBook.untold c.args.book.now after.self c.args.land.now after.land c.args.disk.now after.disk
    c.add.ensures.history)) c.add.ensures.added

pub drop_one-requires : goal.drop_one-requires
drop_one-requires g c = record {
  stands = c.requires.stood;
  room = c.requires.room.0;
  there = λ book told. (subst (λ (e : Edit). MayAll (e ∷ []) book) c.in-Drop.is (c.requires.may book told)).0;
}

pub returns-in-Drop-clause-made : goal.returns-in-Drop-clause-made
returns-in-Drop-clause-made g c =
    let b = g.B.RefBook in
    let after = c.drop_one.new in
    let told = b.holds c.args.book.now c.args.land.now c.args.disk.now in
    let now = b.holds after.self after.land after.disk in
    IfOk-weaker c.drop_one.result _ _
    (λ _ turns. made_one b.stands b.holds b.has_room b.edits c.args.edit.now c.args.book.now c.args.land.now
    c.args.disk.now after.self after.land after.disk c.drop_one.ensures.stands c.drop_one.ensures.leaves
    (subst (λ (e : Edit). Turns (Makes e) told now) (sym c.in-Drop.is) turns)
    (λ book is. g.met.B.RecordBook.sound after.self after.land after.disk book c.drop_one.ensures.stands is)
    (g.met.B.RecordBook.untold c.args.book.now after.self c.args.land.now after.land c.args.disk.now after.disk
    c.drop_one.ensures.history)) c.drop_one.ensures.dropped

pub set_full-requires : goal.set_full-requires
set_full-requires g c = record {
  stands = c.requires.stood;
  room = c.requires.room.0;
  there = λ book told. (subst (λ (e : Edit). MayAll (e ∷ []) book) c.in-SetFull.is (c.requires.may book told)).0;
}

pub returns-in-SetFull-clause-made : goal.returns-in-SetFull-clause-made
returns-in-SetFull-clause-made g c =
    let b = g.B.RefBook in
    let after = c.set_full.new in
    let told = b.holds c.args.book.now c.args.land.now c.args.disk.now in
    let now = b.holds after.self after.land after.disk in
    IfOk-weaker c.set_full.result _ _
    (λ _ turns. made_one b.stands b.holds b.has_room b.edits c.args.edit.now c.args.book.now c.args.land.now
    c.args.disk.now after.self after.land after.disk c.set_full.ensures.stands c.set_full.ensures.leaves
    (subst (λ (e : Edit). Turns (Makes e) told now) (sym c.in-SetFull.is) turns)
    (λ book is. g.met.B.RecordBook.sound after.self after.land after.disk book c.set_full.ensures.stands is)
    (g.met.B.RecordBook.untold c.args.book.now after.self c.args.land.now after.land c.args.disk.now after.disk
    c.set_full.ensures.history)) c.set_full.ensures.marked
