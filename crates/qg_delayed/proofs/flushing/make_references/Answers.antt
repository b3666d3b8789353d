use Rattle.std.proofs.Common.{List, sym, subst}
use Rattle.std.proofs.lemmas.Bool.{cond-true, cond-false}
use Rattle.std.proofs.lemmas.Result.{on_ok_weaker}
use Rattle.qg_delayed.specs.declared.edit.Edit.{Edit}
use Rattle.qg_delayed.specs.Flushing.{come_in, go_in}
use Rattle.qg_delayed.specs.Making.{CanMake, HasMade}
use Rattle.qg_delayed.proofs.OneByOne.{can_front, can_rest, left_both, made_both, tells_still}
use Rattle.qg_delayed.proofs.flushing.make_references.Goals as goal

pub make_goes-requires : goal.make_goes-requires
make_goes-requires g c =
    let b = g.B.RefBook in
    let one = go_in c.args.at c.args.entry.now in
    let two = come_in c.args.at c.args.entry.now in
    can_front b.stands b.holds b.has_room b.edits one two c.args.book.now c.args.land.now c.args.disk.now
    (subst (λ (es : List Edit). CanMake b.stands b.holds b.has_room b.edits es c.args.book.now c.args.land.now
    c.args.disk.now) (cond-true _ _ _ c.if-goes_first.true) c.requires)

pub make_comes-requires : goal.make_comes-requires
make_comes-requires g c =
    let b = g.B.RefBook in
    let one = go_in c.args.at c.args.entry.now in
    let two = come_in c.args.at c.args.entry.now in
    let mid = c.make_goes.new in
    can_rest b.stands b.holds b.has_room b.edits one two c.args.book.now c.args.land.now c.args.disk.now mid.book
    mid.land mid.disk
    (subst (λ (es : List Edit). CanMake b.stands b.holds b.has_room b.edits es c.args.book.now c.args.land.now
    c.args.disk.now) (cond-true _ _ _ c.if-goes_first.true) c.requires) c.in_ok-make_goes.ensures.made

pub returns-then-goes_first-clause-made : goal.returns-then-goes_first-clause-made
returns-then-goes_first-clause-made g c =
    let b = g.B.RefBook in
    let one = go_in c.args.at c.args.entry.now in
    let two = come_in c.args.at c.args.entry.now in
    let mid = c.make_goes.new in
    let after = c.make_comes.new in
    on_ok_weaker c.make_comes.result
    (λ second. subst (λ (es : List Edit). HasMade b.stands b.holds b.has_room b.edits es c.args.book.now
    c.args.land.now c.args.disk.now after.book after.land after.disk) (sym (cond-true _ _ _ c.if-goes_first.true))
    (made_both b.stands b.holds b.has_room b.edits one two c.args.book.now c.args.land.now c.args.disk.now mid.book
    mid.land mid.disk after.book after.land after.disk c.in_ok-make_goes.ensures.made second)) c.make_comes.ensures.made

pub returns-then-goes_first-clause-leaves : goal.returns-then-goes_first-clause-leaves
returns-then-goes_first-clause-leaves g c =
    let mid = c.make_goes.new in
    let after = c.make_comes.new in
    left_both g.B.RefBook.edits c.args.land.now c.args.disk.now mid.land mid.disk after.land after.disk
    c.in_ok-make_goes.ensures.leaves c.make_comes.ensures.leaves

pub returns-then-goes_first-clause-no_image : goal.returns-then-goes_first-clause-no_image
returns-then-goes_first-clause-no_image g c some =
    let b = g.B.RefBook in
    let one = go_in c.args.at c.args.entry.now in
    let mid = c.make_goes.new in
    c.make_comes.ensures.no_image
    (tells_still b.stands b.holds b.has_room b.edits one c.args.book.now c.args.land.now c.args.disk.now mid.book
    mid.land mid.disk c.in_ok-make_goes.ensures.made some)

pub make_comes-requires-2 : goal.make_comes-requires-2
make_comes-requires-2 g c =
    let b = g.B.RefBook in
    let one = come_in c.args.at c.args.entry.now in
    let two = go_in c.args.at c.args.entry.now in
    can_front b.stands b.holds b.has_room b.edits one two c.args.book.now c.args.land.now c.args.disk.now
    (subst (λ (es : List Edit). CanMake b.stands b.holds b.has_room b.edits es c.args.book.now c.args.land.now
    c.args.disk.now) (cond-false _ _ _ c.if-goes_first.false) c.requires)

pub make_goes-requires-2 : goal.make_goes-requires-2
make_goes-requires-2 g c =
    let b = g.B.RefBook in
    let one = come_in c.args.at c.args.entry.now in
    let two = go_in c.args.at c.args.entry.now in
    let mid = c.make_comes-2.new in
    can_rest b.stands b.holds b.has_room b.edits one two c.args.book.now c.args.land.now c.args.disk.now mid.book
    mid.land mid.disk
    (subst (λ (es : List Edit). CanMake b.stands b.holds b.has_room b.edits es c.args.book.now c.args.land.now
    c.args.disk.now) (cond-false _ _ _ c.if-goes_first.false) c.requires) c.in_ok-make_comes.ensures.made

pub returns-clause-made : goal.returns-clause-made
returns-clause-made g c =
    let b = g.B.RefBook in
    let one = come_in c.args.at c.args.entry.now in
    let two = go_in c.args.at c.args.entry.now in
    let mid = c.make_comes-2.new in
    let after = c.make_goes-2.new in
    on_ok_weaker c.make_goes-2.result
    (λ second. subst (λ (es : List Edit). HasMade b.stands b.holds b.has_room b.edits es c.args.book.now
    c.args.land.now c.args.disk.now after.book after.land after.disk) (sym (cond-false _ _ _ c.if-goes_first.false))
    (made_both b.stands b.holds b.has_room b.edits one two c.args.book.now c.args.land.now c.args.disk.now mid.book
    mid.land mid.disk after.book after.land after.disk c.in_ok-make_comes.ensures.made second))
    c.make_goes-2.ensures.made

pub returns-clause-leaves : goal.returns-clause-leaves
returns-clause-leaves g c =
    let mid = c.make_comes-2.new in
    let after = c.make_goes-2.new in
    left_both g.B.RefBook.edits c.args.land.now c.args.disk.now mid.land mid.disk after.land after.disk
    c.in_ok-make_comes.ensures.leaves c.make_goes-2.ensures.leaves

pub returns-clause-no_image : goal.returns-clause-no_image
returns-clause-no_image g c some =
    let b = g.B.RefBook in
    let one = come_in c.args.at c.args.entry.now in
    let mid = c.make_comes-2.new in
    c.make_goes-2.ensures.no_image
    (tells_still b.stands b.holds b.has_room b.edits one c.args.book.now c.args.land.now c.args.disk.now mid.book
    mid.land mid.disk c.in_ok-make_comes.ensures.made some)
