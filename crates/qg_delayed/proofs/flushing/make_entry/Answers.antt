use Rattle.std.proofs.lemmas.Result.{IfOk-weaker}
use Rattle.qg_delayed.specs.Flushing.{mark_comes, references_turn}
use Rattle.qg_delayed.proofs.OneByOne.{can_front, can_rest, left_both, made_both, tells_still}
use Rattle.qg_delayed.proofs.flushing.make_entry.Goals as goal

pub make_references-requires : goal.make_references-requires
make_references-requires g c =
    let b = g.B.RefBook in
    can_front b.stands b.holds b.has_room b.edits (references_turn c.args.at c.args.entry.now)
    (mark_comes c.args.at c.args.entry.now) c.args.book.now c.args.land.now c.args.disk.now c.requires

pub make_mark-requires : goal.make_mark-requires
make_mark-requires g c =
    let b = g.B.RefBook in
    can_rest b.stands b.holds b.has_room b.edits (references_turn c.args.at c.args.entry.now)
    (mark_comes c.args.at c.args.entry.now) c.args.book.now c.args.land.now c.args.disk.now c.make_references.new.book
    c.make_references.new.land c.make_references.new.disk c.requires c.in_ok-make_references.ensures.made

pub returns-clause-made : goal.returns-clause-made
returns-clause-made g c =
    let b = g.B.RefBook in
    IfOk-weaker c.make_mark.result _ _
    (λ _ second. made_both b.stands b.holds b.has_room b.edits (references_turn c.args.at c.args.entry.now)
    (mark_comes c.args.at c.args.entry.now) c.args.book.now c.args.land.now c.args.disk.now c.make_references.new.book
    c.make_references.new.land c.make_references.new.disk c.make_mark.new.book c.make_mark.new.land
    c.make_mark.new.disk c.in_ok-make_references.ensures.made second) c.make_mark.ensures.made

pub returns-clause-leaves : goal.returns-clause-leaves
returns-clause-leaves g c =
    let mid = c.make_references.new in
    left_both g.B.RefBook.edits c.args.land.now c.args.disk.now mid.land mid.disk c.make_mark.new.land
    c.make_mark.new.disk c.in_ok-make_references.ensures.leaves c.make_mark.ensures.leaves

pub returns-clause-no_image : goal.returns-clause-no_image
returns-clause-no_image g c some =
    let b = g.B.RefBook in
    c.make_mark.ensures.no_image
    (tells_still b.stands b.holds b.has_room b.edits (references_turn c.args.at c.args.entry.now) c.args.book.now
    c.args.land.now c.args.disk.now c.make_references.new.book c.make_references.new.land c.make_references.new.disk
    c.in_ok-make_references.ensures.made some)
