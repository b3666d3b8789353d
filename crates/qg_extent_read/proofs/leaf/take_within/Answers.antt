use Rattle.std.proofs.Common.{ap, sym, ◌∙◌}
use Rattle.std.specs.List.{fold}
use Rattle.qg_extent_read.proofs.Taken.{taken-more, upto-place}
use Rattle.qg_extent_read.proofs.leaf.take_within.Goals as goal

pub returns-then-is_before : goal.returns-then-is_before
returns-then-is_before g c =
    let rest = c.items_from-rest.result.now in
    let upto = upto-place c.args.from c.args.to rest c.loop-item.item-index c.item-item.result c.loop-item-test.true
    c.item-item.is c.items_from-rest.ensures.ascending (sym c.is_before.ensures ∙ c.if-is_before.true) in
    c.loop-item.invariant
    ∙ ap (fold g.R.ItemReader.after c.args.reader.now) (sym (c.items_from-rest.ensures.within c.args.to ∙ upto))

pub loop-item-preserved : goal.loop-item-preserved
loop-item-preserved g c =
    c.in_ok-take.ensures
    ∙ taken-more g.R.ItemReader.after c.args.reader.now c.loop-item.reader c.args.from c.args.to
    c.items_from-rest.result.now c.loop-item.item-index c.item-item.result c.loop-item-test.true c.item-item.is
    c.items_from-rest.ensures.from (sym c.is_before.ensures ∙ c.if-is_before.false) c.loop-item.invariant
