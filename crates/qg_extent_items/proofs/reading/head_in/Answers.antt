use Rattle.std.proofs.Common.{List, ap, drop_of_length-le, refl, ◌∙◌}
use Rattle.std.specs.List.{list_any}
use Rattle.qg_node.specs.declared.item.Item.{Item}
use Rattle.qg_extent_items.specs.Reading.{is_record_item}
use Rattle.qg_extent_items.proofs.OneAddress.{among-index, any-next, head-here, no-head-here}
use Rattle.qg_extent_items.proofs.reading.head_in.Goals as goal

pub loop-item-init : goal.loop-item-init
loop-item-init c = refl

pub returns-in-Some : goal.returns-in-Some
returns-in-Some c items at are allowed is =
    head-here c.args.nodesize items c.args.here.now at c.item-item.result c.in-Some.head are is
    (among-index c.args.here.now c.loop-item.item-index c.item-item.result c.loop-item-test.true c.item-item.is)
    c.in-Some.ensures

pub loop-item-preserved : goal.loop-item-preserved
loop-item-preserved c =
    c.loop-item.invariant
    ∙ any-next (is_record_item c.args.generation) c.args.here.now c.loop-item.item-index c.item-item.result
    c.loop-item-test.true c.item-item.is c.in_default.ensures

pub returns : goal.returns
returns c items at are allowed is =
    no-head-here c.args.nodesize c.args.generation items c.args.here.now at are allowed is
    (c.loop-item.invariant
    ∙ ap (λ (l : List Item). list_any (is_record_item c.args.generation) l)
    (drop_of_length-le c.args.here.now c.loop-item-test.false))
