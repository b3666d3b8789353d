use Rattle.std.proofs.Common.{List, ap, drop_of_length-le, refl, ◌∙◌}
use Rattle.std.specs.List.{find}
use Rattle.qg_node.specs.declared.item.Item.{Item}
use Rattle.qg_extent_items.specs.Standing.{tells}
use Rattle.qg_extent_items.proofs.OneAddress.{find-hit, find-next, tells-count}
use Rattle.qg_extent_items.proofs.reading.teller_in.Goals as goal

pub loop-item-init : goal.loop-item-init
loop-item-init c = refl

pub returns-in-Some : goal.returns-in-Some
returns-in-Some c = record {
  item = c.item-item.result;
  first = c.loop-item.invariant
      ∙ find-hit (tells c.args.at c.args.reference.now) c.args.items.now c.loop-item.item-index c.item-item.result
      c.loop-item-test.true c.item-item.is
      (tells-count c.args.at c.args.reference.now c.in-Some.count c.item-item.result c.in-Some.ensures);
  count = c.in-Some.ensures;
  number = refl;
}

pub loop-item-preserved : goal.loop-item-preserved
loop-item-preserved c =
    c.loop-item.invariant
    ∙ find-next (tells c.args.at c.args.reference.now) c.args.items.now c.loop-item.item-index c.item-item.result
    c.loop-item-test.true c.item-item.is c.in_default.ensures

pub returns : goal.returns
returns c =
    c.loop-item.invariant
    ∙ ap (λ (l : List Item). find (tells c.args.at c.args.reference.now) l)
    (drop_of_length-le c.args.items.now c.loop-item-test.false)
