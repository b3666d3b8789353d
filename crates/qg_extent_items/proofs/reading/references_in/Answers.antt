use Rattle.std.proofs.Common.{List, subst, sym}
use Rattle.qg_refs.specs.declared.counted.Counted.{Counted}
use Rattle.qg_refs.specs.Counts.{IsRefList}
use Rattle.qg_extent_items.proofs.References.{HasSoFar, references-read, so-far-next, so-far-none}
use Rattle.qg_extent_items.proofs.reading.references_in.Goals as goal

pub loop-item-init : goal.loop-item-init
loop-item-init c = subst (λ (l : List Counted). HasSoFar c.args.here.now 0 l) (sym c.new-references.ensures)
    (so-far-none c.args.here.now)

pub loop-item-preserved : goal.loop-item-preserved
loop-item-preserved c =
    so-far-next c.args.here.now c.loop-item.item-index c.item-item.result c.loop-item.references
    c.add_item.new.references c.loop-item-test.true c.item-item.is c.in_ok-add_item.ensures c.loop-item.invariant

pub returns : goal.returns
returns c nodesize at items are is =
    references-read nodesize at items c.args.here.now c.loop-item.item-index c.loop-item.references are is
    c.loop-item-test.false c.loop-item.invariant
    (subst (λ (l : List Counted). IsRefList l) c.as_slice-ascending.ensures.same c.as_slice-ascending.ensures.sound)
