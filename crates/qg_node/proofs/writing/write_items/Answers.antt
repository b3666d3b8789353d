use Rattle.std.proofs.Common.{arith, length}
use Rattle.qg_node.proofs.Filling.{HoldsItems-all, HoldsItems-fit, HoldsItems-more, HoldsItems-none}
use Rattle.qg_node.proofs.writing.write_items.Goals as goal

pub loop-i-init : goal.loop-i-init
loop-i-init c = HoldsItems-none c.args.items.now c.args.room.now c.requires.zero c.requires.fits

pub loop-i-preserved : goal.loop-i-preserved
loop-i-preserved c =
    HoldsItems-more c.args.items.now c.loop-i.i c.loop-i.end (length c.args.room.now) c.write_item-end.result
    c.loop-i.room c.write_item-end.new.room c.index-items-i.result (omega arith) c.index-items-i.is
    c.write_item-end.ensures.fits c.loop-i.invariant c.write_item-end.ensures.begin
    c.write_item-end.ensures.written

pub returns : goal.returns
returns c = record {
  text = HoldsItems-all c.args.items.now c.loop-i.i c.loop-i.end (length c.args.room.now) c.loop-i.room (omega arith)
      (omega arith) c.loop-i.invariant;
  fit = HoldsItems-fit c.args.items.now c.loop-i.i c.loop-i.end (length c.args.room.now) c.loop-i.room
      (omega arith) c.loop-i.invariant;
}
