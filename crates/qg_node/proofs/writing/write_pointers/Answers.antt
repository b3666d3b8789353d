use Rattle.std.proofs.Common.{arith, length}
use Rattle.qg_node.proofs.Filling.{HoldsPointers-all, HoldsPointers-fit, HoldsPointers-more, HoldsPointers-none}
use Rattle.qg_node.proofs.writing.write_pointers.Goals as goal

pub loop-i-init : goal.loop-i-init
loop-i-init c = HoldsPointers-none c.args.pointers.now c.args.room.now c.requires.zero

pub loop-i-preserved : goal.loop-i-preserved
loop-i-preserved c =
    HoldsPointers-more c.args.pointers.now c.loop-i.i (length c.args.room.now) c.loop-i.room c.put_bytes.new.bytes
    c.pointer_text-text.result c.index-pointers-i.result (omega arith) c.index-pointers-i.is
    c.pointer_text-text.ensures.fits c.requires.fits
    c.loop-i.invariant c.pointer_text-text.ensures.text c.put_bytes.ensures

pub returns : goal.returns
returns c = record {
  text = HoldsPointers-all c.args.pointers.now c.loop-i.i (length c.args.room.now) c.loop-i.room (omega arith)
      (omega arith) c.loop-i.invariant;
  fit = HoldsPointers-fit c.args.pointers.now c.loop-i.i (length c.args.room.now) c.loop-i.room
      (omega arith) c.loop-i.invariant;
}
