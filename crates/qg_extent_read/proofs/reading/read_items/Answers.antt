use Rattle.std.proofs.Common.{List, arith, Option, subst}
use Rattle.qg_device.specs.History.{History}
use Rattle.qg_num.specs.declared.key.Key.{Key}
use Rattle.qg_node.specs.declared.item.Item.{Item}
use Rattle.qg_blocks.specs.NodesInMemory.{Draft}
use Rattle.qg_tree_items.specs.Types.{Extents}
use Rattle.qg_tree_read.proofs.Reached.{tells-read}
use Rattle.qg_tree_read.proofs.Stopping.{on_way-err}
use Rattle.qg_tree_read.proofs.Visits.{HasRead-after}
use Rattle.qg_extent_read.specs.Leaves.{HasTakenLeaf}
use Rattle.qg_extent_read.proofs.Turns.{few-all, few-last, taken-all, taken-first, taken-more}
use Rattle.qg_extent_read.proofs.reading.read_items.Goals as goal

pub leaves-init : goal.leaves-init
leaves-init g c = record {
  read = c.in_ok-next.ensures.read;
  readable = c.in_ok-next.ensures.readable;
  count = omega (arith, c.in_ok-next.ensures.cause.fine);
  rise = c.in_ok-next.ensures.rise;
  so_far = λ whole tells. taken-first g.R.ItemReader.after c.args.tree.now c.args.blocks.now.draft
      (g.D.Disk.history c.args.disk.now) c.args.from c.args.to whole c.args.reader.now c.take_leaf.new.reader
      c.in_ok-next.next c.args.reads.now c.take_leaf.new.reads (c.in_ok-next.ensures.found whole tells)
      c.in_ok-next.ensures.reads;
}

pub returns-in_err-next-2-clause-reads : goal.returns-in_err-next-2-clause-reads
returns-in_err-next-2-clause-reads g c items tells =
    let first = c.in-Some.first in
    let so_far = rw c.in-Some.is at (c.leaves.invariant.so_far items tells.tells) in
    few-last g.R.ItemReader.after c.args.tree.now c.args.blocks.now.draft (g.D.Disk.history c.args.disk.now)
    c.args.from first c.args.to items c.args.reader.now c.leaves.reader c.args.reads.now c.leaves.reads
    c.take_leaf-in-Some.new.reads so_far tells.says tells.served c.in_err-next-2.ensures.reads

pub returns-in_err-next-2-clause-stops : goal.returns-in_err-next-2-clause-stops
returns-in_err-next-2-clause-stops g c =
    let residual = c.from_residual-in_err-next-2 in
    on_way-err (Option Key) residual.result Extents c.args.tree.now c.args.blocks.now.draft c.leaves.blocks.draft
    (g.D.Disk.size c.args.disk.now) (g.D.Disk.size c.leaves.disk)
    c.in_err-next-2.field-0.0 residual.ensures.1 c.leaves.invariant.read.draft c.leaves.invariant.read.size
    c.in_err-next-2.ensures.stops

pub leaves-preserved : goal.leaves-preserved
leaves-preserved g c =
    let root = c.args.tree.now in
    let from = c.args.from in
    let to = c.args.to in
    let first = c.in-Some.first in
    let draft = c.args.blocks.now.draft in
    let history = g.D.Disk.history c.args.disk.now in
    let after = g.R.ItemReader.after in
    let taken = λ (whole : List Item) (tells : _).
    subst (λ (d : Draft). HasTakenLeaf after root d history first to whole c.leaves.reader
    c.take_leaf-in-Some.new.reader c.in_ok-next-2.next) c.leaves.invariant.read.draft
    (subst (λ (h : History). HasTakenLeaf after root c.leaves.blocks.draft h first to whole c.leaves.reader
    c.take_leaf-in-Some.new.reader c.in_ok-next-2.next) c.leaves.invariant.read.history
    (c.in_ok-next-2.ensures.found whole
    (tells-read Extents root c.args.blocks.now c.leaves.blocks history (g.D.Disk.history c.leaves.disk)
    (g.D.Disk.size c.args.disk.now) (g.D.Disk.size c.leaves.disk) whole c.leaves.invariant.read tells))) in
    record {
      read = HasRead-after c.args.blocks.now c.leaves.blocks c.take_leaf-in-Some.new.blocks history
          (g.D.Disk.history c.leaves.disk) (g.D.Disk.history c.take_leaf-in-Some.new.disk)
          (g.D.Disk.size c.args.disk.now) (g.D.Disk.size c.leaves.disk) (g.D.Disk.size c.take_leaf-in-Some.new.disk)
          c.leaves.invariant.read c.in_ok-next-2.ensures.read;
      readable = c.in_ok-next-2.ensures.readable;
      count = omega (arith, c.in_ok-next-2.ensures.cause.fine, c.leaves.invariant.count);
      rise = omega (arith, c.in_ok-next-2.ensures.rise, c.leaves.invariant.rise);
      so_far = λ whole tells. taken-more after root draft history from first to whole c.args.reader.now c.leaves.reader
          c.take_leaf-in-Some.new.reader c.in_ok-next-2.next c.args.reads.now c.leaves.reads
          c.take_leaf-in-Some.new.reads (rw c.in-Some.is at (c.leaves.invariant.so_far whole tells))
          (taken whole tells) c.in_ok-next-2.ensures.reads;
    }

pub returns-clause-found : goal.returns-clause-found
returns-clause-found g c items tells =
    taken-all g.R.ItemReader.after c.args.tree.now c.args.blocks.now.draft (g.D.Disk.history c.args.disk.now)
    c.args.from c.args.to items c.args.reader.now c.leaves.reader c.args.reads.now c.leaves.reads
    (rw c.in_default.is at (c.leaves.invariant.so_far items tells))

pub returns-clause-reads : goal.returns-clause-reads
returns-clause-reads g c items tells =
    few-all g.R.ItemReader.after c.args.tree.now c.args.blocks.now.draft (g.D.Disk.history c.args.disk.now)
    c.args.from c.args.to items c.args.reader.now c.leaves.reader c.leaves.next c.args.reads.now c.leaves.reads
    (c.leaves.invariant.so_far items tells.tells) tells.says tells.served
