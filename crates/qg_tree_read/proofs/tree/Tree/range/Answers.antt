use Rattle.std.proofs.Common.{◌+◌, ◌++◌, List, length, arith, sym, ap, Option}
use Rattle.qg_num.specs.declared.key.Key.{Key}
use Rattle.qg_node.specs.declared.item.Item.{Item}
use Rattle.qg_tree_read.specs.Reading.{items_within}
use Rattle.qg_tree_read.proofs.Ranges.{gathered-begun, gathered-part, gathered-spent, spent-last, within_some}
use Rattle.qg_tree_read.proofs.Reached.{tells-read}
use Rattle.qg_tree_read.proofs.Visits.{HasRead-after}
use Rattle.qg_tree_read.proofs.Stopping.{on_way-err}
use Rattle.qg_tree_read.proofs.tree.Tree.range.Goals as goal

pub leaves-init : goal.leaves-init
leaves-init g c =
    let root = c.args.self.now in
    let from = c.args.from in
    let to = c.args.to in
    record {
      read = c.in_ok-next.ensures.read;
      readable = c.in_ok-next.ensures.readable;
      count = omega (arith, c.in_ok-next.ensures.cause.fine);
      upto = c.in_ok-next.ensures.further.upto;
      there = λ whole tells. (c.in_ok-next.ensures.found whole tells).further;
      part = λ whole tells. gathered-part from from to whole c.new-found.result c.gather.new.found c.in_ok-next.next
          (sym (ap (λ (xs : List Item). xs ++ items_within from to whole) c.new-found.ensures))
          (c.in_ok-next.ensures.found whole tells);
      steps = λ whole tells. gathered-begun from to whole c.new-found.result c.gather.new.found c.in_ok-next.next
          (root.height + 1) c.args.reads.now c.gather.new.reads
          (omega (arith, c.in_ok-next.ensures.reads)) (c.in_ok-next.ensures.found whole tells);
    }

pub returns-in_err-next-2-clause-reads : goal.returns-in_err-next-2-clause-reads
returns-in_err-next-2-clause-reads g c items tells =
    let to = c.args.to in
    let first = c.in-Some.first in
    let there = rw c.in-Some.is at (c.leaves.invariant.there items tells) in
    let upto = rw c.in-Some.is at c.leaves.invariant.upto in
    let steps = rw c.in-Some.is at (c.leaves.invariant.steps items tells) in
    spent-last (c.args.self.now.height + 1) (length (items_within first to items)) c.leaves.reads
    c.gather-in-Some.new.reads _ steps
    (omega (arith, c.in_err-next-2.ensures.reads)) (within_some first to items upto there)

pub returns-in_err-next-2-clause-stops : goal.returns-in_err-next-2-clause-stops
returns-in_err-next-2-clause-stops g c =
    let residual = c.from_residual-in_err-next-2 in
    on_way-err (Option Key) residual.result g.P.TreePart.tree c.args.self.now c.args.blocks.now.draft
    c.leaves.blocks.draft (g.D.Disk.size c.args.disk.now) (g.D.Disk.size c.leaves.disk)
    c.in_err-next-2.field-0.0 residual.ensures.1 c.leaves.invariant.read.draft c.leaves.invariant.read.size
    c.in_err-next-2.ensures.stops

pub leaves-preserved : goal.leaves-preserved
leaves-preserved g c =
    let tree = g.P.TreePart.tree in
    let root = c.args.self.now in
    let from = c.args.from in
    let to = c.args.to in
    let first = c.in-Some.first in
    let history = g.D.Disk.history c.args.disk.now in
    let after = λ (whole : List Item) (tells : _). c.in_ok-next-2.ensures.found whole
    (tells-read tree root c.args.blocks.now c.leaves.blocks history (g.D.Disk.history c.leaves.disk)
    (g.D.Disk.size c.args.disk.now) (g.D.Disk.size c.leaves.disk) whole c.leaves.invariant.read tells) in
    let upto = rw c.in-Some.is at c.leaves.invariant.upto in
    record {
      read = HasRead-after c.args.blocks.now c.leaves.blocks c.gather-in-Some.new.blocks history
          (g.D.Disk.history c.leaves.disk) (g.D.Disk.history c.gather-in-Some.new.disk)
          (g.D.Disk.size c.args.disk.now) (g.D.Disk.size c.leaves.disk) (g.D.Disk.size c.gather-in-Some.new.disk)
          c.leaves.invariant.read c.in_ok-next-2.ensures.read;
      readable = c.in_ok-next-2.ensures.readable;
      count = omega (arith, c.in_ok-next-2.ensures.cause.fine, c.leaves.invariant.count);
      upto = c.in_ok-next-2.ensures.further.upto;
      there = λ whole tells. (after whole tells).further;
      part = λ whole tells. gathered-part from first to whole c.leaves.found c.gather-in-Some.new.found
          c.in_ok-next-2.next (rw c.in-Some.is at (c.leaves.invariant.part whole tells)) (after whole tells);
      steps = λ whole tells. gathered-spent first to whole c.leaves.found c.gather-in-Some.new.found c.in_ok-next-2.next
          (root.height + 1) c.leaves.reads c.gather-in-Some.new.reads _
          (rw c.in-Some.is at (c.leaves.invariant.steps whole tells)) (omega (arith, c.in_ok-next-2.ensures.reads))
          (rw c.in-Some.is at (c.leaves.invariant.there whole tells)) upto (after whole tells);
    }
