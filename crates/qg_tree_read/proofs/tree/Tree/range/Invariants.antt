use Rattle.std.proofs.Common.{◌≡◌, ◌+◌, ◌*◌, ◌≤◌, ◌++◌, true, List, length}
use Rattle.std.specs.Prelude.{IfSome, IsSome}
use Rattle.qg_node.specs.declared.item.Item.{Item}
use Rattle.qg_tree_read.specs.Reading.{body_at, is_upto, items_within, rest_within}
use Rattle.qg_tree_read.specs.Tree.{TellsTree}
use Rattle.qg_tree_read.specs.Way.{HasRead, IsReadable}
use Rattle.qg_tree_read.proofs.Ranges.{left_of}
use Rattle.qg_tree_read.proofs.tree.Tree.range.Given as goal

abbrev pub invariant-leaves : goal.invariant-leaves
invariant-leaves g l = record {
  read : HasRead l.fn.blocks l.blocks (g.D.Disk.history l.fn.disk) (g.D.Disk.history l.disk) (g.D.Disk.size l.fn.disk)
      (g.D.Disk.size l.disk);
  readable : IsReadable l.blocks (g.D.Disk.history l.disk) (g.D.Disk.size l.disk);
  count : g.D.Disk.faults l.disk ≡ g.D.Disk.faults l.fn.disk;
  upto : IfSome l.next (λ key. is_upto l.to key ≡ true);
  there : (whole : List Item)
      → TellsTree g.P.TreePart.tree l.fn.self l.fn.blocks.draft (g.D.Disk.history l.fn.disk) whole
      → IfSome l.next (λ key. IsSome (body_at key whole));
  part : (whole : List Item)
      → TellsTree g.P.TreePart.tree l.fn.self l.fn.blocks.draft (g.D.Disk.history l.fn.disk) whole
      → items_within l.fn.from l.to whole ≡ l.found ++ rest_within l.next l.to whole;
  steps : (whole : List Item)
      → TellsTree g.P.TreePart.tree l.fn.self l.fn.blocks.draft (g.D.Disk.history l.fn.disk) whole
      → l.reads + (l.fn.self.height + 1) * length (rest_within l.next l.to whole) ≤ l.fn.reads
      + (l.fn.self.height + 1) * (1 + length (items_within l.fn.from l.to whole));
}

abbrev pub decreases-leaves : goal.decreases-leaves
decreases-leaves g l = left_of l.next
