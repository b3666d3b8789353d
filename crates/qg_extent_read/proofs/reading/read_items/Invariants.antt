use Rattle.std.proofs.Common.{◌≡◌, ◌≤◌, List}
use Rattle.qg_node.specs.declared.item.Item.{Item}
use Rattle.qg_tree_items.specs.Types.{Extents}
use Rattle.qg_tree_read.specs.Tree.{TellsTree}
use Rattle.qg_tree_read.specs.Way.{HasRead, IsReadable}
use Rattle.qg_tree_read.proofs.Ranges.{left_of}
use Rattle.qg_extent_read.proofs.Turns.{HasTaken}
use Rattle.qg_extent_read.proofs.reading.read_items.Given as goal

abbrev pub invariant-leaves : goal.invariant-leaves
invariant-leaves g l = record {
  read : HasRead l.fn.blocks l.blocks (g.D.Disk.history l.fn.disk) (g.D.Disk.history l.disk) (g.D.Disk.size l.fn.disk)
      (g.D.Disk.size l.disk);
  readable : IsReadable l.blocks (g.D.Disk.history l.disk) (g.D.Disk.size l.disk);
  count : g.D.Disk.faults l.disk ≡ g.D.Disk.faults l.fn.disk;
  rise : l.fn.reads ≤ l.reads;
  so_far : (whole : List Item)
      → TellsTree Extents l.fn.tree l.fn.blocks.draft (g.D.Disk.history l.fn.disk) whole
      → HasTaken g.R.ItemReader.after l.fn.tree l.fn.blocks.draft (g.D.Disk.history l.fn.disk) l.fn.from l.to whole
      l.fn.reader l.reader l.next l.fn.reads l.reads;
}

abbrev pub decreases-leaves : goal.decreases-leaves
decreases-leaves g l = left_of l.next
