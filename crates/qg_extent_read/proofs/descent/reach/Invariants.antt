use Rattle.std.proofs.Common.{◌≡◌, ◌+◌, ◌-◌, ◌≤◌, ◌⊎◌, ℕ, true, List, None, Some}
use Rattle.qg_device.specs.History.{Event, Recorded}
use Rattle.qg_node.specs.declared.item.Item.{Item}
use Rattle.qg_blocks.specs.NodesFound.{told}
use Rattle.qg_blocks.specs.Types.{Expected}
use Rattle.qg_blocks.specs.Walk.{root_expected}
use Rattle.qg_tree_items.specs.Types.{Extents}
use Rattle.qg_walk.specs.Added.{is_to}
use Rattle.qg_tree_read.specs.Tree.{TellsTree, super_of}
use Rattle.qg_tree_read.specs.Stopping.{MayComeTo}
use Rattle.qg_tree_read.specs.Way.{ComesTo, HasRead, IsReadable}
use Rattle.qg_tree_read.proofs.Leads.{IsOnWay}
use Rattle.qg_extent_read.specs.Ways.{LeadsDown, LeadsToLeaf}
use Rattle.qg_extent_read.proofs.descent.reach.Given as goal

abbrev pub invariant-down : goal.invariant-down
invariant-down g l = record {
  read : HasRead l.fn.blocks l.blocks (g.D.Disk.history l.fn.disk) (g.D.Disk.history l.disk) (g.D.Disk.size l.fn.disk)
      (g.D.Disk.size l.disk);
  readable : IsReadable l.blocks (g.D.Disk.history l.disk) (g.D.Disk.size l.disk);
  count : g.D.Disk.faults l.disk ≡ g.D.Disk.faults l.fn.disk;
  steps : l.reads + l.level ≡ l.fn.reads + l.fn.tree.height;
  low : l.level ≤ l.fn.tree.height;
  few : (l.level ≡ l.fn.tree.height) ⊎ (l.fn.tree.height ≤ 7);
  levelled : l.way.expected.level ≡ Some l.level;
  past : is_to l.way.expected.to l.fn.key ≡ true;
  comes : (events : List Event) → g.D.Disk.history l.fn.disk ≡ Recorded events
      → ComesTo Extents (super_of l.fn.tree l.fn.blocks.draft) (told l.fn.blocks.draft (Recorded events))
      (root_expected (Some l.fn.tree.height) None) l.fn.tree.address
      (l.fn.tree.height - l.level) l.way.expected l.way.address;
  led : MayComeTo Extents (super_of l.fn.tree l.fn.blocks.draft) (root_expected (Some l.fn.tree.height) None)
      l.fn.tree.address (l.fn.tree.height - l.level) l.way.expected l.way.address;
  on : (whole : List Item) → TellsTree Extents l.fn.tree l.fn.blocks.draft (g.D.Disk.history l.fn.disk) whole
      → IsOnWay Extents (super_of l.fn.tree l.fn.blocks.draft)
      (told l.fn.blocks.draft (g.D.Disk.history l.fn.disk)) l.fn.key l.level l.way.expected l.way.address whole;
  down : (whole : List Item) → TellsTree Extents l.fn.tree l.fn.blocks.draft (g.D.Disk.history l.fn.disk) whole
      → (leaf : Expected) (at : ℕ)
      → LeadsDown (told l.fn.blocks.draft (g.D.Disk.history l.fn.disk)) l.fn.key l.level l.way.expected l.way.address
      leaf at
      → LeadsToLeaf l.fn.tree l.fn.blocks.draft (g.D.Disk.history l.fn.disk) l.fn.key leaf at;
}

abbrev pub decreases-down : goal.decreases-down
decreases-down g l = l.level
