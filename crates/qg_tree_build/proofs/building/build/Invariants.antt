use Rattle.std.proofs.Common.{◌≡◌, ◌≤◌, ◌+◌, ◌++◌, ℕ, List, length, map}
use Rattle.qg_node.specs.declared.node.Node.{Node}
use Rattle.qg_node_alloc.specs.Tellings.{Telling}
use Rattle.qg_node_alloc.specs.Tellings.Telling.{Made}
use Rattle.qg_tree_build.proofs.Laid.{IsLaying}
use Rattle.qg_tree_build.proofs.Telling.{slots_laid}
use Rattle.qg_tree_build.proofs.building.build.Given as goal

abbrev pub invariant-nodes : goal.invariant-nodes
invariant-nodes g l = record {
  laid : List Node;
  whole : l.initial.nodes ≡ l.nodes ++ laid;
  laying : IsLaying l.fn.land l.land (g.D.Disk.history l.disk) l.fn.owner l.fn.next l.nodes laid;
  stands : g.B.Book.stands l.book l.land l.disk;
  settled : g.B.Book.settled l.fn.book l.fn.land l.fn.disk → g.B.Book.settled l.book l.land l.disk;
  told : (before : _) (log : List Telling) → g.B.Book.follows before log l.fn.book
      → g.B.Book.follows before (log ++ map Made (slots_laid laid)) l.book;
  history : g.D.Disk.history l.disk ≡ g.D.Disk.history l.fn.disk;
  size : g.D.Disk.size l.disk ≡ g.D.Disk.size l.fn.disk;
  later : g.D.Disk.faults l.disk ≡ g.D.Disk.faults l.fn.disk;
  reads : l.reads + g.B.Book.spent l.fn.book ≤ l.fn.reads + g.B.Book.spent l.book + length laid;
}

abbrev pub decreases-nodes : goal.decreases-nodes
decreases-nodes g l = length l.nodes
