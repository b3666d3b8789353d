use Rattle.std.proofs.Common.{◌≡◌, ℕ, ◌+◌, ◌*◌, ◌≤◌, List, length, None}
use Rattle.qg_device.specs.History.{Event, Recorded}
use Rattle.qg_node.specs.declared.node.Node.{Node}
use Rattle.qg_node.specs.Nodes.{header_of}
use Rattle.qg_super.specs.SuperText.{sizes_of}
use Rattle.qg_walk.specs.WalkKeeps.{AreInSlots}
use Rattle.qg_walk.proofs.Failures.{height}
use Rattle.qg_shared_walk.specs.Wells.{below_failure}
use Rattle.qg_shared_walk.specs.Memo.{Remembers, WalksBelow}
use Rattle.qg_shared_walk.proofs.walk.+walk.Given as goal

abbrev pub decreases-walk : goal.decreases-walk
decreases-walk g l = 3 * height l.expected.now.level + 2

abbrev pub decreases-walk_under : goal.decreases-walk_under
decreases-walk_under g l = 3 * (header_of l.node.now).level + 1

abbrev pub decreases-walk_pointers : goal.decreases-walk_pointers
decreases-walk_pointers g l = 3 * (l.level + 1)

abbrev pub invariant-walk_pointers-pointers : goal.invariant-walk_pointers-pointers
invariant-walk_pointers-pointers g l = record {
  history : g.D.Disk.history l.disk ≡ g.D.Disk.history l.initial.disk;
  size : g.D.Disk.size l.disk ≡ g.D.Disk.size l.initial.disk;
  count : g.D.Disk.faults l.disk ≡ g.D.Disk.faults l.initial.disk;
  slots : AreInSlots (sizes_of l.superblock) g.N.NodeList.keeps l.initial.memo.nodes
      → AreInSlots (sizes_of l.superblock) g.N.NodeList.keeps l.memo.nodes;
  passes :
      (events : List Event) (depth : ℕ) → g.D.Disk.history l.initial.disk ≡ Recorded events → l.level ≤ depth
      → below_failure l.superblock events depth l.level l.expected.to l.pointers ≡ None
      → below_failure l.superblock events depth l.level l.expected.to l.rest ≡ None;
  walks :
      (events : List Event) (kept : List Node) → g.D.Disk.history l.initial.disk ≡ Recorded events
      → Remembers l.superblock events g.N.NodeList.keeps kept l.initial.memo.digests.entries l.initial.memo.nodes
      → WalksBelow l.superblock events g.N.NodeList.keeps kept l.memo.digests.entries l.memo.nodes l.expected.to l.level
      l.pointers l.rest l.below;
}

abbrev pub decreases-walk_pointers-pointers : goal.decreases-walk_pointers-pointers
decreases-walk_pointers-pointers g l = length l.rest
