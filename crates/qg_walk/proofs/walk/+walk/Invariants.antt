use Rattle.std.proofs.Common.{◌≡◌, ℕ, ◌+◌, ◌*◌, ◌≤◌, List, length}
use Rattle.qg_device.specs.History.{Event, Recorded, content}
use Rattle.qg_image.specs.Walk.{node_failure, node_found, pointers_failure, walk_failure}
use Rattle.qg_walk.specs.Added.{AreSpaced, found_by}
use Rattle.qg_walk.proofs.Failures.{height}
use Rattle.qg_walk.proofs.Growth.{HasPassed}
use Rattle.qg_walk.proofs.walk.+walk.Given as goal

abbrev pub decreases-walk : goal.decreases-walk
decreases-walk g l = 2 * height l.expected.now.level + 1

abbrev pub decreases-walk_pointers : goal.decreases-walk_pointers
decreases-walk_pointers g l = 2 * (l.level + 1)

abbrev pub invariant-walk_pointers-pointers : goal.invariant-walk_pointers-pointers
invariant-walk_pointers-pointers g l = record {
  history : g.D.Disk.history l.disk ≡ g.D.Disk.history l.initial.disk;
  size : g.D.Disk.size l.disk ≡ g.D.Disk.size l.initial.disk;
  count : g.D.Disk.faults l.disk ≡ g.D.Disk.faults l.initial.disk;
  spaced : AreSpaced l.expected.from l.expected.to l.rest;
  failure :
      (events : List Event) (depth : ℕ) → g.D.Disk.history l.initial.disk ≡ Recorded events → l.level ≤ depth
      → pointers_failure (walk_failure (node_failure g.P.TreePart.tree l.superblock)
      (node_found l.superblock (content events)) depth) l.level l.expected.to l.rest
      ≡ pointers_failure (walk_failure (node_failure g.P.TreePart.tree l.superblock)
      (node_found l.superblock (content events)) depth) l.level l.expected.to l.pointers;
  passed :
      HasPassed g.P.TreePart.tree g.P.TreePart.meaning g.N.NodeList.keeps l.superblock (g.D.Disk.history l.initial.disk)
      l.expected.from l.expected.to l.level l.pointers l.rest
      (found_by g.L.PartList.list l.initial.walked) (found_by g.L.PartList.list l.walked);
}

abbrev pub decreases-walk_pointers-pointers : goal.decreases-walk_pointers-pointers
decreases-walk_pointers-pointers g l = length l.rest
