use Rattle.std.proofs.Common.{◌≡◌, ℕ, List, None, take}
use Rattle.std.specs.List.{Contains}
use Rattle.qg_device.specs.History.{Event, Recorded, content}
use Rattle.qg_items.specs.declared.root.RootItem.{RootItem}
use Rattle.qg_super.specs.SuperText.{sizes_of}
use Rattle.qg_image.specs.Verdict.{subvolume_failure}
use Rattle.qg_walk.specs.WalkKeeps.{AreInSlots}
use Rattle.qg_shared_walk.specs.Found.{HasTrees}
use Rattle.qg_shared_walk.proofs.subvolumes.read_subvolumes.Given as goal

abbrev pub invariant-roots : goal.invariant-roots
invariant-roots g l = record {
  history : g.D.Disk.history l.disk ≡ g.D.Disk.history l.initial.disk;
  size : g.D.Disk.size l.disk ≡ g.D.Disk.size l.initial.disk;
  count : g.D.Disk.faults l.disk ≡ g.D.Disk.faults l.initial.disk;
  slots : AreInSlots (sizes_of l.superblock) g.N.NodeList.keeps l.memo.nodes;
  passes :
      (events : List Event) → g.D.Disk.history l.initial.disk ≡ Recorded events → (entry : ℕ × RootItem)
      → Contains (take l.entry-index l.roots) entry
      → subvolume_failure l.superblock (content events) entry.1 ≡ None;
  read :
      (events : List Event) → g.D.Disk.history l.initial.disk ≡ Recorded events
      → HasTrees l.superblock events g.N.NodeList.keeps (take l.entry-index l.roots) l.memo.digests.entries
      l.memo.nodes;
}
