use Rattle.std.proofs.Common.{◌≡◌, ◌+◌, ◌*◌, ◌-◌, ◌^◌, ◌<◌, ◌≤◌, All, Some, length, min}
use Rattle.qg_image.specs.State.{State}
use Rattle.qg_tree_read.specs.Way.{HasRead, IsReadable}
use Rattle.qg_subvolumes.specs.Counting.{LeadsToBranch, TellsNodes, ways_reached}
use Rattle.qg_subvolumes.proofs.counting.+counting.Given as goal

abbrev pub decreases-count_under : goal.decreases-count_under
decreases-count_under g l = 2 * l.level + 1

abbrev pub decreases-count_each : goal.decreases-count_each
decreases-count_each g l = 2 * (l.level + 1)

abbrev pub decreases-count_each-ways : goal.decreases-count_each-ways
decreases-count_each-ways g l = length l.rest

abbrev pub invariant-count_each-ways : goal.invariant-count_each-ways
invariant-count_each-ways g l = record {
  readable : IsReadable l.blocks (g.D.Disk.history l.disk) (g.D.Disk.size l.disk);
  levelled : All (λ way. way.expected.level ≡ Some l.level) l.rest;
  branches : (state : State) → All (LeadsToBranch state l.level) l.ways → All (LeadsToBranch state l.level) l.rest;
  counted : (state : State) → TellsNodes l.initial.blocks.draft (g.D.Disk.history l.initial.disk) state
      → All (LeadsToBranch state l.level) l.ways
      → min (l.count + ways_reached state l.level l.rest) (2 ^ 64 - 1)
      ≡ min (ways_reached state l.level l.ways) (2 ^ 64 - 1);
  fits : l.count < 2 ^ 64;
  reads : (state : State) → TellsNodes l.initial.blocks.draft (g.D.Disk.history l.initial.disk) state
      → All (LeadsToBranch state l.level) l.ways
      → l.reads + ways_reached state l.level l.rest ≤ l.initial.reads + ways_reached state l.level l.ways;
  read : HasRead l.initial.blocks l.blocks (g.D.Disk.history l.initial.disk) (g.D.Disk.history l.disk)
      (g.D.Disk.size l.initial.disk) (g.D.Disk.size l.disk);
  count : g.D.Disk.faults l.disk ≡ g.D.Disk.faults l.initial.disk;
}
