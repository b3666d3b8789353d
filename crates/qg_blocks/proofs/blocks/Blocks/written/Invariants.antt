use Rattle.std.proofs.Common.{◌≡◌, length}
use Rattle.qg_blocks.specs.NodesFound.{IsBacked}
use Rattle.qg_blocks.specs.Writing.{AreWritten}
use Rattle.qg_blocks.proofs.blocks.Blocks.written.Given as goal

abbrev pub invariant-loop : goal.invariant-loop
invariant-loop g l = record {
  sizes : l.self.draft.sizes ≡ l.fn.self.draft.sizes;
  bound : l.self.bound ≡ l.fn.self.bound;
  backed : IsBacked l.self (g.D.Disk.history l.fn.disk);
  written : AreWritten l.self.draft (g.D.Disk.history l.fn.disk);
}

abbrev pub decreases-loop : goal.decreases-loop
decreases-loop g l = length l.self.draft.fresh
