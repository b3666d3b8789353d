use Rattle.qg_blocks.specs.NodesFound.{IsBacked}
use Rattle.bench.proofs.tree.reading.load_all.Given as goal

-- clean nodes are the disk's
abbrev pub invariant-loop-address : goal.invariant-loop-address
invariant-loop-address g l = IsBacked l.blocks (g.D.Disk.history l.disk)
