use Rattle.std.proofs.Common.{◌≡◌, take}
use Rattle.qg_extent_read.specs.Leaves.{taken_within}
use Rattle.qg_extent_read.proofs.leaf.take_within.Given as goal

abbrev pub invariant-loop-item : goal.invariant-loop-item
invariant-loop-item g l = l.reader
    ≡ taken_within g.R.ItemReader.after l.initial.reader l.fn.from l.to (take l.item-index l.rest)
