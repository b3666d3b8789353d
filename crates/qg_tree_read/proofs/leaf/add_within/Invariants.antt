use Rattle.std.proofs.Common.{◌≡◌, ◌++◌, take}
use Rattle.qg_tree_read.specs.Reading.{items_within}
use Rattle.qg_tree_read.proofs.leaf.add_within.Given as goal

abbrev pub invariant-loop-item : goal.invariant-loop-item
invariant-loop-item l = l.found ≡ l.initial.found ++ items_within l.from l.to (take l.item-index l.items)
