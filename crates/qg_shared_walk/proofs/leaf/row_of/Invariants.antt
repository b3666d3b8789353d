use Rattle.std.proofs.Common.{take}
use Rattle.qg_tree_items.specs.Rows.{Tells}
use Rattle.qg_shared_walk.proofs.leaf.row_of.Given as goal

abbrev pub invariant-loop-part : goal.invariant-loop-part
invariant-loop-part l = Tells l.row (take l.part-index l.parts)
