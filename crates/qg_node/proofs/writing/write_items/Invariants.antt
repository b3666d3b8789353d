use Rattle.std.proofs.Common.{length}
use Rattle.qg_node.proofs.Filling.{HoldsItems}
use Rattle.qg_node.proofs.writing.write_items.Given as goal

abbrev pub invariant-loop-i : goal.invariant-loop-i
invariant-loop-i l = HoldsItems l.items l.i l.end (length l.fn.room) l.room
