use Rattle.std.proofs.Common.{length}
use Rattle.qg_node.proofs.Filling.{HoldsPointers}
use Rattle.qg_node.proofs.writing.write_pointers.Given as goal

abbrev pub invariant-loop-i : goal.invariant-loop-i
invariant-loop-i l = HoldsPointers l.pointers l.i (length l.fn.room) l.room
