use Rattle.qg_node.proofs.ReadingLoops.{HasRead}
use Rattle.qg_node.proofs.reading.leaf.items_at.Given as goal

abbrev pub invariant-loop-i : goal.invariant-loop-i
invariant-loop-i l = HasRead l.items l.count l.i l.end l.low l.bytes
