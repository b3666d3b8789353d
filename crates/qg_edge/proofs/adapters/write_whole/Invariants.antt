use Rattle.qg_edge.proofs.Written.{Written}
use Rattle.qg_edge.proofs.adapters.write_whole.Given as goal

abbrev pub invariant-writes : goal.invariant-writes
invariant-writes g l = Written (g.W.Write.contents l.fn.writer) (g.W.Write.contents l.writer) l.rest l.piece
