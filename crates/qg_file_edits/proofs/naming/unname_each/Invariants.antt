use Rattle.qg_file_edits.proofs.Named.{UnnamesUpTo}
use Rattle.qg_file_edits.proofs.naming.unname_each.Given as goal

abbrev pub invariant-loop-piece : goal.invariant-loop-piece
invariant-loop-piece l = UnnamesUpTo l.fn.fs l.fs l.ino l.pieces l.piece-index
