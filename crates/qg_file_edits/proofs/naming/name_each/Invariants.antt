use Rattle.qg_file_edits.proofs.Named.{NamesUpTo}
use Rattle.qg_file_edits.proofs.naming.name_each.Given as goal

abbrev pub invariant-loop-piece : goal.invariant-loop-piece
invariant-loop-piece l = NamesUpTo l.fn.fs l.fs l.ino l.pieces l.piece-index
