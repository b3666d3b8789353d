use Rattle.std.proofs.Common.{drop}
use Rattle.qg_files.specs.Apart.{AreApartFrom}
use Rattle.calls.proofs.files.are_apart.Given as goal

-- what is left lies apart only with what was passed
abbrev pub invariant-loop-piece : goal.invariant-loop-piece
invariant-loop-piece l = AreApartFrom l.end (drop l.piece-index l.pieces) → AreApartFrom l.fn.from l.pieces
