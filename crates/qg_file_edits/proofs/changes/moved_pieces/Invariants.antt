use Rattle.std.proofs.Common.{◌≡◌, map, take}
use Rattle.qg_machine.specs.FileChange.{moved}
use Rattle.qg_file_edits.proofs.changes.moved_pieces.Given as goal

abbrev pub invariant-loop-piece : goal.invariant-loop-piece
invariant-loop-piece l = l.given ≡ take l.piece-index (map (moved l.from l.off) l.piece-items)
