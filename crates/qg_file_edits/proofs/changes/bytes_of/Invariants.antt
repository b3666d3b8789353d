use Rattle.std.proofs.Common.{◌≡◌, ◌<◌, ◌^◌, take}
use Rattle.qg_image.specs.FilesOf.{pieces_bytes}
use Rattle.qg_file_edits.proofs.changes.bytes_of.Given as goal

abbrev pub invariant-loop-piece : goal.invariant-loop-piece
invariant-loop-piece l =
    pieces_bytes (take l.piece-index l.pieces) < 2 ^ 64 → l.sum ≡ pieces_bytes (take l.piece-index l.pieces)
