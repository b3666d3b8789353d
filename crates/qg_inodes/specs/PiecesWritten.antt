-- The pieces of a file by their positions, once a range of it is written over or it is cut (this project's own).
--
-- Positions, lengths and sizes are in bytes.
use Rattle.std.specs.Prelude.{ℕ, ◌&&◌, ◌==◌, List, Option, None, nat_lt, filter, if◌then◌else◌}
use Rattle.std.specs.Option.{option_and_then}
use Rattle.qg_num.specs.declared.piece.Piece.{Piece}
use Rattle.qg_image.specs.FilesOf.{piece_end}
use Rattle.qg_machine.specs.FileChange.{part_after, part_before}
use Rattle.qg_inodes.specs.Bodies.{piece_at, piece_over}

-- the pieces that share a byte with a range
abbrev pub pieces_met : ℕ → ℕ → List Piece → List Piece
pieces_met from to pieces = filter (λ piece. nat_lt piece.position to && nat_lt from (piece_end piece)) pieces

-- those that end past a size
abbrev pub pieces_cut : ℕ → List Piece → List Piece
pieces_cut size pieces = filter (λ piece. nat_lt size (piece_end piece)) pieces

-- the piece at a position once a range has these pieces:
--
-- - in front of the range the one that was there, shortened where it reaches into the range;
-- - in the range one of those given;
-- - at the range's end what rests of the piece over it;
-- - behind that the one that was there.
abbrev pub piece_at_range : ℕ → ℕ → List Piece → List Piece → ℕ → Option Piece
piece_at_range from to given pieces position =
    if nat_lt position from then option_and_then (part_before from) (piece_at position pieces)
    else (if nat_lt position to then piece_at position given
    else (if position == to then option_and_then (part_after to) (piece_over to pieces) else piece_at position pieces))

-- and once a file is cut to a size
abbrev pub piece_at_cut : ℕ → List Piece → ℕ → Option Piece
piece_at_cut size pieces position =
    if nat_lt position size then option_and_then (part_before size) (piece_at position pieces) else None
