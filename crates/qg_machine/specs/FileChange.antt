-- What each file command does to a subvolume's files (this project's own, after write(2), FICLONERANGE, truncate(2) and
-- unlink(2)). Positions, lengths and sizes are in bytes.
use Rattle.std.specs.Prelude.{ℕ, ◌+◌, ◌-◌, min, max, ◌&&◌, List, [], ◌∷◌, ◌++◌, map, length, Option, Some, None, nat_lt}
use Rattle.std.specs.Bool.{then_some}
use Rattle.std.specs.List.{filter_map, count_by}
use Rattle.std.specs.Option.{option_map}
use Rattle.qg_num.specs.declared.piece.Piece.{Piece}
use Rattle.qg_num.specs.declared.command.Command.{Command}
use Rattle.qg_num.specs.declared.command.Command.TheVariants.{Write, Clone, Truncate, Unlink}
use Rattle.qg_image.specs.Table.{with_value, without_key}
use Rattle.qg_image.specs.declared.file.File.{File}
use Rattle.qg_image.specs.FilesOf.{piece_end}
use Rattle.qg_image.specs.State.{State, files_in_sub, file_at, next_generation}
use Rattle.qg_image.specs.Space.{first_run}

-- ---- pieces

-- the part of a piece in front of a position
abbrev pub part_before : ℕ → Piece → Option Piece
part_before to piece = then_some (nat_lt piece.position to) (record piece { len = min piece.len (to - piece.position) })

-- the part of a piece from a position on; the extent that it names stays whole
abbrev pub part_after : ℕ → Piece → Option Piece
part_after from piece = then_some (nat_lt from (piece_end piece)) (record piece {
  position = max from piece.position;
  len = piece_end piece - max from piece.position;
  offset = piece.offset + (max from piece.position - piece.position);
})

-- what pieces have in front of a position
unfoldable pub before : ℕ → List Piece → List Piece
before to pieces = filter_map (part_before to) pieces

-- what pieces have from a position on
unfoldable pub after : ℕ → List Piece → List Piece
after from pieces = filter_map (part_after from) pieces

-- what they have in a range
abbrev pub within : ℕ → ℕ → List Piece → List Piece
within from to pieces = before to (after from pieces)

-- the same, with these pieces in the place of what they have in a range
abbrev pub with_range : ℕ → ℕ → List Piece → List Piece → List Piece
with_range from to given pieces = before from pieces ++ given ++ after to pieces

-- how many pieces share a byte with a range
abbrev pub pieces_meeting : ℕ → ℕ → List Piece → ℕ
pieces_meeting from to pieces = count_by (λ piece. nat_lt piece.position to && nat_lt from (piece_end piece)) pieces

-- how many end past a position
abbrev pub pieces_past : ℕ → List Piece → ℕ
pieces_past to pieces = count_by (λ piece. nat_lt to (piece_end piece)) pieces

-- ---- files

-- the file, or an empty one that is made in this generation
abbrev pub file_or_new : ℕ → Option File → File
file_or_new generation None = record { size = 0; generation = generation; transid = generation; pieces = [] }
file_or_new generation (Some file) = file

-- the pieces of a file; none where it is not there
abbrev pub pieces_or_none : Option File → List Piece
pieces_or_none None = []
pieces_or_none (Some file) = file.pieces

-- the file with these pieces in a range; its size grows to the range's end
abbrev pub with_pieces : ℕ → ℕ → ℕ → List Piece → File → File
with_pieces generation from to given file = record file {
  size = max file.size to;
  transid = generation;
  pieces = with_range from to given file.pieces;
}

-- one piece for the whole of a new extent
abbrev pub new_piece : ℕ → ℕ → ℕ → ℕ → Piece
new_piece generation position len extent = record {
  position = position;
  len = len;
  extent = extent;
  offset = 0;
  stamp = generation;
  extent_bytes = len;
}

-- a piece of one range, at its place in another
abbrev pub moved : ℕ → ℕ → Piece → Piece
moved from to piece = record piece { position = piece.position - from + to }

-- the file cut to a size, or grown to it with nothing behind
abbrev pub with_size : ℕ → ℕ → File → File
with_size generation size file = record file { size = size; transid = generation; pieces = before size file.pieces }

-- ---- commands

-- what a file command does: the subvolume that it edits, its files afterwards, the bytes that it reserves, and how many
-- pieces it touches
pub record FileChange : Type 0 where
  pub sub : ℕ
  pub files : List (ℕ × File)
  pub amount : ℕ
  pub pieces : ℕ

-- a write takes the free run of its length with the least address; the file's old pieces in its range go
abbrev pub write_change : State → ℕ → ℕ → ℕ → ℕ → ℕ → FileChange
write_change state sub ino off len extent = record {
  sub = sub;
  files = with_value ino (with_pieces (next_generation state) off (off + len)
      (new_piece (next_generation state) off len extent ∷ [])
      (file_or_new (next_generation state) (file_at state sub ino))) (files_in_sub state sub);
  amount = len + state.sizes.nodesize;
  pieces = pieces_meeting off (off + len) (pieces_or_none (file_at state sub ino));
}

-- a clone reads the source's pieces first, and puts pieces that name the same extents; holes become holes
abbrev pub clone_change : State → ℕ → ℕ → ℕ → ℕ → ℕ → ℕ → ℕ → FileChange
clone_change state sub ino off len to_sub to_ino to_off = record {
  sub = to_sub;
  files = with_value to_ino (with_pieces (next_generation state) to_off (to_off + len)
      (map (moved off to_off) (within off (off + len) (pieces_or_none (file_at state sub ino))))
      (file_or_new (next_generation state) (file_at state to_sub to_ino))) (files_in_sub state to_sub);
  amount = state.sizes.nodesize;
  pieces = pieces_meeting to_off (to_off + len) (pieces_or_none (file_at state to_sub to_ino)) + pieces_meeting off
      (off + len) (pieces_or_none (file_at state sub ino));
}

-- a truncate to a smaller size cuts what lies past it; one to a greater size sets the size alone
abbrev pub truncate_change : State → ℕ → ℕ → ℕ → File → FileChange
truncate_change state sub ino size file = record {
  sub = sub;
  files = with_value ino (with_size (next_generation state) size file) (files_in_sub state sub);
  amount = 0;
  pieces = pieces_past size file.pieces;
}

-- an unlink takes the file away with all its pieces
abbrev pub unlink_change : State → ℕ → ℕ → File → FileChange
unlink_change state sub ino file = record {
  sub = sub;
  files = without_key ino (files_in_sub state sub);
  amount = 0;
  pieces = length file.pieces;
}

-- what a file command does; none where it is no file command, a write finds no run, or a truncate or an unlink finds no
-- file. What a clone or a write of a file that is not there would do is told too: whether it is done is the refusals'
-- to say
unfoldable pub file_change : State → Command → Option FileChange
file_change state (Write sub ino off len) = option_map (write_change state sub ino off len) (first_run state len)
file_change state (Clone sub ino off len to_sub to_ino to_off) =
    Some (clone_change state sub ino off len to_sub to_ino to_off)
file_change state (Truncate sub ino size) = option_map (truncate_change state sub ino size) (file_at state sub ino)
file_change state (Unlink sub ino) = option_map (unlink_change state sub ino) (file_at state sub ino)
file_change state _ = None
