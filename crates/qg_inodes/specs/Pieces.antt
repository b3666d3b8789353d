-- Pieces of a file that share a byte with a range: the one that may reach into it, and those that begin in it (this
-- project's own).
--
-- Positions and lengths are in bytes.
use Rattle.std.specs.Prelude.{⊤, ℕ, ◌≤◌, Bool, ◌&&◌, ◌==◌, List, [], ◌∷◌, Option, Some, None, filter, nat_le, nat_lt}
use Rattle.std.specs.Prelude.{if◌then◌else◌}
use Rattle.qg_num.specs.declared.piece.Piece.{Piece}
use Rattle.qg_node.specs.declared.item.Item.{Item}
use Rattle.qg_items.specs.declared.kind.TheConstants.{EXTENT_DATA}
use Rattle.qg_image.specs.declared.file.File.{File}
use Rattle.qg_image.specs.Table.{value_at}
use Rattle.qg_machine.specs.FileChange.{pieces_or_none}
use Rattle.qg_inodes.specs.PiecesWritten.{pieces_met}
use Rattle.qg_inodes.specs.Items.{piece_of}

-- the pieces of the file of a number; none where there is no such file
abbrev pub pieces_at : ℕ → List (ℕ × File) → List Piece
pieces_at ino files = pieces_or_none (value_at ino files)

-- the last piece that begins at a position or in front of it, or else this one
abbrev pub last_begun : Option Piece → ℕ → List Piece → Option Piece
last_begun other position [] = other
last_begun other position (piece ∷ pieces) =
    last_begun (if nat_le piece.position position then Some piece else other) position pieces

-- a piece, if there is one, begins at a position or in front of it
abbrev pub BeginsBy : ℕ → Option Piece → Type 0
BeginsBy position None = ⊤
BeginsBy position (Some piece) = piece.position ≤ position

-- those that begin at one position or behind it, and in front of another
abbrev pub pieces_begun : ℕ → ℕ → List Piece → List Piece
pieces_begun from to pieces = filter (λ piece. nat_le from piece.position && nat_lt piece.position to) pieces

-- a piece, where there is one and it shares a byte with a range
abbrev pub piece_met : ℕ → ℕ → Option Piece → List Piece
piece_met from to None = []
piece_met from to (Some piece) = pieces_met from to (piece ∷ [])

-- ---- from items

-- an item is a piece of a file, by its key
abbrev pub is_piece_of : ℕ → Item → Bool
is_piece_of ino item = (item.key.objectid == ino) && (item.key.kind == EXTENT_DATA)

-- the piece that an item tells of a file, where there is one and it is a piece of it
abbrev pub own_piece : ℕ → Option Item → Option Piece
own_piece ino None = None
own_piece ino (Some item) = if is_piece_of ino item then piece_of item else None
