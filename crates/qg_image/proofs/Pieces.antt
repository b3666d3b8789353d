-- What pieces of whole sectors are, and files of them. Positions, lengths and sizes are in bytes.
use Rattle.std.proofs.Common.{◌≡◌, ℕ, ◌+◌, ◌%◌, ◌<◌, ◌≤◌, true, List, ◌∷◌}
use Rattle.std.specs.Prelude.{◌&&◌, nat_le, nat_lt}
use Rattle.std.proofs.lemmas.Bool.{and_parts, and_from, leb-true, le-leb, ltb-true, lt-ltb, eqb-true, eq-eqb}
use Rattle.qg_num.specs.declared.piece.Piece.{Piece}
use Rattle.qg_super.specs.Places.{sector}
use Rattle.qg_image.specs.declared.file.File.{File}
use Rattle.qg_image.specs.FilesOf.{piece_end, largest_size, is_aligned, is_piece, are_pieces, is_file}

-- ---- one piece

-- a piece of whole sectors that lies in its extent
pub record WholePiece (piece : Piece) : Type 0 where
  pub position : piece.position % sector ≡ 0
  pub len : piece.len % sector ≡ 0
  pub some : 0 < piece.len
  pub offset : piece.offset % sector ≡ 0
  pub extent : piece.extent_bytes % sector ≡ 0
  pub in_extent : piece.offset + piece.len ≤ piece.extent_bytes

pub WholePiece-is_piece : (piece : Piece) → is_piece piece ≡ true → WholePiece piece
unfolding is_piece
WholePiece-is_piece piece is =
    let position = is_aligned piece.position in
    let len = is_aligned piece.len in
    let some = nat_lt 0 piece.len in
    let offset = is_aligned piece.offset in
    let extent = is_aligned piece.extent_bytes in
    let to_in = and_parts (position && len && some && offset && extent)
    (nat_le (piece.offset + piece.len) piece.extent_bytes) is in
    let to_extent = and_parts (position && len && some && offset) extent to_in.0 in
    let to_offset = and_parts (position && len && some) offset to_extent.0 in
    let to_some = and_parts (position && len) some to_offset.0 in
    let to_len = and_parts position len to_some.0 in
    record {
      position = eqb-true (piece.position % sector) 0 to_len.0;
      len = eqb-true (piece.len % sector) 0 to_len.1;
      some = ltb-true 0 piece.len to_some.1;
      offset = eqb-true (piece.offset % sector) 0 to_offset.1;
      extent = eqb-true (piece.extent_bytes % sector) 0 to_extent.1;
      in_extent = leb-true (piece.offset + piece.len) piece.extent_bytes to_in.1;
    }

pub is_piece-WholePiece : (piece : Piece) → WholePiece piece → is_piece piece ≡ true
unfolding is_piece
is_piece-WholePiece piece whole =
    let to_len = and_from (is_aligned piece.position) (is_aligned piece.len)
    (eq-eqb (piece.position % sector) 0 whole.position) (eq-eqb (piece.len % sector) 0 whole.len) in
    let to_some = and_from _ (nat_lt 0 piece.len) to_len (lt-ltb 0 piece.len whole.some) in
    let to_offset = and_from _ (is_aligned piece.offset) to_some (eq-eqb (piece.offset % sector) 0 whole.offset) in
    let to_extent = and_from _ (is_aligned piece.extent_bytes) to_offset
    (eq-eqb (piece.extent_bytes % sector) 0 whole.extent) in
    and_from _ (nat_le (piece.offset + piece.len) piece.extent_bytes) to_extent
    (le-leb (piece.offset + piece.len) piece.extent_bytes whole.in_extent)

-- ---- pieces from a position on

-- the first of them, and the others
pub record FirstPiece (from size : ℕ) (piece : Piece) (pieces : List Piece) : Type 0 where
  pub begins : from ≤ piece.position
  pub is : is_piece piece ≡ true
  pub rest : are_pieces (piece_end piece) size pieces ≡ true

pub FirstPiece-are_pieces : (from size : ℕ) (piece : Piece) (pieces : List Piece)
    → are_pieces from size (piece ∷ pieces) ≡ true → FirstPiece from size piece pieces
unfolding are_pieces
FirstPiece-are_pieces from size piece pieces are =
    let to_rest = and_parts (nat_le from piece.position && is_piece piece) (are_pieces (piece_end piece) size pieces)
    are in
    let to_piece = and_parts (nat_le from piece.position) (is_piece piece) to_rest.0 in
    record { begins = leb-true from piece.position to_piece.0; is = to_piece.1; rest = to_rest.1 }

pub are_pieces-FirstPiece : (from size : ℕ) (piece : Piece) (pieces : List Piece) → FirstPiece from size piece pieces
    → are_pieces from size (piece ∷ pieces) ≡ true
unfolding are_pieces
are_pieces-FirstPiece from size piece pieces first =
    and_from (nat_le from piece.position && is_piece piece) (are_pieces (piece_end piece) size pieces)
    (and_from (nat_le from piece.position) (is_piece piece) (le-leb from piece.position first.begins) first.is)
    first.rest

-- ---- a file

pub record WholeFile (file : File) : Type 0 where
  pub size : is_aligned file.size ≡ true
  pub least : file.size ≤ largest_size
  pub pieces : are_pieces 0 file.size file.pieces ≡ true

pub WholeFile-is_file : (file : File) → is_file file ≡ true → WholeFile file
unfolding is_file
WholeFile-is_file file is =
    let to_pieces = and_parts (is_aligned file.size && nat_le file.size largest_size)
    (are_pieces 0 file.size file.pieces) is in
    let to_least = and_parts (is_aligned file.size) (nat_le file.size largest_size) to_pieces.0 in
    record { size = to_least.0; least = leb-true file.size largest_size to_least.1; pieces = to_pieces.1 }

pub is_file-WholeFile : (file : File) → WholeFile file → is_file file ≡ true
unfolding is_file
is_file-WholeFile file whole =
    and_from (is_aligned file.size && nat_le file.size largest_size) (are_pieces 0 file.size file.pieces)
    (and_from (is_aligned file.size) (nat_le file.size largest_size) whole.size
    (le-leb file.size largest_size whole.least)) whole.pieces
