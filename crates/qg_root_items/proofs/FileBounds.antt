-- The numbers of files that can be written fit their fields.
use Rattle.std.proofs.Common.{◌≡◌, ℕ, ◌+◌, ◌≤◌, ◌<◌, ◌^◌, true, List, [], ◌∷◌, arith}
use Rattle.std.specs.List.{AllByRecursion}
use Rattle.std.proofs.lemmas.Bool.{leb-true}
use Rattle.std.proofs.lemmas.List.Elements.{recursion_from_All}
use Rattle.qg_num.specs.declared.piece.Piece.{Piece}
use Rattle.qg_items.specs.Laws.{InodeFits, ExtentDataFits}
use Rattle.qg_image.specs.declared.file.File.{File}
use Rattle.qg_image.specs.FilesOf.{are_pieces, is_file, piece_end}
use Rattle.qg_image.proofs.Pieces.{WholePiece-is_piece, FirstPiece-are_pieces, WholeFile-is_file}
use Rattle.qg_tree_items.proofs.PiecesOfFile.{file_small}
use Rattle.qg_tree_items.specs.Writable.{IsPlaced, IsWritableFile, IsFileBy}
use Rattle.qg_root_items.specs.Written.{inode_of, extent_data_of}

-- a piece ends by the size, and lies in its extent
pub record IsWithin (size : ℕ) (piece : Piece) : Type 0 where
  pub ends : piece.position + piece.len ≤ size
  pub some : 0 < piece.len
  pub inside : piece.offset + piece.len ≤ piece.extent_bytes

-- pieces are within a size that is no less than where they begin
record AreWithin (from size : ℕ) (pieces : List Piece) : Type 0 where
  above : from ≤ size
  each : AllByRecursion (IsWithin size) pieces

within : (from size : ℕ) (pieces : List Piece) → are_pieces from size pieces ≡ true → AreWithin from size pieces
unfolding are_pieces
within from size [] h = record { above = leb-true from size h; each = tt }
within from size (piece ∷ pieces) h =
    let first = FirstPiece-are_pieces from size piece pieces h in
    let whole = WholePiece-is_piece piece first.is in
    let later = within (piece_end piece) size pieces first.rest in
    let above : piece.position + piece.len ≤ size = later.above in
    record {
      above = omega (arith, first.begins);
      each = (record { ends = above; some = whole.some; inside = whole.in_extent }, later.each);
    }

-- the parts of a sound file
pub record IsSoundFile (file : File) : Type 0 where
  pub small : file.size ≤ 2 ^ 40
  pub pieces : are_pieces 0 file.size file.pieces ≡ true
  pub each : AllByRecursion (IsWithin file.size) file.pieces

pub sound_file : (file : File) → is_file file ≡ true → IsSoundFile file
sound_file file h =
    let whole = WholeFile-is_file file h in
    record { small = whole.least; pieces = whole.pieces; each = (within 0 file.size file.pieces whole.pieces).each }

-- ---- fields

-- the positions of pieces fit
pub positions_fit : (size : ℕ) (pieces : List Piece) → size ≤ 2 ^ 40 → AllByRecursion (IsWithin size) pieces
    → AllByRecursion (λ piece. piece.position < 2 ^ 64) pieces
positions_fit size [] small within = tt
positions_fit size (piece ∷ pieces) small within =
    let ends : piece.position + piece.len ≤ size = within.0.ends in
    (omega arith, positions_fit size pieces small within.1)

-- a file whose numbers fit
pub record FileFits (file : File) : Type 0 where
  pub inode : InodeFits (inode_of file)
  pub pieces : AllByRecursion (λ piece. ExtentDataFits (extent_data_of piece)) file.pieces

pieces_fit : (generation size : ℕ) (pieces : List Piece) → generation < 2 ^ 64 → size ≤ 2 ^ 40
    → AllByRecursion (IsWithin size) pieces
    → AllByRecursion IsPlaced pieces → AllByRecursion (λ piece. piece.stamp ≤ generation) pieces
    → AllByRecursion (λ piece. ExtentDataFits (extent_data_of piece)) pieces
pieces_fit generation size [] fits small within placed stamped = tt
pieces_fit generation size (piece ∷ pieces) fits small within placed stamped =
    let ends : piece.position + piece.len ≤ size = within.0.ends in
    let inside : piece.offset + piece.len ≤ piece.extent_bytes = within.0.inside in
    let address : piece.extent < 2 ^ 64 = placed.0.address in
    let bytes : piece.extent_bytes < 2 ^ 64 = placed.0.bytes in
    let stamp : piece.stamp ≤ generation = stamped.0 in
    let first : ExtentDataFits (extent_data_of piece) = record {
      generation = omega arith;
      ram_bytes = bytes;
      disk_bytenr = address;
      disk_num_bytes = bytes;
      offset = omega arith;
      num_bytes = omega arith;
    } in
    (first, pieces_fit generation size pieces fits small within.1 placed.1 stamped.1)

pub file_fits : (generation : ℕ) (file : ℕ × File) → generation < 2 ^ 64 → IsWritableFile file
    → IsFileBy generation file → FileFits file.1
file_fits generation file fits is by =
    let sound = sound_file file.1 is.sound in
    let few = file_small file.1 is.sound in
    let small : file.1.size ≤ 2 ^ 40 = sound.small in
    let made : file.1.generation ≤ generation = by.made in
    let changed : file.1.transid ≤ generation = by.changed in
    record {
      inode = record { generation = omega arith; transid = omega arith; size = omega arith; nbytes = omega arith };
      pieces = pieces_fit generation file.1.size file.1.pieces fits small sound.each
          (recursion_from_All IsPlaced file.1.pieces is.placed)
          (recursion_from_All (λ (piece : Piece). piece.stamp ≤ generation) file.1.pieces by.stamped);
    }
