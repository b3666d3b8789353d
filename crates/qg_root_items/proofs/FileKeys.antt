-- The keys of files' items ascend.
use Rattle.std.proofs.Common.{◌≡◌, ℕ, suc, ◌+◌, ◌≤◌, ◌<◌, Bool, true, List, [], ◌∷◌, ◌++◌, map, refl, sym, ap, ◌∙◌}
use Rattle.std.proofs.Common.{arith, subst}
use Rattle.std.specs.Prelude.{◌&&◌, slice_index}
use Rattle.std.specs.List.{AllByRecursion, flat_map}
use Rattle.std.specs.List.Sorted.{IsStrictlyIncreasing}
use Rattle.std.specs.Ordering.{is_lt, nat_cmp}
use Rattle.std.specs.Cmp.{nat_cmp_is}
use Rattle.std.specs.declared.cmp.Ordering.TheVariants.{Less, Equal}
use Rattle.qg_num.specs.Key.{key_cmp}
use Rattle.qg_num.specs.declared.key.Key.{Key}
use Rattle.qg_num.specs.declared.piece.Piece.{Piece}
use Rattle.qg_node.specs.declared.item.Item.{Item}
use Rattle.qg_node.specs.Nodes.{ascends_from, is_ascending}
use Rattle.qg_image.specs.declared.file.File.{File}
use Rattle.qg_image.specs.declared.part.FilePart.{FilePart}
use Rattle.qg_image.specs.declared.part.FilePart.TheVariants.{PieceOf}
use Rattle.qg_image.specs.FilesOf.{are_pieces, piece_end}
use Rattle.qg_image.specs.Table.{keys_of}
use Rattle.qg_image.proofs.Pieces.{WholePiece-is_piece, FirstPiece-are_pieces}
use Rattle.qg_tree_items.specs.Keys.{file_key, key_with}
use Rattle.qg_root_items.specs.Written.{items_of_file}
use Rattle.qg_root_items.proofs.FileBounds.{IsSoundFile}
use Rattle.qg_root_items.proofs.FileParts.{parts_of_file, files_keyed}

-- ---- two keys

is_less : (a b : ℕ) → a < b → nat_cmp a b ≡ Less
is_less a b h = sym (nat_cmp_is a b Less h)

is_same : (a : ℕ) → nat_cmp a a ≡ Equal
is_same a = sym (nat_cmp_is a a Equal refl)

-- a key of a lesser object is before
before_object : (low key : Key) → low.objectid < key.objectid → is_lt (key_cmp low key) ≡ true
before_object low key h = rw (is_less low.objectid key.objectid h) refl

-- an INODE_ITEM is before its pieces
before_pieces : (ino position : ℕ) → is_lt (key_cmp (key_with ino 1 0) (key_with ino 108 position)) ≡ true
before_pieces ino position = rw (is_same ino) refl

-- and a piece before one of a greater position
before_piece : (ino from to : ℕ) → from < to → is_lt (key_cmp (key_with ino 108 from) (key_with ino 108 to)) ≡ true
before_piece ino from to h = rw (is_same ino, is_less from to h) refl

-- ---- a file's pieces, and what stands behind them

-- parts that ascend behind each key of an object
record Follow (ino : ℕ) (rest : List FilePart) : Type 0 where
  after : (kind offset : ℕ) → ascends_from (key_with ino kind offset) (map file_key rest) ≡ true

both : (a b : Bool) → a ≡ true → b ≡ true → (a && b) ≡ true
both a b first second = rw (first, second) refl

pieces_ascend : (ino kind offset from size : ℕ) (pieces : List Piece) (rest : List FilePart)
    → ((position : ℕ) → from ≤ position → is_lt (key_cmp (key_with ino kind offset) (key_with ino 108 position)) ≡ true)
    → are_pieces from size pieces ≡ true → Follow ino rest
    → ascends_from (key_with ino kind offset) (map file_key (map (PieceOf ino) pieces ++ rest)) ≡ true
unfolding ascends_from are_pieces
pieces_ascend ino kind offset from size [] rest before h follow = follow.after kind offset
pieces_ascend ino kind offset from size (piece ∷ pieces) rest before h follow =
    let first = FirstPiece-are_pieces from size piece pieces h in
    let some : 0 < piece.len = (WholePiece-is_piece piece first.is).some in
    both (is_lt (key_cmp (key_with ino kind offset) (key_with ino 108 piece.position)))
    (ascends_from (key_with ino 108 piece.position) (map file_key (map (PieceOf ino) pieces ++ rest)))
    (before piece.position first.begins)
    (pieces_ascend ino 108 piece.position (piece_end piece) size pieces rest
    (λ position above. before_piece ino piece.position position (omega arith)) first.rest follow)

-- ---- all files

-- files ascend by number, and all are above one
abbrev pub Rise : ℕ → List (ℕ × File) → Type 0
Rise ino [] = Unit {0}
Rise ino (file ∷ files) = (ino < file.0) × Rise file.0 files

files_follow : (ino : ℕ) (files : List (ℕ × File)) → Rise ino files → AllByRecursion (λ file. IsSoundFile file.1) files
    → Follow ino (flat_map parts_of_file files)
unfolding ascends_from
files_follow ino [] rise sound = record { after = λ kind offset. refl }
files_follow ino (file ∷ files) rise sound = record {
  after = λ kind offset.
      both (is_lt (key_cmp (key_with ino kind offset) (key_with file.0 1 0)))
      (ascends_from (key_with file.0 1 0)
      (map file_key (map (PieceOf file.0) file.1.pieces ++ flat_map parts_of_file files)))
      (before_object (key_with ino kind offset) (key_with file.0 1 0) rise.0)
      (pieces_ascend file.0 1 0 0 file.1.size file.1.pieces (flat_map parts_of_file files)
      (λ position above. before_pieces file.0 position)
      sound.0.pieces (files_follow file.0 files rise.1 sound.1));
}

-- the keys of what the items of files say ascend
pub parts-ascending : (files : List (ℕ × File)) → Rise 0 files → AllByRecursion (λ file. IsSoundFile file.1) files
    → is_ascending (map file_key (flat_map parts_of_file files)) ≡ true
unfolding is_ascending
parts-ascending [] rise sound = refl
parts-ascending (file ∷ files) rise sound =
    pieces_ascend file.0 1 0 0 file.1.size file.1.pieces (flat_map parts_of_file files)
    (λ position above. before_pieces file.0 position)
    sound.0.pieces (files_follow file.0 files rise.1 sound.1)

pub items-ascending : (files : List (ℕ × File)) → Rise 0 files → AllByRecursion (λ file. IsSoundFile file.1) files
    → is_ascending (map (λ (item : Item). item.key) (flat_map items_of_file files)) ≡ true
items-ascending files rise sound = ap is_ascending (files_keyed files) ∙ parts-ascending files rise sound

-- ---- from the numbers alone

later_increasing : (x : ℕ) (xs : List ℕ) → IsStrictlyIncreasing (x ∷ xs) → IsStrictlyIncreasing xs
later_increasing x xs h k inside =
    let next : suc k + 1 ≡ suc (k + 1) = omega arith in
    subst (λ (n : ℕ). slice_index xs k < slice_index (x ∷ xs) n) next (h (suc k) (omega arith))

pub Rise-increasing : (ino : ℕ) (files : List (ℕ × File)) → IsStrictlyIncreasing (ino ∷ keys_of files) → Rise ino files
Rise-increasing ino [] h = tt
Rise-increasing ino (file ∷ files) h =
    (h 0 (omega arith), Rise-increasing file.0 files (later_increasing ino (keys_of (file ∷ files)) h))

pub Rise-numbers : (files : List (ℕ × File)) → AllByRecursion (λ file. 0 < file.0) files
    → IsStrictlyIncreasing (keys_of files) → Rise 0 files
Rise-numbers [] some h = tt
Rise-numbers (file ∷ files) some h = (some.0, Rise-increasing file.0 files h)
