-- What the items of files say.
use Rattle.std.proofs.Common.{◌≡◌, ℕ, ◌≤◌, true, List, [], ◌∷◌, map, refl, sym, ap, ◌∙◌}
use Rattle.std.specs.Prelude.{Some}
use Rattle.std.specs.List.{AllByRecursion, flat_map, list_all}
use Rattle.std.proofs.lemmas.Bool.{eq-eqb, le-leb}
use Rattle.std.proofs.lemmas.List.{map-append}
use Rattle.std.proofs.lemmas.List.Elements.{filter_map-append}
use Rattle.std.proofs.lemmas.List.Folds.{list_all-append}
use Rattle.qg_num.specs.declared.key.Key.{Key}
use Rattle.qg_num.specs.declared.piece.Piece.{Piece}
use Rattle.qg_node.specs.declared.item.Item.{Item}
use Rattle.qg_items.specs.Laws.{InodeFits, ExtentDataFits}
use Rattle.qg_items.proofs.FileBodies.{inode_read-inode_text, extent_data_read-extent_data_text}
use Rattle.qg_image.specs.declared.file.File.{File}
use Rattle.qg_image.specs.declared.part.FilePart.{FilePart}
use Rattle.qg_image.specs.declared.part.FilePart.TheVariants.{Inode, PieceOf}
use Rattle.qg_image.specs.ItemMeaning.{file_part}
use Rattle.qg_image.specs.FilesOf.{file_parts, is_file_item}
use Rattle.qg_tree_items.specs.Keys.{file_key}
use Rattle.qg_root_items.specs.Written.{inode_of, extent_data_of, item_of_inode, item_of_piece, items_of_file}
use Rattle.qg_root_items.proofs.FileBounds.{FileFits}

-- what a file's items say
abbrev pub parts_of_file : ℕ × File → List FilePart
parts_of_file file = Inode file.0 (inode_of file.1) ∷ map (PieceOf file.0) file.1.pieces

-- ---- one item

inode_told : (ino : ℕ) (file : File) → InodeFits (inode_of file)
    → file_part (item_of_inode ino file) ≡ Some (Inode ino (inode_of file))
unfolding file_part
inode_told ino file fits = rw (eq-eqb ino ino refl, inode_read-inode_text (inode_of file) fits) refl

piece_told : (ino : ℕ) (piece : Piece) → ExtentDataFits (extent_data_of piece)
    → file_part (item_of_piece ino piece) ≡ Some (PieceOf ino piece)
unfolding file_part
piece_told ino piece fits =
    rw (
      eq-eqb ino ino refl,
      extent_data_read-extent_data_text (extent_data_of piece) fits,
      eq-eqb piece.extent_bytes
          piece.extent_bytes refl,
    ) refl

-- ---- one file

pieces_told : (ino : ℕ) (pieces : List Piece) → AllByRecursion (λ piece. ExtentDataFits (extent_data_of piece)) pieces
    → file_parts (map (item_of_piece ino) pieces) ≡ map (PieceOf ino) pieces
pieces_told ino [] fit = refl
pieces_told ino (piece ∷ pieces) fit = rw (piece_told ino piece fit.0, pieces_told ino pieces fit.1) refl

file_told : (file : ℕ × File) → FileFits file.1 → file_parts (items_of_file file) ≡ parts_of_file file
file_told file fits = rw (inode_told file.0 file.1 fits.inode, pieces_told file.0 file.1.pieces fits.pieces) refl

pieces_allowed : (generation ino : ℕ) (pieces : List Piece)
    → AllByRecursion (λ piece. ExtentDataFits (extent_data_of piece)) pieces
    → AllByRecursion (λ piece. piece.stamp ≤ generation) pieces
    → list_all (is_file_item generation) (map (item_of_piece ino) pieces) ≡ true
unfolding is_file_item
pieces_allowed generation ino [] fit stamped = refl
pieces_allowed generation ino (piece ∷ pieces) fit stamped =
    rw (
      piece_told ino piece fit.0,
      le-leb piece.stamp generation stamped.0,
      pieces_allowed generation ino pieces fit.1
          stamped.1,
    ) refl

-- no generation of a file is past this one
pub record AreStampsBy (generation : ℕ) (file : File) : Type 0 where
  pub made : file.generation ≤ generation
  pub changed : file.transid ≤ generation
  pub stamped : AllByRecursion (λ piece. piece.stamp ≤ generation) file.pieces

file_allowed : (generation : ℕ) (file : ℕ × File) → FileFits file.1 → AreStampsBy generation file.1
    → list_all (is_file_item generation) (items_of_file file) ≡ true
unfolding is_file_item
file_allowed generation file fits by =
    rw (
      inode_told file.0 file.1 fits.inode,
      le-leb file.1.generation generation by.made,
      le-leb file.1.transid generation by.changed,
      pieces_allowed generation file.0 file.1.pieces fits.pieces by.stamped,
    ) refl

-- ---- all files

pub files_told : (files : List (ℕ × File)) → AllByRecursion (λ file. FileFits file.1) files
    → file_parts (flat_map items_of_file files) ≡ flat_map parts_of_file files
files_told [] fit = refl
files_told (file ∷ files) fit =
    filter_map-append file_part (items_of_file file) (flat_map items_of_file files)
    ∙ rw (file_told file fit.0, files_told files fit.1) refl

pub files_allowed : (generation : ℕ) (files : List (ℕ × File)) → AllByRecursion (λ file. FileFits file.1) files
    → AllByRecursion (λ file. AreStampsBy generation file.1) files
    → list_all (is_file_item generation) (flat_map items_of_file files) ≡ true
files_allowed generation [] fit by = refl
files_allowed generation (file ∷ files) fit by =
    list_all-append (is_file_item generation) (items_of_file file) (flat_map items_of_file files)
    ∙ rw (file_allowed generation file fit.0 by.0, files_allowed generation files fit.1 by.1) refl

-- ---- keys

pieces_keyed : (ino : ℕ) (pieces : List Piece) → map (λ (item : Item). item.key) (map (item_of_piece ino) pieces)
    ≡ map file_key (map (PieceOf ino) pieces)
pieces_keyed ino [] = refl
pieces_keyed ino (piece ∷ pieces) = ap (λ (keys : List Key). file_key (PieceOf ino piece) ∷ keys)
    (pieces_keyed ino pieces)

-- an item has the key of what it says
pub files_keyed : (files : List (ℕ × File)) → map (λ (item : Item). item.key) (flat_map items_of_file files)
    ≡ map file_key (flat_map parts_of_file files)
files_keyed [] = refl
files_keyed (file ∷ files) =
    map-append (λ (item : Item). item.key) (items_of_file file) (flat_map items_of_file files)
    ∙ rw (pieces_keyed file.0 file.1.pieces, files_keyed files)
    (sym (map-append file_key (parts_of_file file) (flat_map parts_of_file files)))
