-- Items that are read as files are those that are written for these files.
use Rattle.std.proofs.Common.{◌≡◌, ℕ, true, List, [], ◌∷◌, ◌++◌, map, refl, ap, subst, ◌∙◌}
use Rattle.std.specs.Prelude.{All, ◌&&◌}
use Rattle.std.specs.List.{flat_map, list_all}
use Rattle.std.proofs.lemmas.Bool.{and_parts}
use Rattle.std.proofs.lemmas.List.{map-append}
use Rattle.std.proofs.lemmas.List.Elements.{All-from_recursion, recursion_from_All}
use Rattle.qg_num.specs.declared.piece.Piece.{Piece}
use Rattle.qg_num.specs.Fields.{IsBytes}
use Rattle.qg_node.specs.declared.item.Item.{Item}
use Rattle.qg_node.specs.Nodes.{is_ascending}
use Rattle.qg_items.proofs.Trips.{then_some_parts}
use Rattle.qg_image.specs.declared.file.File.{File}
use Rattle.qg_image.specs.declared.part.FilePart.TheVariants.{PieceOf}
use Rattle.qg_image.specs.FilesOf.{are_files, file_parts, files_in, files_of, is_file_item, AreItemsOfFiles}
use Rattle.qg_tree_items.specs.Writable.{IsFileBy, IsWritableFile}
use Rattle.qg_root_items.specs.Written.{item_of_inode, item_of_piece, items_of_file}
use Rattle.qg_inodes.specs.Bodies.{Ascend}
use Rattle.qg_inodes.specs.FileItemsLaws.{AreItemsOf}
use Rattle.qg_inodes.proofs.Numbers.{numbers-ascend}
use Rattle.qg_inodes.proofs.Read.{parts_of_file, read-files}
use Rattle.qg_inodes.proofs.Said.{item_of_part, said-by}

-- ---- the items of what a file's items say

pieces_items : (ino : ℕ) (pieces : List Piece)
    → map item_of_part (map (PieceOf ino) pieces) ≡ map (item_of_piece ino) pieces
pieces_items ino [] = refl
pieces_items ino (piece ∷ pieces) =
    ap (λ (items : List Item). item_of_piece ino piece ∷ items) (pieces_items ino pieces)

file_items : (file : ℕ × File) → map item_of_part (parts_of_file file) ≡ items_of_file file
file_items file = ap (λ (items : List Item). item_of_inode file.0 file.1 ∷ items) (pieces_items file.0 file.1.pieces)

files_items : (files : List (ℕ × File)) → map item_of_part (flat_map parts_of_file files) ≡ flat_map items_of_file files
files_items [] = refl
files_items (file ∷ files) =
    map-append item_of_part (parts_of_file file) (flat_map parts_of_file files)
    ∙ ap (λ (items : List Item). items ++ map item_of_part (flat_map parts_of_file files)) (file_items file)
    ∙ ap (λ (items : List Item). items_of_file file ++ items) (files_items files)

-- ---- all of them

record IsRead (generation : ℕ) (items : List Item) (files : List (ℕ × File)) : Type 0 where
  allowed : list_all (is_file_item generation) items ≡ true
  sound : are_files (file_parts items) ≡ true
  told : files_in (file_parts items) ≡ files

is_read : (generation : ℕ) (items : List Item) (files : List (ℕ × File)) → AreItemsOfFiles generation items files
    → IsRead generation items files
unfolding files_of
is_read generation items files is =
    let parts = file_parts items in
    let both =
    then_some_parts (list_all (is_file_item generation) items && are_files parts) (files_in parts) files is
    in
    let tests = and_parts (list_all (is_file_item generation) items) (are_files parts) both.0 in
    record { allowed = tests.0; sound = tests.1; told = both.1 }

pub spelled : (generation : ℕ) (items : List Item) (files : List (ℕ × File)) → All (λ item. IsBytes item.body) items
    → Ascend items
    → AreItemsOfFiles generation items files → AreItemsOf generation files items
spelled generation items files bytes ascending is =
    let read = is_read generation items files is in
    let said =
    said-by generation items (recursion_from_All (λ (item : Item). IsBytes item.body) items bytes) read.allowed
    in
    let told = read-files generation (file_parts items) (ap is_ascending said.keys ∙ ascending) read.sound said.each in
    let whole = said.are ∙ ap (map item_of_part) told.are ∙ files_items (files_in (file_parts items)) in
    let are : AreItemsOf generation (files_in (file_parts items)) items = record {
      are = whole;
      writable = record {
        ascending = numbers-ascend (files_in (file_parts items)) (subst Ascend whole ascending);
        each = All-from_recursion IsWritableFile (files_in (file_parts items)) told.writable;
      };
      by = All-from_recursion (IsFileBy generation) (files_in (file_parts items)) told.by;
    } in
    subst (λ (files : List (ℕ × File)). AreItemsOf generation files items) read.told are
