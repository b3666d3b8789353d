-- The file of a piece, where items are those of sound files.
use Rattle.std.proofs.Common.{◌≡◌, ℕ, ◌<◌, ◌≤◌, Bool, true, false, cond, List, [], ◌∷◌, ◌++◌, refl, ◌∙◌, arith}
use Rattle.std.specs.Prelude.{Some, is_some, ◌==◌}
use Rattle.std.specs.List.{AllByRecursion, list_all}
use Rattle.std.proofs.lemmas.Bool.{and_parts, both_ways, eqb-true, false_from_ne_true, ne_eqb}
use Rattle.std.proofs.lemmas.List.Folds.{list_all-append}
use Rattle.qg_num.specs.declared.piece.Piece.{Piece}
use Rattle.qg_items.specs.declared.file.InodeItem.{InodeItem}
use Rattle.qg_image.specs.Table.{has_key, value_at}
use Rattle.qg_image.specs.declared.part.FilePart.{FilePart}
use Rattle.qg_image.specs.declared.part.FilePart.TheVariants.{Inode, PieceOf}
use Rattle.qg_image.specs.FilesOf.{are_files, are_pieces, file_in, inodes_in, is_file, is_inode, is_owned, largest_size}
use Rattle.qg_image.specs.FilesOf.{pieces_in}
use Rattle.qg_image.proofs.Pieces.{WholeFile-is_file}
use Rattle.qg_tree_items.proofs.Standing.{IsBehind, ascending-behind, ino_of}
use Rattle.qg_tree_items.proofs.KeysAscend.{Ascend, all_after}

-- ---- which files have an INODE_ITEM

no_key-front : (ino : ℕ) (front parts : List FilePart) → AllByRecursion (λ one. ino_of one < ino) front
    → has_key ino (inodes_in (front ++ parts)) ≡ has_key ino (inodes_in parts)
no_key-front ino [] parts all = refl
no_key-front ino (PieceOf other piece ∷ front) parts all = no_key-front ino front parts all.1
no_key-front ino (Inode other inode ∷ front) parts all =
    let apart : (other == ino) ≡ false = ne_eqb other ino (λ same. omega (arith, same, all.0)) in
    rw apart (no_key-front ino front parts all.1)

no_key-behind : (ino : ℕ) (parts : List FilePart) → AllByRecursion (IsBehind ino) parts
    → has_key ino (inodes_in parts) ≡ false
no_key-behind ino [] all = refl
no_key-behind ino (PieceOf other piece ∷ parts) all = no_key-behind ino parts all.1
no_key-behind ino (Inode other inode ∷ parts) all =
    let apart : (other == ino) ≡ false = ne_eqb other ino (λ same. omega (arith, same, all.0)) in
    rw apart (no_key-behind ino parts all.1)

-- ---- a piece has its file

owned : (front : List FilePart) (ino : ℕ) (piece : Piece) (behind : List FilePart)
    → are_files (front ++ (PieceOf ino piece ∷ behind)) ≡ true
    → has_key ino (inodes_in (front ++ (PieceOf ino piece ∷ behind))) ≡ true
unfolding are_files
owned front ino piece behind sound =
    let whole : List FilePart = front ++ (PieceOf ino piece ∷ behind) in
    let all = (and_parts (list_all (is_owned whole) whole) (list_all (is_inode whole) (inodes_in whole)) sound).0 in
    let both = rw (list_all-append (is_owned whole) front (PieceOf ino piece ∷ behind)) at all in
    let later =
    (and_parts (list_all (is_owned whole) front) (list_all (is_owned whole) (PieceOf ino piece ∷ behind)) both).1 in
    (and_parts (has_key ino (inodes_in whole)) (list_all (is_owned whole) behind) later).0

-- a piece whose file has no INODE_ITEM before it is of no sound files
pub orphan : (front : List FilePart) (ino : ℕ) (piece : Piece) (behind : List FilePart)
    → Ascend (front ++ (PieceOf ino piece ∷ behind))
    → AllByRecursion (λ one. ino_of one < ino) front → are_files (front ++ (PieceOf ino piece ∷ behind)) ≡ false
orphan front ino piece behind ascends less =
    let after = all_after (PieceOf ino piece) behind (ascending-behind front (PieceOf ino piece ∷ behind) ascends) in
    let none = no_key-front ino front (PieceOf ino piece ∷ behind) less ∙ no_key-behind ino behind after in
    false_from_ne_true (are_files (front ++ (PieceOf ino piece ∷ behind)))
    (λ sound. both_ways (has_key ino (inodes_in (front ++ (PieceOf ino piece ∷ behind)))) none
    (owned front ino piece behind sound))

-- ---- and its pieces fit it

pub record HasFile (ino : ℕ) (parts : List FilePart) : Type 0 where
  pub size : ℕ
  pub least : size ≤ largest_size
  pub fit : are_pieces 0 size (pieces_in ino parts) ≡ true

at_key : (test : ℕ × InodeItem → Bool) (ino : ℕ) (entries : List (ℕ × InodeItem)) → list_all test entries ≡ true
    → has_key ino entries ≡ true → (inode : InodeItem) × (test (ino, inode) ≡ true)
at_key test ino [] all has = absurd cc
at_key test ino (entry ∷ entries) all has =
    let both = and_parts (test entry) (list_all test entries) all in
    cases (entry.0 == ino) refl has both.0 (λ there. at_key test ino entries both.1 there) where
      cases : (same : Bool) → (entry.0 == ino) ≡ same
          → is_some (cond same (Some entry.1) (value_at ino entries)) ≡ true → test entry ≡ true
          → (has_key ino entries ≡ true → (inode : InodeItem) × (test (ino, inode) ≡ true))
          → (inode : InodeItem) × (test (ino, inode) ≡ true)
      cases true is there here later = (entry.1, rw (← eqb-true entry.0 ino is) here)
      cases false is there here later = later there

pub file_of_piece : (front : List FilePart) (ino : ℕ) (piece : Piece) (behind : List FilePart)
    → are_files (front ++ (PieceOf ino piece ∷ behind)) ≡ true
    → HasFile ino (front ++ (PieceOf ino piece ∷ behind))
unfolding are_files
file_of_piece front ino piece behind sound =
    let whole : List FilePart = front ++ (PieceOf ino piece ∷ behind) in
    let all = (and_parts (list_all (is_owned whole) whole) (list_all (is_inode whole) (inodes_in whole)) sound).1 in
    let told = at_key (is_inode whole) ino (inodes_in whole) all (owned front ino piece behind sound) in
    let file = file_in whole (ino, told.0) in
    let is = (and_parts _ (told.0.nbytes == _) told.1).0 in
    let fits = WholeFile-is_file file (and_parts _ (is_file file) is).1 in
    record { size = file.size; least = fits.least; fit = fits.pieces }
