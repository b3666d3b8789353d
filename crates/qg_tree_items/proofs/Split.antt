-- Items of files before and behind an INODE_ITEM are judged apart.
use Rattle.std.proofs.Common.{◌≡◌, ℕ, ◌<◌, ◌≤◌, Bool, true, false, cond, List, [], ◌∷◌, ◌++◌, refl, ap, sym, ◌∙◌, arith}
use Rattle.std.specs.Prelude.{◌&&◌, Some, is_some, ◌==◌}
use Rattle.std.specs.List.{AllByRecursion, list_all}
use Rattle.std.proofs.lemmas.Bool.{ne_eqb}
use Rattle.std.proofs.lemmas.List.{append-nil}
use Rattle.std.proofs.lemmas.List.Elements.{filter_map-append}
use Rattle.std.proofs.lemmas.List.Folds.{list_all-append}
use Rattle.qg_num.specs.declared.piece.Piece.{Piece}
use Rattle.qg_items.specs.declared.file.InodeItem.{InodeItem}
use Rattle.qg_image.specs.Table.{has_key, value_at}
use Rattle.qg_image.specs.declared.part.FilePart.{FilePart}
use Rattle.qg_image.specs.declared.part.FilePart.TheVariants.{Inode, PieceOf}
use Rattle.qg_image.specs.FilesOf.{are_files, inode_in, inodes_in, is_inode, is_owned, piece_in, pieces_in}
use Rattle.qg_tree_items.proofs.Standing.{IsBehind, ascending-behind, ino_of}
use Rattle.qg_tree_items.proofs.KeysAscend.{Ascend, all_after, all_before, all_weaker}

-- ---- what is told of a file by others

abbrev AreOthers : ℕ → List FilePart → Type 0
AreOthers n parts = AllByRecursion (λ one. ino_of one ≡ n → ⊥) parts

no_pieces : (n : ℕ) (parts : List FilePart) → AreOthers n parts → pieces_in n parts ≡ []
no_pieces n [] all = refl
no_pieces n (Inode other inode ∷ parts) all = no_pieces n parts all.1
no_pieces n (PieceOf other piece ∷ parts) all = rw (ne_eqb other n all.0) (no_pieces n parts all.1)

no_key : (n : ℕ) (parts : List FilePart) → AreOthers n parts → has_key n (inodes_in parts) ≡ false
no_key n [] all = refl
no_key n (PieceOf other piece ∷ parts) all = no_key n parts all.1
no_key n (Inode other inode ∷ parts) all = rw (ne_eqb other n all.0) (no_key n parts all.1)

pieces-front : (n : ℕ) (xs ys : List FilePart) → AreOthers n ys → pieces_in n (xs ++ ys) ≡ pieces_in n xs
pieces-front n xs ys all =
    filter_map-append (piece_in n) xs ys ∙ ap (λ (pieces : List Piece). pieces_in n xs ++ pieces) (no_pieces n ys all)
    ∙ append-nil (pieces_in n xs)

pieces-behind : (n : ℕ) (xs ys : List FilePart) → AreOthers n xs → pieces_in n (xs ++ ys) ≡ pieces_in n ys
pieces-behind n xs ys all =
    filter_map-append (piece_in n) xs ys ∙ ap (λ (pieces : List Piece). pieces ++ pieces_in n ys) (no_pieces n xs all)

key-behind : (n : ℕ) (xs ys : List FilePart) → AreOthers n xs
    → has_key n (inodes_in (xs ++ ys)) ≡ has_key n (inodes_in ys)
key-behind n [] ys all = refl
key-behind n (PieceOf other piece ∷ xs) ys all = key-behind n xs ys all.1
key-behind n (Inode other inode ∷ xs) ys all = rw (ne_eqb other n all.0) (key-behind n xs ys all.1)

key-front : (n : ℕ) (xs ys : List FilePart) → AreOthers n ys
    → has_key n (inodes_in (xs ++ ys)) ≡ has_key n (inodes_in xs)
key-front n [] ys all = no_key n ys all
key-front n (PieceOf other piece ∷ xs) ys all = key-front n xs ys all
key-front n (Inode other inode ∷ xs) ys all = cases (other == n) (key-front n xs ys all) where
  cases : (same : Bool) → has_key n (inodes_in (xs ++ ys)) ≡ has_key n (inodes_in xs)
      → is_some (cond same (Some inode) (value_at n (inodes_in (xs ++ ys))))
      ≡ is_some (cond same (Some inode) (value_at n (inodes_in xs)))
  cases true later = refl
  cases false later = later

-- ---- items are judged by what is told of their own files

owned_same : (P : ℕ → Type 0) (parts those some : List FilePart)
    → ((n : ℕ) → P n → has_key n (inodes_in parts) ≡ has_key n (inodes_in those))
    → AllByRecursion (λ one. P (ino_of one)) some → list_all (is_owned parts) some ≡ list_all (is_owned those) some
owned_same P parts those [] same all = refl
owned_same P parts those (Inode ino inode ∷ some) same all = owned_same P parts those some same all.1
owned_same P parts those (PieceOf ino piece ∷ some) same all =
    rw (same ino all.0, owned_same P parts those some same all.1) refl

inodes_same : (P : ℕ → Type 0) (parts those some : List FilePart)
    → ((n : ℕ) → P n → pieces_in n parts ≡ pieces_in n those)
    → AllByRecursion (λ one. P (ino_of one)) some
    → list_all (is_inode parts) (inodes_in some) ≡ list_all (is_inode those) (inodes_in some)
inodes_same P parts those [] same all = refl
inodes_same P parts those (PieceOf ino piece ∷ some) same all = inodes_same P parts those some same all.1
inodes_same P parts those (Inode ino inode ∷ some) same all =
    rw (same ino all.0, inodes_same P parts those some same all.1) refl

swap_and : (a b c d : Bool) → ((a && b) && (c && d)) ≡ ((a && c) && (b && d))
swap_and true true c d = refl
swap_and true false true d = refl
swap_and true false false d = refl
swap_and false b c d = refl

-- ---- files below a number, and from it on

module _ (bound : ℕ) (xs ys : List FilePart) (low : AllByRecursion (λ one. ino_of one < bound) xs)
    (high : AllByRecursion (λ one. bound ≤ ino_of one) ys) where
  lower : (n : ℕ) → n < bound → AreOthers n ys
  lower n less =
      all_weaker (λ one. bound ≤ ino_of one) (λ one. ino_of one ≡ n → ⊥)
      (λ one at_least same. omega (arith, less, at_least, same)) ys high

  higher : (n : ℕ) → bound ≤ n → AreOthers n xs
  higher n more =
      all_weaker (λ one. ino_of one < bound) (λ one. ino_of one ≡ n → ⊥)
      (λ one below same. omega (arith, more, below, same)) xs low

  owned_all : list_all (is_owned (xs ++ ys)) (xs ++ ys) ≡ (list_all (is_owned xs) xs && list_all (is_owned ys) ys)
  owned_all =
      let front = owned_same (λ n. n < bound) (xs ++ ys) xs xs (λ n less. key-front n xs ys (lower n less)) low in
      let behind = owned_same (λ n. bound ≤ n) (xs ++ ys) ys ys (λ n more. key-behind n xs ys (higher n more)) high in
      list_all-append (is_owned (xs ++ ys)) xs ys ∙ rw (front, behind) refl

  inodes_all : list_all (is_inode (xs ++ ys)) (inodes_in (xs ++ ys))
      ≡ (list_all (is_inode xs) (inodes_in xs) && list_all (is_inode ys) (inodes_in ys))
  inodes_all =
      let front = inodes_same (λ n. n < bound) (xs ++ ys) xs xs (λ n less. pieces-front n xs ys (lower n less)) low in
      let behind =
      inodes_same (λ n. bound ≤ n) (xs ++ ys) ys ys (λ n more. pieces-behind n xs ys (higher n more)) high in
      ap (list_all (is_inode (xs ++ ys))) (filter_map-append inode_in xs ys)
      ∙ list_all-append (is_inode (xs ++ ys)) (inodes_in xs) (inodes_in ys)
      ∙ rw (front, behind) refl

  apart : are_files (xs ++ ys) ≡ (are_files xs && are_files ys)
  unfolding are_files
  apart =
      rw (owned_all, inodes_all)
      (swap_and (list_all (is_owned xs) xs) (list_all (is_owned ys) ys) (list_all (is_inode xs) (inodes_in xs))
      (list_all (is_inode ys) (inodes_in ys)))

-- ---- before and behind an INODE_ITEM

-- there are no items, or first an INODE_ITEM
abbrev pub StartsFile : List FilePart → Type 0
StartsFile [] = Unit {0}
StartsFile (Inode ino inode ∷ parts) = Unit {0}
StartsFile (PieceOf ino piece ∷ parts) = ⊥

before_inode : (ino : ℕ) (inode : InodeItem) (one : FilePart) → IsBehind (ino_of one) (Inode ino inode)
    → ino_of one < ino
before_inode ino inode one less = less

pub from_inode : (ino : ℕ) (one : FilePart) → IsBehind ino one → ino ≤ ino_of one
from_inode ino (Inode other inode) less = omega (arith, less)
from_inode ino (PieceOf other piece) least = least

pub and-true : (b : Bool) → (b && true) ≡ b
and-true true = refl
and-true false = refl

pub none_sound : are_files [] ≡ true
unfolding are_files
none_sound = refl

pub split : (xs ys : List FilePart) → Ascend (xs ++ ys) → StartsFile ys
    → are_files (xs ++ ys) ≡ (are_files xs && are_files ys)
split xs [] ascends starts = rw (append-nil xs, none_sound) (sym (and-true (are_files xs)))
split xs (PieceOf ino piece ∷ ys) ascends starts = absurd starts
split xs (Inode ino inode ∷ ys) ascends starts =
    let low =
    all_weaker (λ one. IsBehind (ino_of one) (Inode ino inode)) (λ one. ino_of one < ino) (before_inode ino inode) xs
    (all_before xs (Inode ino inode) ys ascends) in
    let high =
    all_weaker (IsBehind ino) (λ one. ino ≤ ino_of one) (from_inode ino) ys
    (all_after (Inode ino inode) ys (ascending-behind xs (Inode ino inode ∷ ys) ascends)) in
    apart ino xs (Inode ino inode ∷ ys) low (omega arith, high)
