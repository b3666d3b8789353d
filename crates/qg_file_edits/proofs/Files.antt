-- Files once one of them is changed: they can be written, and tell no later generation.
use Rattle.std.proofs.Common.{◌≡◌, ℕ, ◌<◌, ◌≤◌, true, List, [], ◌∷◌, Option, Some, None, arith, refl, sym, subst, ◌∙◌}
use Rattle.std.proofs.Common.{inl, inr}
use Rattle.std.specs.Prelude.{◌==◌, not}
use Rattle.std.specs.List.{All}
use Rattle.std.proofs.lemmas.Bool.{cases_eq, cond-false, cond-true, eq-eqb, ne_eqb}
use Rattle.std.proofs.lemmas.List.Elements.{All-filter, All-from_recursion, All-head, All-nil, All-tail}
use Rattle.std.proofs.lemmas.List.Elements.{recursion_from_All}
use Rattle.qg_num.specs.declared.piece.Piece.{Piece}
use Rattle.qg_image.specs.declared.file.File.{File}
use Rattle.qg_image.specs.FilesOf.{are_pieces, inodes_end, is_aligned, largest_size, least_inode}
use Rattle.qg_image.specs.Table.{value_at, with_value, without_key}
use Rattle.qg_machine.specs.FileChange.{file_or_new, with_pieces, with_size}
use Rattle.qg_tree_items.specs.Writable.{AreWritableFiles, IsFileBy, IsPlaced, IsWritableFile}
use Rattle.qg_files.proofs.Kept.{is_file-with_pieces, is_file-with_size, new_is_file}
use Rattle.qg_files.proofs.Ascending.{all-with_value}
use Rattle.qg_file_edits.proofs.Parts.{Lasts, all-before, all-with_range}

-- what is said of all files is said of one that is there
pub file-found : (P : ℕ × File → Type 0) (n : ℕ) (file : File) (files : List (ℕ × File)) → value_at n files ≡ Some file
    → All P files → P (n, file)
file-found P n file [] is all = absurd cc
file-found P n file (entry ∷ files) is all = elim (cases_eq entry.0 n) [
  | inl same ↦
      let told : value_at n (entry ∷ files) ≡ Some entry.1 = cond-true (entry.0 == n) _ _ (eq-eqb entry.0 n same) in
      let here : entry.1 ≡ file = cc in
      subst (λ k. P (k, file)) same (subst (λ held. P (entry.0, held)) here (All-head P entry files all))
  | inr differ ↦
      let told : value_at n (entry ∷ files) ≡ value_at n files =
      cond-false (entry.0 == n) _ _ (ne_eqb entry.0 n differ) in
      file-found P n file files (sym told ∙ is) (All-tail P entry files all)
]

-- what is said of all files, and of one that is changed, is said of all of them then
pub all-with : (P : ℕ × File → Type 0) (ino : ℕ) (file : File) (files : List (ℕ × File)) → All P files → P (ino, file)
    → All P (with_value ino file files)
all-with P ino file files all new =
    All-from_recursion P (with_value ino file files)
    (all-with_value P ino file files new (recursion_from_All P files all))

pub by-without : (generation ino : ℕ) (files : List (ℕ × File)) → All (IsFileBy generation) files
    → All (IsFileBy generation) (without_key ino files)
by-without generation ino files by = All-filter (λ e. not (e.0 == ino)) (IsFileBy generation) files by

-- what is said of a new file, and of one that is there, is said of the one that is edited
found_or_new : (P : ℕ × File → Type 0) (generation ino : ℕ) (files : List (ℕ × File)) → All P files
    → P (ino, file_or_new generation None) → P (ino, file_or_new generation (value_at ino files))
found_or_new P generation ino files all new = cases (value_at ino files) refl where
  cases : (found : Option File) → value_at ino files ≡ found → P (ino, file_or_new generation found)
  cases None is = new
  cases (Some file) is = file-found P ino file files is all

-- ---- a range

lasts_placed : Lasts IsPlaced
lasts_placed piece position len offset is = record { address = is.address; bytes = is.bytes }

module _ (generation ino from to : ℕ) (given : List Piece) (files : List (ℕ × File)) (are : AreWritableFiles files)
    (least : least_inode ≤ ino) (below : ino < inodes_end) where
  old_writable : IsWritableFile (ino, file_or_new generation (value_at ino files))
  old_writable = found_or_new IsWritableFile generation ino files are.each (record {
    least = least;
    below = below;
    sound = new_is_file generation;
    placed = All-nil IsPlaced;
  })

  pub old-sound : IsWritableFile (ino, file_or_new generation (value_at ino files))
  old-sound = old_writable

  pub range-writable : is_aligned from ≡ true → is_aligned to ≡ true → to ≤ largest_size
      → are_pieces from to given ≡ true → All IsPlaced given
      → IsWritableFile (ino, with_pieces generation from to given (file_or_new generation (value_at ino files)))
  range-writable from_aligned to_aligned near pieces placed =
      let file = file_or_new generation (value_at ino files) in
      record {
        least = least;
        below = below;
        sound = is_file-with_pieces generation from to given file from_aligned to_aligned near pieces
            old_writable.sound;
        placed = all-with_range IsPlaced lasts_placed from to given file.pieces placed old_writable.placed;
      }

pub range-by : (generation ino from to : ℕ) (given : List Piece) (files : List (ℕ × File))
    → All (λ piece. piece.stamp ≤ generation) given → All (IsFileBy generation) files
    → IsFileBy generation (ino, with_pieces generation from to given (file_or_new generation (value_at ino files)))
range-by generation ino from to given files stamped by =
    let Stamped : Piece → Type 0 = λ piece. piece.stamp ≤ generation in
    let file = file_or_new generation (value_at ino files) in
    let was : IsFileBy generation (ino, file) =
    found_or_new (IsFileBy generation) generation ino files by
    (record { made = omega arith; changed = omega arith; stamped = All-nil Stamped }) in
    record {
      made = was.made;
      changed = omega arith;
      stamped = all-with_range Stamped (λ piece position len offset is. is) from to given file.pieces stamped
          was.stamped;
    }

-- ---- a size

module _ (generation ino size : ℕ) (file : File) (files : List (ℕ × File))
    (there : value_at ino files ≡ Some file) where
  pub cut-writable : AreWritableFiles files → is_aligned size ≡ true → size ≤ largest_size
      → IsWritableFile (ino, with_size generation size file)
  cut-writable are aligned near =
      let was = file-found IsWritableFile ino file files there are.each in
      record {
        least = was.least;
        below = was.below;
        sound = is_file-with_size generation size file aligned near was.sound;
        placed = all-before IsPlaced lasts_placed size file.pieces was.placed;
      }

  pub cut-by : All (IsFileBy generation) files → IsFileBy generation (ino, with_size generation size file)
  cut-by by =
      let Stamped : Piece → Type 0 = λ piece. piece.stamp ≤ generation in
      let was = file-found (IsFileBy generation) ino file files there by in
      record {
        made = was.made;
        changed = omega arith;
        stamped = all-before Stamped (λ piece position len offset is. is) size file.pieces was.stamped;
      }
